-- What the choice of a seed is lent: its postings are seeds, and its bases letters.
use mathlib.Core.Path.{◌≡◌, sym, ap, subst, ◌∙◌}
use mathlib.Core.Bool.{true}
use mathlib.Core.List.{List, [], map}
use Prim.Native.Nat.{ℕ, zero, suc, ◌+◌, ◌-◌, ◌≤◌, ◌<◌}
use native.Mathlib.Omega.{arith}
use lib.ListN.{length, get_or, length-map}
use Rattle.lists.specs.Cut.{window}
use Rattle.lists.proofs.Every.{every_at}
use Rattle.lists.proofs.Member.{get_or-∈}
use Rattle.lists.proofs.Places.{get_or-map}
use Rattle.bases.specs.Base.{is_capital, upper_of}
use Rattle.bases.specs.Read.{letters, capitals, folded, oriented}
use Rattle.bases.proofs.Bytes.{letter_low, letter_capital}
use Rattle.bases.proofs.Turning.{letters-turned, length-oriented}
use Rattle.index_columns.specs.Posting.{Posting, posting}
use Rattle.index_seeds.specs.Key.{key_of}
use Rattle.index_seeds.specs.Window.{starts}
use Rattle.index_lookup.specs.Range.{Rising, RangeOf}
use Rattle.index_model.specs.Index.{index_of, ranked_sequences}
use Rattle.index_model.proofs.Hits.{index_rising}
use Rattle.index_model.proofs.Indexing.{index-∈-seed}
use Rattle.index_model.proofs.Sequencing.{ranked_many}
use Rattle.map_candidates.specs.Search.{offset_count}
use Rattle.map_rarest_seed.specs.Shown.{PostingLent, ShowLent, Shown, ChoiceLent}
use Rattle.map_rarest_seed.proofs.Growing.{Low, seed_parts, column, counts_grow}

-- ---- letters

low-letters : (bs : List ℕ) → letters bs ≡ true → Low bs
low-letters bs t i h = letter_low (get_or bs i 0) (ap is_capital (sym (get_or-map upper_of 0 0 bs i h)) ∙ every_at is_capital 0 (folded bs) t i (rw length-map h))

low-capitals : (bs : List ℕ) → capitals bs ≡ true → Low bs
low-capitals bs t i h = letter_low (get_or bs i 0) (letter_capital (get_or bs i 0) (every_at is_capital 0 bs t i h))

letters-oriented : (strand : ℕ) (bs : List ℕ) → letters bs ≡ true → letters (oriented strand bs) ≡ true
letters-oriented zero bs t = t
letters-oriented (suc s) bs t = letters-turned bs ∙ t

module _ (q : ℕ) (bases ends ranked ks rs os read : List ℕ) (lent : ChoiceLent q bases ends ranked ks rs os read) where
  abbrev ss : List (List ℕ)
  ss = ranked_sequences bases ends ranked

  pub rising : Rising ks
  rising = subst Rising (sym lent.indexed.keys) (index_rising q ss)

  -- ---- postings

  index_long : (g : Posting → ℕ) (l : List ℕ) → l ≡ map g (index_of q ss) → length l ≡ length (index_of q ss)
  index_long g l e = ap length e ∙ length-map (index_of q ss) g

  module _ (o start end most : ℕ) (within : o + q + most ≤ length read) (strand : ℕ) (range : RangeOf ks (key_of (window (oriented strand read) o q)) start end) where
    pub show-lent : ShowLent q bases ends ranked rs os read o start end most
    show-lent =
        record {
          ordered = range.ordered;
          in_ranks = omega (arith, range.inside, index_long (λ x. x.key) ks lent.indexed.keys, index_long (λ x. x.rank) rs lent.indexed.ranks);
          in_positions = omega (arith, range.inside, index_long (λ x. x.key) ks lent.indexed.keys, index_long (λ x. x.position) os lent.indexed.positions);
          each = λ i f l. one i (omega (arith, range.inside, index_long (λ x. x.key) ks lent.indexed.keys));
        }
      where
        one : (i : ℕ) → i < length (index_of q ss) → PostingLent bases ends ranked (get_or rs i 0) (get_or os i 0) q read o most
        one i h =
            let p = get_or (index_of q ss) i (posting 0 0 0) in
            let s = seed_parts q ss p (index-∈-seed q ss p (get_or-∈ (posting 0 0 0) (index_of q ss) i h)) in
            let r = column q ss (λ x. x.rank) rs lent.indexed.ranks i h in
            let x = column q ss (λ x. x.position) os lent.indexed.positions i h in
            record {
              lent = lent.lent;
              is_ranked = omega (arith, r, s.0, ranked_many bases ends ranked);
              seed = rw (r, x) (omega (arith, s.1));
              letters_right = lent.letters_right;
              in_read = within;
            }

    pub grows : (r : ℕ) → Shown q ss rs os (oriented strand read) o start end most r → (d : ℕ) → d ≤ r → offset_count ks q (oriented strand read) o ≤ offset_count ks q (oriented strand read) (o + d)
    grows r t d h =
        counts_grow q ss ks rs os lent.indexed (λ n l. low-capitals (get_or ss n []) (every_at capitals [] ss lent.lent.capitals n l)) (oriented strand read)
        (low-letters (oriented strand read) (letters-oriented strand read lent.letters_right)) o start end most r (omega (arith, t.few, length-oriented strand read)) range t d h

  -- as many offsets as starts
  pub offsets : (strand : ℕ) → length read - q + 1 ≡ starts q (oriented strand read)
  offsets strand = omega (arith, length-oriented strand read, lent.long)
