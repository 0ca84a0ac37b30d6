-- The chosen seeds of a read, by the columns of the index.
use mathlib.Core.Path.{◌≡◌, ap, ap₂, ◌∙◌}
use mathlib.Core.List.{List, [], ◌∷◌}
use Prim.Native.Nat.{ℕ, suc, ◌-◌, ◌*◌, ◌≤◌, ◌<◌}
use native.Mathlib.Omega.{arith}
use lib.ListN.{length, get_or, length-map, length-append}
use lib.Dec.{eqb}
use borrow.Author.Tests.{ltb-true, le-ltb}
use Rattle.lists.specs.Filter.{filter}
use Rattle.lists.specs.Cut.{window}
use Rattle.lists.proofs.Cases.{and-true}
use Rattle.lists.proofs.Filter.{length_filter}
use Rattle.lists.proofs.Member.{get_or-∈}
use Rattle.lists.proofs.Sort.{length_merge}
use Rattle.lists.proofs.Places.{get_or-map}
use Rattle.bases.specs.Read.{oriented}
use Rattle.bases.proofs.Turning.{length-oriented}
use Rattle.index_columns.specs.Posting.{Posting}
use Rattle.index_columns.proofs.Rows.{none}
use Rattle.index_seeds.specs.Key.{key_of}
use Rattle.index_seeds.specs.Seeds.{seeds}
use Rattle.index_seeds.specs.Window.{starts}
use Rattle.catalogue.specs.Catalogue.{max_bases}
use Rattle.index_seeds.proofs.Storing.{length-seeds}
use Rattle.index_model.specs.Index.{all_seeds, index_of, ranked_sequences, max_starts, Lent, Indexed}
use Rattle.index_model.proofs.Indexing.{index-∈-seed, length-index}
use Rattle.index_model.proofs.Sequencing.{ranked_many, ranked_length}
use Rattle.index_model.proofs.Hits.{range_hits}
use Rattle.map_places.specs.Place.{before}
use Rattle.map_candidates.specs.Search.{tried, rarest, lies, candidate, candidates, comparable, seed_hits, seed_count, lookups_on, chosen, key_count, offset_count, Rarest}
use Rattle.map_candidates.specs.Cursor.{CursorIn}
use Rattle.map_candidates.proofs.Waiting.{ahead}
use Rattle.map_rarest_seed.proofs.Growing.{keys_hits}

-- an index has no more postings than its sequences have places
all_few : (q r : ℕ) (ss : List (List ℕ)) → 1 ≤ q → ((i : ℕ) → i < length ss → length (get_or ss i []) ≤ max_bases) → length (all_seeds q r ss) ≤ length ss * 16777216
all_few q r [] some h = omega arith
all_few q r (s ∷ ss) some h = omega (arith, length-append (seeds q r s) (all_seeds q (suc r) ss), length-seeds q r s 0 (starts q s), h 0 (omega arith), all_few q (suc r) ss some (λ i l. h (suc i) (omega arith)))

pub index_few : (q : ℕ) (bases ends ranked : List ℕ) → 1 ≤ q → Lent bases ends ranked → length (index_of q (ranked_sequences bases ends ranked)) ≤ max_starts
index_few q bases ends ranked some l =
    omega (arith, length-index q (ranked_sequences bases ends ranked), l.few, ranked_many bases ends ranked, all_few q 0 (ranked_sequences bases ends ranked) some (λ i h. ranked_length bases ends ranked l i (omega (arith, ranked_many bases ends ranked))))

module _ (q : ℕ) (ss : List (List ℕ)) (ks rs os : List ℕ) (ix : Indexed q ss ks rs os) where
  -- ---- the choice

  module _ (read : List ℕ) (strand : ℕ) where
    counts : offset_count ks q (oriented strand read) ≡ seed_count q ss read strand
    counts = λ i o. at o i
      where
        at : (o : ℕ) → offset_count ks q (oriented strand read) o ≡ seed_count q ss read strand o
        at o = ap (λ l. key_count l (key_of (window (oriented strand read) o q))) ix.keys ∙ keys_hits (key_of (window (oriented strand read) o q)) (index_of q ss)

    starts-oriented : starts q (oriented strand read) ≡ starts q read
    starts-oriented = ap (λ n. suc n - q) (length-oriented strand read)

    module _ (offset start end lookups : ℕ) (r : Rarest ks q (oriented strand read) offset start end lookups) where
      pub chosen_offset : offset ≡ chosen q ss read strand
      chosen_offset = r.offset-is ∙ ap₂ rarest starts-oriented counts

      pub chosen_lookups : lookups ≡ lookups_on q ss read strand
      chosen_lookups = r.lookups_are ∙ ap₂ (λ n f. length (tried n f)) starts-oriented counts

      pub chosen_hits : seed_hits q ss read strand offset ≡ ahead (index_of q ss) start end
      chosen_hits = range_hits (key_of (window (oriented strand read) offset q)) start end (index_of q ss) (rw ix.keys at r.range_is)

  -- ---- the columns

  pub in_index : length ks ≡ length (index_of q ss)
  in_index = ap length ix.keys ∙ length-map (index_of q ss) (λ (p : Posting). p.key)

  -- a cursor that goes up to a place of the index
  pub cursor_in : (next end : ℕ) → next ≤ end → end ≤ length ks → CursorIn rs os (length ss) next end
  cursor_in next end h k =
      record {
        ordered = h;
        in_ranks = omega (arith, in_index, ap length ix.ranks, length-map (index_of q ss) (λ (p : Posting). p.rank));
        in_positions = omega (arith, in_index, ap length ix.positions, length-map (index_of q ss) (λ (p : Posting). p.position));
        ranked = λ i l. below i (omega (arith, in_index));
      }
    where
      below : (i : ℕ) → i < length (index_of q ss) → get_or rs i 0 < length ss
      below i l =
          let s = index-∈-seed q ss (get_or (index_of q ss) i none) (get_or-∈ none (index_of q ss) i l) in
          let p : Posting = get_or (index_of q ss) i none in
          let a = and-true _ _ s in
          let b = and-true _ _ a.0 in
          let e : get_or rs i 0 ≡ p.rank = ap (λ l. get_or l i 0) ix.ranks ∙ get_or-map (λ (p : Posting). p.rank) none 0 (index_of q ss) i l in
          omega (arith, e, ltb-true p.rank (length ss) b.0)

-- the compared list has no more places than both seeds can have postings
pub comparable_few : (q : ℕ) (ss : List (List ℕ)) (read : List ℕ) → q ≤ length read → length (comparable q ss read) ≤ 2 * length (index_of q ss)
unfolding comparable
comparable_few q ss read long = rw (le-ltb (length read) q long) (omega (arith, length_merge before (candidates q ss read 0) (candidates q ss read 1), side 0, side 1))
  where
    side : (strand : ℕ) → length (candidates q ss read strand) ≤ length (index_of q ss)
    side strand =
        let o = chosen q ss read strand in
        let k = key_of (window (oriented strand read) o q) in
        omega (arith, length-map (filter (lies ss (length read) o) (seed_hits q ss read strand o)) (candidate strand o), length_filter (lies ss (length read) o) (seed_hits q ss read strand o), length_filter (λ (p : Posting). eqb p.key k) (index_of q ss))
