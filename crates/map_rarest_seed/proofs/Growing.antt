-- A key has no fewer postings than another one each of whose postings goes on to it.
use mathlib.Core.Path.{◌≡◌, refl, sym, ap, subst₂, ◌∙◌}
use mathlib.Core.Bool.{true, ◌&&◌}
use mathlib.Core.Logic.{inl, inr}
use mathlib.Core.List.{List, [], ◌∷◌, map}
use Prim.Native.Nat.{ℕ, suc, ◌+◌, ◌≤◌, ◌<◌}
use native.Mathlib.Omega.{arith}
use lib.ListN.{length, get_or, length-map}
use lib.Dec.{eqb, ltb}
use borrow.Author.Tests.{eqb-true, eq-eqb, ltb-true, ltb-false, lt-ltb}
use Rattle.lists.specs.Cut.{window}
use Rattle.lists.specs.Member.{◌∈◌}
use Rattle.lists.specs.Order.{Ascending}
use Rattle.lists.proofs.Cases.{by_test, and-true}
use Rattle.lists.proofs.Member.{map-∈, ∈-get_or}
use Rattle.lists.proofs.Filter.{∈-filter, filter-∈}
use Rattle.lists.proofs.Places.{get_or-map}
use Rattle.lists.proofs.Order.{ascending_filter, ascending_map}
use Rattle.lists.proofs.Part.{part_shorter}
use Rattle.lists.proofs.Triple.{Before, before_test, test_before}
use Rattle.bases.specs.Base.{code_of}
use Rattle.index_columns.specs.Posting.{Posting, posting, triple, earlier}
use Rattle.index_columns.proofs.Order.{earlier_order}
use Rattle.index_seeds.specs.Key.{key_of}
use Rattle.index_seeds.specs.Seeds.{keys_of}
use Rattle.index_seeds.specs.Window.{window_of, starts}
use Rattle.index_lookup.specs.Range.{RangeOf}
use Rattle.index_model.specs.Index.{index_of, is_seed, hits, Indexed}
use Rattle.index_model.proofs.Indexing.{index_ascending, seed-∈-index, index-∈-seed}
use Rattle.map_candidates.specs.Search.{key_count, offset_count}
use Rattle.map_places.specs.Agreeing.{agreeing}
use Rattle.map_places.proofs.Alike.{agree_more, agree_part, agree_key, key_agree}
use Rattle.map_rarest_seed.specs.Shown.{GoesOn, Shown}

module _ (q : ℕ) (ss : List (List ℕ)) (k k' e : ℕ) where
  -- a posting e bases on, with the other key
  abbrev pub gone : Posting → Posting
  gone p = posting k' p.rank (p.position + e)

  pub hits_grow : ((p : Posting) → p ∈ hits k (index_of q ss) → is_seed q ss (gone p) ≡ true) → length (hits k (index_of q ss)) ≤ length (hits k' (index_of q ss))
  hits_grow seeds = omega (arith, length-map (hits k (index_of q ss)) gone, fewer)
    where
      at : (p : Posting) → p ∈ hits k (index_of q ss) → p.key ≡ k
      at p m = eqb-true p.key k (filter-∈ (λ (x : Posting). eqb x.key k) p (index_of q ss) m).1

      by : (x y : Posting) → x.key ≡ k → y.key ≡ k → Before (triple x) (triple y) → earlier (gone x) (gone y) ≡ true
      by x y h l (inl b) = absurd (omega arith)
      by x y h l (inr (f, inl b)) = before_test (triple (gone x)) (triple (gone y)) (inr (refl, inl b))
      by x y h l (inr (f, inr (g, b))) = before_test (triple (gone x)) (triple (gone y)) (inr (refl, inr (g, omega arith)))

      up : Ascending earlier (map gone (hits k (index_of q ss)))
      up =
          ascending_map earlier earlier gone (hits k (index_of q ss)) (λ x y m n t. by x y (at x m) (at y n) (test_before (triple x) (triple y) t))
          (ascending_filter earlier (λ (x : Posting). eqb x.key k) (index_of q ss) (index_ascending q ss))

      within : (z : Posting) → z ∈ map gone (hits k (index_of q ss)) → z ∈ hits k' (index_of q ss)
      within z m =
          let r = map-∈ gone z (hits k (index_of q ss)) m in
          rw r.2 (∈-filter (λ (x : Posting). eqb x.key k') (gone r.0) (index_of q ss) (seed-∈-index q ss (gone r.0) (seeds r.0 r.1)) (eq-eqb k' k' refl))

      fewer : length (map gone (hits k (index_of q ss))) ≤ length (hits k' (index_of q ss))
      fewer =
          part_shorter earlier earlier_order (hits k' (index_of q ss)) (map gone (hits k (index_of q ss))) up
          (ascending_filter earlier (λ (x : Posting). eqb x.key k') (index_of q ss) (index_ascending q ss)) within

-- ---- offsets of a read

-- as many keys of postings are equal to one as postings have it
pub keys_hits : (k : ℕ) (ps : List Posting) → key_count (keys_of ps) k ≡ length (hits k ps)
keys_hits k [] = refl
keys_hits k (p ∷ ps) = by_test (eqb p.key k) (λ e. rw e (ap suc (keys_hits k ps))) (λ e. rw e (keys_hits k ps))

-- a seed of sequences, said by its parts
pub seed_parts : (q : ℕ) (ss : List (List ℕ)) (p : Posting) → is_seed q ss p ≡ true
    → (p.rank < length ss) × (p.position < starts q (get_or ss p.rank [])) × (p.key ≡ key_of (window_of (get_or ss p.rank []) p.position q))
seed_parts q ss p t =
    let a = and-true (ltb p.rank (length ss) && ltb p.position (starts q (get_or ss p.rank []))) (eqb p.key (key_of (window_of (get_or ss p.rank []) p.position q))) t in
    let b = and-true (ltb p.rank (length ss)) (ltb p.position (starts q (get_or ss p.rank []))) a.0 in
    (ltb-true p.rank (length ss) b.0, ltb-true p.position (starts q (get_or ss p.rank [])) b.1, eqb-true p.key (key_of (window_of (get_or ss p.rank []) p.position q)) a.1)

parts_seed : (q : ℕ) (ss : List (List ℕ)) (p : Posting) → p.rank < length ss → p.position < starts q (get_or ss p.rank []) → p.key ≡ key_of (window_of (get_or ss p.rank []) p.position q) → is_seed q ss p ≡ true
parts_seed q ss p r s k = rw (lt-ltb p.rank (length ss) r, lt-ltb p.position (starts q (get_or ss p.rank [])) s, eq-eqb p.key (key_of (window_of (get_or ss p.rank []) p.position q)) k)

-- a number of a posting, by its place in a column
pub column : (q : ℕ) (ss : List (List ℕ)) (g : Posting → ℕ) (l : List ℕ) → l ≡ map g (index_of q ss) → (i : ℕ) → i < length (index_of q ss) → get_or l i 0 ≡ g (get_or (index_of q ss) i (posting 0 0 0))
column q ss g l e i h = ap (λ x. get_or x i 0) e ∙ get_or-map g (posting 0 0 0) 0 (index_of q ss) i h

-- the codes of bases that are letters
abbrev pub Low : List ℕ → Type 0
Low l = (i : ℕ) → i < length l → code_of (get_or l i 0) < 4

module _ (q : ℕ) (ss : List (List ℕ)) (ks rs os : List ℕ) (ix : Indexed q ss ks rs os) (low : (r : ℕ) → r < length ss → Low (get_or ss r [])) (b : List ℕ) (low_b : Low b)
    (o start end most r : ℕ) (within : o + q + r ≤ length b) (range : RangeOf ks (key_of (window b o q)) start end) (shown : Shown q ss rs os b o start end most r) where
  abbrev key : ℕ
  key = key_of (window b o q)

  -- each posting of the seed stands in the range
  in_range : (p : Posting) → p ∈ hits key (index_of q ss) → GoesOn q (get_or ss p.rank []) p.position b o r
  in_range p m =
      let f = filter-∈ (λ (x : Posting). eqb x.key key) p (index_of q ss) m in
      let i = ∈-get_or (posting 0 0 0) p (index_of q ss) f.0 in
      place p i.0 i.1 i.2 (eqb-true p.key key f.1)
    where
      place : (p : Posting) (i : ℕ) → i < length (index_of q ss) → p ≡ get_or (index_of q ss) i (posting 0 0 0) → p.key ≡ key → GoesOn q (get_or ss p.rank []) p.position b o r
      place p i h e k =
          let kk : get_or ks i 0 ≡ key = column q ss (λ x. x.key) ks ix.keys i h ∙ ap (λ (x : Posting). x.key) (sym e) ∙ k in
          let n : length ks ≡ length (index_of q ss) = ap length ix.keys ∙ length-map (index_of q ss) (λ (x : Posting). x.key) in
          let w = among i (omega (arith, n, h)) kk in
          subst₂ (λ x y. GoesOn q (get_or ss x []) y b o r)
          (column q ss (λ x. x.rank) rs ix.ranks i h ∙ ap (λ (x : Posting). x.rank) (sym e))
          (column q ss (λ x. x.position) os ix.positions i h ∙ ap (λ (x : Posting). x.position) (sym e))
          (shown.each i w.0 w.1)
        where
          among : (i : ℕ) → i < length ks → get_or ks i 0 ≡ key → (start ≤ i) × (i < end)
          among i h e =
              by_test (ltb i start)
              (λ t. absurd (omega (arith, range.before i (ltb-true i start t), e)))
              (λ t. by_test (ltb i end) (λ u. (ltb-false i start t, ltb-true i end u)) (λ u. absurd (omega (arith, range.after i (ltb-false i end u) h, e))))

  -- so the seed e bases on has no fewer postings
  pub counts_grow : (e : ℕ) → e ≤ r → offset_count ks q b o ≤ offset_count ks q b (o + e)
  counts_grow e h =
      omega (
        arith,
        ap (λ l. key_count l key) ix.keys,
        keys_hits key (index_of q ss),
        ap (λ l. key_count l (key_of (window b (o + e) q))) ix.keys,
        keys_hits (key_of (window b (o + e) q)) (index_of q ss),
        hits_grow q ss key (key_of (window b (o + e) q)) e goes,
      )
    where
      goes : (p : Posting) → p ∈ hits key (index_of q ss) → is_seed q ss (posting (key_of (window b (o + e) q)) p.rank (p.position + e)) ≡ true
      goes p m =
          let f = filter-∈ (λ (x : Posting). eqb x.key key) p (index_of q ss) m in
          let s = seed_parts q ss p (index-∈-seed q ss p f.0) in
          let g = in_range p m in
          let k : key_of (window_of (get_or ss p.rank []) p.position q) ≡ key_of (window_of b o q) = sym s.2 ∙ eqb-true p.key key f.1 in
          let a : agreeing q (get_or ss p.rank []) p.position b o ≡ true =
          key_agree (get_or ss p.rank []) p.position b o q (omega (arith, g.inside)) (omega arith)
          (λ n l. low p.rank s.0 (p.position + n) (omega (arith, g.inside))) (λ n l. low_b (o + n) (omega arith)) k in
          let all = agree_more (get_or ss p.rank []) p.position b o q r a g.agree in
          let part = agree_part (get_or ss p.rank []) p.position b o (q + r) e q all (omega arith) in
          parts_seed q ss (posting (key_of (window b (o + e) q)) p.rank (p.position + e)) s.0 (omega (arith, g.inside))
          (sym (agree_key (get_or ss p.rank []) (p.position + e) b (o + e) q (omega (arith, g.inside)) (omega arith) part))
