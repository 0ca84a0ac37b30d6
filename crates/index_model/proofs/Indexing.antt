-- The index of sequences: its members, its order, and that the test of one pass tells it from any other columns.
use mathlib.Core.Path.{◌≡◌, refl, sym, ap, ap₂, ◌∙◌}
use mathlib.Core.Bool.{Bool, true, false, ◌&&◌}
use mathlib.Core.Logic.{◌⊎◌, inl, inr, ⊎_elim}
use mathlib.Core.List.{List, [], ◌∷◌}
use Prim.Native.Nat.{ℕ, zero, suc, ◌+◌, ◌<◌, ◌≤◌}
use native.Mathlib.Omega.{arith}
use lib.ListN.{length, get_or, length-map}
use lib.Dec.{ltb, eqb}
use borrow.Author.Tests.{ltb-true, lt-ltb, eqb-true, eq-eqb}
use Rattle.lists.specs.Member.{◌∈◌}
use Rattle.lists.specs.Order.{Apart, Ascending}
use Rattle.lists.specs.Same.{same}
use Rattle.lists.specs.Triple.{lexicographic}
use Rattle.lists.specs.Cut.{window}
use Rattle.lists.proofs.Cases.{by_test, clash, and-true, same_test}
use Rattle.lists.proofs.Member.{∈-append_left, ∈-append_right, append-∈, get_or-∈, ∈-get_or}
use Rattle.lists.proofs.Order.{ascending_append, ascending_apart, ascending_at, steps_ascending}
use Rattle.lists.proofs.Sort.{length_sort, sort_ascending, ∈-sort, sort-∈}
use Rattle.lists.proofs.Part.{part_whole}
use Rattle.lists.proofs.Same.{same_true, true_same}
use Rattle.lists.proofs.Triple.{before_test, lexicographic_order}
use Rattle.index_columns.specs.Posting.{Posting, earlier, rows, row, Columns}
use Rattle.index_columns.proofs.Rows.{none, rows-length, rows_at}
use Rattle.index_columns.proofs.Order.{earlier_order, earlier_total, posting_eq}
use Rattle.index_seeds.specs.Key.{key_of}
use Rattle.index_seeds.specs.Seeds.{seed_at, seeds_from, seeds, keys_of, ranks_of, positions_of}
use Rattle.index_seeds.specs.Window.{starts}
use Rattle.index_model.specs.Index.{all_seeds, index_of, columns_of, is_seed, RowsRight, Tells}
use Rattle.index_model.proofs.Sorting.{rows_of, keys_rows, ranks_rows, positions_rows}

-- ---- the members of all seeds

seeds-∈ : (q r : ℕ) (s : List ℕ) (i n : ℕ) (p : Posting) → p ∈ seeds_from q r s i n → (j : ℕ) × (i ≤ j) × (j < i + n) × (p ≡ seed_at q r s j)
seeds-∈ q r s i zero p x' = elim x' [ ]
seeds-∈ q r s i (suc n) p (inl e) = (i, omega arith, omega arith, e)
seeds-∈ q r s i (suc n) p (inr m) = let h = seeds-∈ q r s (suc i) n p m in (h.0, omega arith, omega arith, h.3)

∈-seeds : (q r : ℕ) (s : List ℕ) (i n k : ℕ) → k < n → seed_at q r s (i + k) ∈ seeds_from q r s i n
∈-seeds q r s i zero k h = absurd (omega arith)
∈-seeds q r s i (suc n) zero h =
    let z : i + 0 ≡ i = omega arith in
    inl (ap (λ j. seed_at q r s j) z)
∈-seeds q r s i (suc n) (suc k) h =
    let z : suc i + k ≡ i + suc k = omega arith in
    inr (rw z at (∈-seeds q r s (suc i) n k (omega arith)))

-- a seed of the j-th sequence
abbrev SeedOf : ℕ → ℕ → List (List ℕ) → Posting → Type 0
SeedOf q r ss p = (j : ℕ) × (j < length ss) × (i : ℕ) × (i < starts q (get_or ss j [])) × (p ≡ seed_at q (r + j) (get_or ss j []) i)

all-∈ : (q r : ℕ) (ss : List (List ℕ)) (p : Posting) → p ∈ all_seeds q r ss → SeedOf q r ss p
all-∈ q r [] p m = elim m [ ]
all-∈ q r (s ∷ ss) p m = ⊎_elim here (λ k. there (all-∈ q (suc r) ss p k)) (append-∈ p (seeds q r s) (all_seeds q (suc r) ss) m)
  where
    here : p ∈ seeds q r s → SeedOf q r (s ∷ ss) p
    here k =
        let h = seeds-∈ q r s 0 (starts q s) p k in
        let z : r ≡ r + 0 = omega arith in
        (0, omega arith, h.0, omega arith, h.3 ∙ ap (λ n. seed_at q n s h.0) z)

    there : SeedOf q (suc r) ss p → SeedOf q r (s ∷ ss) p
    there h =
        let z : suc r + h.0 ≡ r + suc h.0 = omega arith in
        (suc h.0, omega arith, h.2, h.3, h.4 ∙ ap (λ n. seed_at q n (get_or ss h.0 []) h.2) z)

∈-all : (q r : ℕ) (ss : List (List ℕ)) (j i : ℕ) → j < length ss → i < starts q (get_or ss j []) → seed_at q (r + j) (get_or ss j []) i ∈ all_seeds q r ss
∈-all q r [] j i h k = absurd (omega arith)
∈-all q r (s ∷ ss) zero i h k =
    let z : r + 0 ≡ r = omega arith in
    let y : 0 + i ≡ i = omega arith in
    ∈-append_left (seed_at q (r + 0) s i) (seeds q r s) (all_seeds q (suc r) ss) (rw z (rw y at (∈-seeds q r s 0 (starts q s) i k)))
∈-all q r (s ∷ ss) (suc j) i h k =
    let z : suc r + j ≡ r + suc j = omega arith in
    ∈-append_right (seed_at q (r + suc j) (get_or ss j []) i) (seeds q r s) (all_seeds q (suc r) ss) (rw z at (∈-all q (suc r) ss j i (omega arith) k))

-- the test of a seed
module _ (q : ℕ) (ss : List (List ℕ)) (p : Posting) where
  seed_in : is_seed q ss p ≡ true → p ∈ all_seeds q 0 ss
  seed_in t =
      let s = get_or ss p.rank [] in
      let u = and-true (ltb p.rank (length ss) && ltb p.position (starts q s)) (eqb p.key (key_of (window s p.position q))) t in
      let v = and-true (ltb p.rank (length ss)) (ltb p.position (starts q s)) u.0 in
      let e = eqb-true p.key (key_of (window s p.position q)) u.1 in
      let z : p.rank ≡ 0 + p.rank = omega arith in
      rw (posting_eq p (seed_at q (0 + p.rank) s p.position) (λ i. (e i, z i, p.position))) (∈-all q 0 ss p.rank p.position (ltb-true p.rank (length ss) v.0) (ltb-true p.position (starts q s) v.1))

  in_seed : p ∈ all_seeds q 0 ss → is_seed q ss p ≡ true
  in_seed m = go (all-∈ q 0 ss p m)
    where
      go : SeedOf q 0 ss p → is_seed q ss p ≡ true
      go h =
          let z : 0 + h.0 ≡ h.0 = omega arith in
          let k = key_of (window (get_or ss h.0 []) h.2 q) in
          rw (h.4, z, lt-ltb h.0 (length ss) h.1, lt-ltb h.2 (starts q (get_or ss h.0 [])) h.3) (eq-eqb k k refl)

-- ---- the order of all seeds: by rank, then start

nearer : Posting → Posting → Bool
nearer p o = lexicographic (p.rank, p.position, 0) (o.rank, o.position, 0)

seeds_ascending : (q r : ℕ) (s : List ℕ) (i n : ℕ) → Ascending nearer (seeds_from q r s i n)
unfolding nearer
seeds_ascending q r s i zero = tt
seeds_ascending q r s i (suc n) =
    (λ p m. let h = seeds-∈ q r s (suc i) n p m in rw h.3 (before_test (r, i, 0) (r, h.0, 0) (inr (refl, inl (omega arith)))), seeds_ascending q r s (suc i) n)

all_ascending : (q r : ℕ) (ss : List (List ℕ)) → Ascending nearer (all_seeds q r ss)
unfolding nearer
all_ascending q r [] = tt
all_ascending q r (s ∷ ss) = ascending_append nearer (seeds q r s) (all_seeds q (suc r) ss) (seeds_ascending q r s 0 (starts q s)) (all_ascending q (suc r) ss) across
  where
    across : (x y : Posting) → x ∈ seeds q r s → y ∈ all_seeds q (suc r) ss → nearer x y ≡ true
    across x y m k =
        let h = seeds-∈ q r s 0 (starts q s) x m in
        let g = all-∈ q (suc r) ss y k in
        rw (h.3, g.4) (before_test (r, h.0, 0) (suc r + g.0, g.2, 0) (inl (omega arith)))

all_apart : (q : ℕ) (ss : List (List ℕ)) → Apart earlier (all_seeds q 0 ss)
unfolding nearer
all_apart q ss = ascending_apart earlier nearer tells (all_seeds q 0 ss) (all_ascending q 0 ss)
  where
    tells : (x y : Posting) → nearer x y ≡ true → (earlier x y ≡ true) ⊎ (earlier y x ≡ true)
    tells x y h =
        by_test (earlier x y) (λ e. inl e) (λ e. by_test (earlier y x) (λ f. inr f) (λ f. clash (rw (earlier_total x y e f) at h) (lexicographic_order.irreflexive (y.rank, y.position, 0))))

-- ---- the index

module _ (q : ℕ) (ss : List (List ℕ)) where
  pub index_ascending : Ascending earlier (index_of q ss)
  unfolding index_of
  index_ascending = sort_ascending earlier earlier_order (all_seeds q 0 ss) (all_apart q ss)

  -- the index has each seed, and nothing else
  pub seed-∈-index : (p : Posting) → is_seed q ss p ≡ true → p ∈ index_of q ss
  unfolding index_of
  seed-∈-index p t = ∈-sort earlier p (all_seeds q 0 ss) (seed_in q ss p t)

  pub index-∈-seed : (p : Posting) → p ∈ index_of q ss → is_seed q ss p ≡ true
  unfolding index_of
  index-∈-seed p m = in_seed q ss p (sort-∈ earlier p (all_seeds q 0 ss) m)

  pub length-index : length (index_of q ss) ≡ length (all_seeds q 0 ss)
  unfolding index_of
  length-index = length_sort earlier (all_seeds q 0 ss)

  module _ (ks rs os : List ℕ) (c : Columns ks rs os) where
    at : (i : ℕ) → get_or (rows ks rs os) i none ≡ row ks rs os i
    at i = rows_at ks rs os i c.ranks c.positions

    long : length (rows ks rs os) ≡ length ks
    long = rows-length ks rs os c.ranks c.positions

    -- right rows, as many as the index has, are the index
    right_index : length ks ≡ length (all_seeds q 0 ss) → RowsRight q ss ks rs os → rows ks rs os ≡ index_of q ss
    right_index n r =
        part_whole earlier earlier_order (index_of q ss) (rows ks rs os)
        (steps_ascending earlier earlier_order none (rows ks rs os) (λ i h. rw (at i, at (suc i)) (r.climb i (omega (arith, long))))) index_ascending
        (λ z m. let w = ∈-get_or none z (rows ks rs os) m in seed-∈-index z (ap (is_seed q ss) (w.2 ∙ at w.0) ∙ r.seeds w.0 (omega (arith, long, w.1))))
        (omega (arith, long, length-index))

    -- the rows of an index are right
    index_right_lem : rows ks rs os ≡ index_of q ss → RowsRight q ss ks rs os
    index_right_lem e =
        record {
          seeds = λ i h. ap (is_seed q ss) (sym (at i)) ∙ index-∈-seed (get_or (rows ks rs os) i none) (rw e (get_or-∈ none (index_of q ss) i (omega (arith, long, ap length e))));
          climb = λ i h. ap₂ (λ x y. earlier x y) (sym (at i) ∙ ap (λ l. get_or l i none) e) (sym (at (suc i)) ∙ ap (λ l. get_or l (suc i) none) e) ∙ ascending_at earlier none (index_of q ss) index_ascending i (suc i) (omega arith) (omega (arith, long, ap length e));
        }

-- ---- columns

module _ (ps : List Posting) (ks rs os : List ℕ) where
  -- columns that hold postings have their number and their rows
  pub held_columns : columns_of ps ks rs os ≡ true → Columns ks rs os × (rows ks rs os ≡ ps)
  held_columns t =
      let u = and-true (same ks (keys_of ps) && same rs (ranks_of ps)) (same os (positions_of ps)) t in
      let v = and-true (same ks (keys_of ps)) (same rs (ranks_of ps)) u.0 in
      let k = same_true ks (keys_of ps) v.0 in
      let r = same_true rs (ranks_of ps) v.1 in
      let o = same_true os (positions_of ps) u.1 in
      let lk = ap length k ∙ length-map ps (λ (p : Posting). p.key) in
      (record { ranks = ap length r ∙ length-map ps (λ (p : Posting). p.rank) ∙ sym lk; positions = ap length o ∙ length-map ps (λ (p : Posting). p.position) ∙ sym lk }, rw (k, r, o) (rows_of ps))

  pub rows_held : Columns ks rs os → rows ks rs os ≡ ps → columns_of ps ks rs os ≡ true
  rows_held c e =
      rw (true_same ks (keys_of ps) (sym (keys_rows ks rs os c) ∙ ap keys_of e), true_same rs (ranks_of ps) (sym (ranks_rows ks rs os c) ∙ ap ranks_of e))
      (true_same os (positions_of ps) (sym (positions_rows ks rs os c) ∙ ap positions_of e))

  -- each column has the number of the postings
  pub held_length : columns_of ps ks rs os ≡ true → (length ks ≡ length ps) × (length rs ≡ length ps) × (length os ≡ length ps)
  held_length t =
      let h = held_columns t in
      let l = sym (rows-length ks rs os h.0.ranks h.0.positions) ∙ ap length h.1 in
      (l, h.0.ranks ∙ l, h.0.positions ∙ l)

-- ---- the test

module _ (q : ℕ) (ss : List (List ℕ)) (ks rs os : List ℕ) where
  -- columns of another number are not the index
  pub other_number : ((length ks ≡ length (index_of q ss)) × (length rs ≡ length (index_of q ss)) × (length os ≡ length (index_of q ss)) → ⊥) → false ≡ columns_of (index_of q ss) ks rs os
  other_number ne = sym (by_test (columns_of (index_of q ss) ks rs os) (λ t. absurd (ne (held_length (index_of q ss) ks rs os t))) (λ t. t))

  -- the test of the rows tells whether columns of the right number are the index
  pub by_rows : Columns ks rs os → length ks ≡ length (all_seeds q 0 ss) → (r : Bool) → Tells r (RowsRight q ss ks rs os) → r ≡ columns_of (index_of q ss) ks rs os
  by_rows c n r t =
      same_test
      (λ e. rows_held (index_of q ss) ks rs os c (right_index q ss ks rs os c n (t.yes_so e)))
      (λ e. by_test r (λ f. f) (λ f. absurd (t.not_so f (index_right_lem q ss ks rs os c (held_columns (index_of q ss) ks rs os e).1))))
