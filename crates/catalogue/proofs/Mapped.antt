-- The mapped targets of a catalogue: their ranks, and that the order of supply changes nothing but places.
use mathlib.Core.Path.{◌≡◌, refl, sym, ap, ap₂, ◌∙◌}
use mathlib.Core.Bool.{true, not}
use mathlib.Core.Logic.{◌⊎◌, inl, inr}
use mathlib.Core.List.{List, [], ◌∷◌, map}
use Prim.Native.Nat.{ℕ, zero, suc, ◌+◌, ◌<◌, ◌≤◌}
use native.Mathlib.Omega.{arith}
use native.Mathlib.Nat.{zero-add}
use lib.ListN.{length, get_or}
use lib.Dec.{eqb}
use Rattle.lists.specs.Filter.{filter, every}
use Rattle.lists.specs.Member.{◌∈◌}
use Rattle.lists.specs.Order.{Apart, Ascending}
use Rattle.lists.specs.Sort.{sort}
use Rattle.lists.specs.Same.{same}
use Rattle.lists.proofs.Cases.{by_test, clash, compare, and-true}
use Rattle.lists.proofs.Member.{∈-map, map-∈}
use Rattle.lists.proofs.Filter.{∈-filter, filter-∈}
use Rattle.lists.proofs.Order.{order_by, ascending_filter, ascending_map, ascending_unique, apart_filter}
use Rattle.lists.proofs.Sort.{sort_ascending, ∈-sort, sort-∈}
use Rattle.identifiers.specs.Name.{name_before, distinct_names, place_before}
use Rattle.lists.specs.Numbers.{numbers}
use Rattle.catalogue.specs.Catalogue.{Catalogue, Target, targets_from, targets, names, sequences, is_mapped, by_name, in_bounds, mapped}
use Rattle.catalogue.specs.Ranking.{linear_at, linear_places}
use Rattle.lists.proofs.Cut.{length_cut}
use Rattle.catalogue.proofs.Checks.{bounded}
use Rattle.identifiers.proofs.NameLaws.{name_order, name_total, place_order, two_same}
use Rattle.lists.proofs.Numbers.{numbers-∈, ∈-numbers}

-- ---- targets by place

abbrev target : ℕ → List ℕ → ℕ → List ℕ → Target
target p n m s = record { place = p; identifier = n; mark = m; bases = s }

-- the j-th target of those from place k on
abbrev pub target_at : ℕ → List (List ℕ) → List (List ℕ) → List ℕ → ℕ → Target
target_at k ns ss ms j = target (k + j) (get_or ns j []) (get_or ms j 0) (get_or ss j [])

-- as many targets as marks, where there are as many names and sequences
pub targets_count : (k : ℕ) (ns ss : List (List ℕ)) (ms : List ℕ) → length ss ≡ length ns → length ms ≡ length ns → length (targets_from k ns ss ms) ≡ length ms
targets_count k [] ss ms e f = sym f
targets_count k (n ∷ ns) [] ms e f = absurd (omega arith)
targets_count k (n ∷ ns) (s ∷ ss) [] e f = refl
targets_count k (n ∷ ns) (s ∷ ss) (m ∷ ms) e f = ap suc (targets_count (suc k) ns ss ms (omega arith) (omega arith))

targets-∈ : (k : ℕ) (ns ss : List (List ℕ)) (ms : List ℕ) (t : Target) → t ∈ targets_from k ns ss ms → (j : ℕ) × (j < length ns) × (t ≡ target_at k ns ss ms j)
targets-∈ k [] ss ms t x' = elim x' [ ]
targets-∈ k (n ∷ ns) [] ms t x3 = elim x3 [ ]
targets-∈ k (n ∷ ns) (s ∷ ss) [] t x5 = elim x5 [ ]
targets-∈ k (n ∷ ns) (s ∷ ss) (m ∷ ms) t (inl e) =
    let z : k ≡ k + 0 = omega arith in
    (0, omega arith, e ∙ ap (λ p. target p n m s) z)
targets-∈ k (n ∷ ns) (s ∷ ss) (m ∷ ms) t (inr h) =
    let r = targets-∈ (suc k) ns ss ms t h in
    let z : suc k + r.0 ≡ k + suc r.0 = omega arith in
    (suc r.0, omega arith, r.2 ∙ ap (λ p. target p (get_or ns r.0 []) (get_or ms r.0 0) (get_or ss r.0 [])) z)

∈-targets : (k : ℕ) (ns ss : List (List ℕ)) (ms : List ℕ) → length ss ≡ length ns → length ms ≡ length ns → (j : ℕ) → j < length ns → target_at k ns ss ms j ∈ targets_from k ns ss ms
∈-targets k [] ss ms e f j h = absurd (omega arith)
∈-targets k (n ∷ ns) [] ms e f j h = absurd (omega arith)
∈-targets k (n ∷ ns) (s ∷ ss) [] e f j h = absurd (omega arith)
∈-targets k (n ∷ ns) (s ∷ ss) (m ∷ ms) e f zero h =
    let z : k + 0 ≡ k = omega arith in
    inl (ap (λ p. target p n m s) z)
∈-targets k (n ∷ ns) (s ∷ ss) (m ∷ ms) e f (suc j) h =
    let z : suc k + j ≡ k + suc j = omega arith in
    let r = ∈-targets (suc k) ns ss ms (omega arith) (omega arith) j (omega arith) in
    inr (rw (ap (λ p. target p (get_or ns j []) (get_or ms j 0) (get_or ss j [])) z) at r)

-- ---- names that differ

module _ (ns : List (List ℕ)) (distinct : distinct_names ns ≡ true) where
  -- of two places the one name is before the other
  names_apart : (i j : ℕ) → i < length ns → j < length ns → (i ≡ j → ⊥) → (place_before ns i j ≡ true) ⊎ (place_before ns j i ≡ true)
  names_apart i j hi hj ne =
      by_test (place_before ns i j) (λ e. inl e) (λ e. by_test (place_before ns j i) (λ f. inr f) (λ f. absurd (differ (compare i j) (name_total (get_or ns i []) (get_or ns j []) e f))))
    where
      differ : (i < j) ⊎ ((i ≡ j) ⊎ (j < i)) → get_or ns i [] ≡ get_or ns j [] → ⊥
      differ (inl h) e = clash distinct (two_same ns i j h hj e)
      differ (inr (inl h)) e = ne h
      differ (inr (inr h)) e = clash distinct (two_same ns j i h hi (sym e))

  numbers_apart : (k n : ℕ) → k + n ≤ length ns → Apart (place_before ns) (numbers k n)
  numbers_apart k zero h = tt
  numbers_apart k (suc n) h =
      (λ j m. let r = numbers-∈ (suc k) n j m in names_apart k j (omega arith) (omega arith) (λ e. omega arith), numbers_apart (suc k) n (omega arith))

targets_apart : (k : ℕ) (ns' ss' : List (List ℕ)) (ms' : List ℕ) → distinct_names ns' ≡ true → Apart by_name (targets_from k ns' ss' ms')
targets_apart k [] ss' ms' d = tt
targets_apart k (n ∷ ns') [] ms' d = tt
targets_apart k (n ∷ ns') (s ∷ ss') [] d = tt
targets_apart k (n ∷ ns') (s ∷ ss') (m ∷ ms') d =
    (λ t h. let r = targets-∈ (suc k) ns' ss' ms' t h in rw (ap (λ u. u.identifier) r.2) (names_apart (n ∷ ns') d 0 (suc r.0) (omega arith) (omega arith) (λ e. omega arith)), targets_apart (suc k) ns' ss' ms' (and-true (every (λ y. not (same n y)) ns') (distinct_names ns') d).1)

-- ---- the mapped targets of a catalogue

module _ (c : Catalogue) where
  -- each linear target has a rank, and no other
  pub mapped-∈ : (t : Target) → t ∈ mapped c → (t ∈ targets c) × (is_mapped t ≡ true)
  unfolding mapped
  mapped-∈ t m = filter-∈ is_mapped t (targets c) (sort-∈ by_name t (filter is_mapped (targets c)) m)

  pub ∈-mapped : (t : Target) → t ∈ targets c → is_mapped t ≡ true → t ∈ mapped c
  unfolding mapped
  ∈-mapped t m h = ∈-sort by_name t (filter is_mapped (targets c)) (∈-filter is_mapped t (targets c) m h)

  -- ranks ascend by name, so that no target has two
  pub mapped_ascending : distinct_names (names c) ≡ true → Ascending by_name (mapped c)
  unfolding mapped
  mapped_ascending d = sort_ascending by_name (order_by (λ t. t.identifier) name_order) (filter is_mapped (targets c)) (apart_filter by_name is_mapped (targets c) (targets_apart 0 (names c) (sequences c) c.marks d))

  -- a target is the one at its place
  at_place : (t : Target) → t ∈ targets c → (t.place < length (names c)) × (t ≡ target_at 0 (names c) (sequences c) c.marks t.place)
  at_place t m =
      let r = targets-∈ 0 (names c) (sequences c) c.marks t m in
      let p : t.place ≡ r.0 = ap (λ u. u.place) r.2 ∙ zero-add r.0 in
      (omega (arith, r.1), r.2 ∙ ap (λ j. target_at 0 (names c) (sequences c) c.marks j) (sym p))

  module _ (within : in_bounds c ≡ true) where
    name_count : length (names c) ≡ length c.identifier_ends
    name_count = length_cut 0 c.identifier_ends c.identifiers

    pub sequence_count : length (sequences c) ≡ length (names c)
    sequence_count = length_cut 0 c.base_ends c.bases ∙ (bounded c within).sequenced ∙ sym name_count

    pub mark_count : length c.marks ≡ length (names c)
    mark_count = (bounded c within).marked ∙ sym name_count

    pub target_count : length (targets c) ≡ length c.marks
    target_count = targets_count 0 (names c) (sequences c) c.marks sequence_count mark_count

    -- a target's place is one of the catalogue's, and has its sequence
    pub at_its_place : (t : Target) → t ∈ targets c → (t.place < length c.base_ends) × (t.bases ≡ get_or (sequences c) t.place [])
    at_its_place t m =
        let a = at_place t m in
        (omega (arith, a.0, name_count, (bounded c within).sequenced), ap (λ u. u.bases) a.1)

    -- the places of the mapped targets by rank are the linear places in the order of their names
    pub places-mapped : distinct_names (names c) ≡ true → linear_places (names c) c.marks ≡ map (λ t. t.place) (mapped c)
    places-mapped distinct =
        ascending_unique (place_before (names c)) (place_order (names c)) (linear_places (names c) c.marks) (map (λ t. t.place) (mapped c))
        (ascending_filter (place_before (names c)) (linear_at c.marks) sorted (sort_ascending (place_before (names c)) (place_order (names c)) places (numbers_apart (names c) distinct 0 (length (names c)) (omega arith))))
        (ascending_map by_name (place_before (names c)) (λ t. t.place) (mapped c) (λ t u m k h. ap₂ (λ x y. name_before x y) (sym (named t m)) (sym (named u k)) ∙ h) (mapped_ascending distinct))
        to from
      where
        places : List ℕ
        places = numbers 0 (length (names c))

        sorted : List ℕ
        sorted = sort (place_before (names c)) places

        named : (t : Target) → t ∈ mapped c → t.identifier ≡ get_or (names c) t.place []
        named t m = ap (λ u. u.identifier) (at_place t (mapped-∈ t m).0).1

        to : (p : ℕ) → p ∈ linear_places (names c) c.marks → p ∈ map (λ t. t.place) (mapped c)
        to p m =
            let k = filter-∈ (linear_at c.marks) p sorted m in
            let r = numbers-∈ 0 (length (names c)) p (sort-∈ (place_before (names c)) p places k.0) in
            let t = target_at 0 (names c) (sequences c) c.marks p in
            let z : p ≡ 0 + p = omega arith in
            rw z (∈-map (λ t. t.place) t (mapped c) (∈-mapped t (∈-targets 0 (names c) (sequences c) c.marks sequence_count mark_count p (omega arith)) k.1))

        from : (p : ℕ) → p ∈ map (λ t. t.place) (mapped c) → p ∈ linear_places (names c) c.marks
        from p m =
            let r = map-∈ (λ t. t.place) p (mapped c) m in
            let q = mapped-∈ r.0 r.1 in
            let a = at_place r.0 q.0 in
            let l : p < length (names c) = omega (arith, a.0, r.2) in
            ∈-filter (linear_at c.marks) p sorted (∈-sort (place_before (names c)) p places (∈-numbers 0 (length (names c)) p (omega arith) (omega arith)))
            (ap (λ n. eqb (get_or c.marks n 0) 0) r.2 ∙ ap is_mapped (sym a.1) ∙ q.1)

-- and its name
pub named_by_place : (c : Catalogue) (t : Target) → t ∈ targets c → t.identifier ≡ get_or (names c) t.place []
named_by_place c t m =
    let r = targets-∈ 0 (names c) (sequences c) c.marks t m in
    let z : t.place ≡ r.0 = ap (λ u. u.place) r.2 ∙ zero-add r.0 in
    ap (λ u. u.identifier) r.2 ∙ ap (λ j. get_or (names c) j []) (sym z)

-- what a target is, but for its place
abbrev pub content : Target → List ℕ × List ℕ
content t = (t.identifier, t.bases)

-- catalogues with the same linear targets have the same ones at each rank, in whatever order they are supplied
pub supply_free : (c d : Catalogue) → distinct_names (names c) ≡ true → distinct_names (names d) ≡ true
    → ((t : Target) → t ∈ mapped c → (u : Target) × (u ∈ mapped d) × (content t ≡ content u)) → ((u : Target) → u ∈ mapped d → (t : Target) × (t ∈ mapped c) × (content u ≡ content t))
    → map content (mapped c) ≡ map content (mapped d)
supply_free c d dc dd f g =
    ascending_unique (λ (x y : List ℕ × List ℕ). name_before x.0 y.0) (order_by (λ (x : List ℕ × List ℕ). x.0) name_order) (map content (mapped c)) (map content (mapped d)) (ascends c dc) (ascends d dd)
    (λ z m. let r = map-∈ content z (mapped c) m in let u = f r.0 r.1 in rw (r.2 ∙ u.2) (∈-map content u.0 (mapped d) u.1))
    (λ z m. let r = map-∈ content z (mapped d) m in let t = g r.0 r.1 in rw (r.2 ∙ t.2) (∈-map content t.0 (mapped c) t.1))
  where
    ascends : (k : Catalogue) → distinct_names (names k) ≡ true → Ascending (λ (x y : List ℕ × List ℕ). name_before x.0 y.0) (map content (mapped k))
    ascends k dk = ascending_map by_name (λ (x y : List ℕ × List ℕ). name_before x.0 y.0) content (mapped k) (λ t u m l h. h) (mapped_ascending k dk)
