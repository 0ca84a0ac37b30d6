-- The fitting places of a read, and its groups: their members and their order.
use mathlib.Core.Path.{◌≡◌, refl, sym, ap}
use mathlib.Core.Bool.{true}
use mathlib.Core.Logic.{◌⊎◌, inl, inr, ⊎_elim}
use mathlib.Core.List.{List, [], ◌∷◌}
use Prim.Native.Nat.{ℕ, zero, suc, ◌+◌, ◌<◌, ◌≤◌}
use native.Mathlib.Omega.{arith}
use lib.ListN.{length, get_or}
use Rattle.lists.specs.Member.{◌∈◌}
use Rattle.lists.specs.Order.{StrictOrder, Total, Ascending}
use Rattle.lists.proofs.Cases.{compare}
use Rattle.lists.proofs.Member.{∈-append_left, ∈-append_right, append-∈}
use Rattle.lists.proofs.Filter.{∈-filter, filter-∈}
use Rattle.lists.proofs.Order.{order_by, ascending_append, ascending_filter}
use Rattle.lists.proofs.Triple.{before_test, lexicographic_order, lexicographic_total}
use Rattle.index_seeds.specs.Window.{starts}
use Rattle.map_places.specs.Place.{Place, Fits, place, triple, before, places_in, places_from, places, matches, groups}

-- ---- the order of places

pub before_order : StrictOrder before
before_order = order_by triple lexicographic_order

pub place_eq : (p q : Place) → p.rank ≡ q.rank → p.start ≡ q.start → p.strand ≡ q.strand → p ≡ q
place_eq p q a b c = λ i. record { rank = a i; start = b i; strand = c i }

pub before_total : Total before
before_total p q h k =
    let e = lexicographic_total (triple p) (triple q) h k in
    place_eq p q (ap (λ t. t.0) e) (ap (λ t. t.1) e) (ap (λ t. t.2) e)

-- ---- fitting places

places_in-∈ : (r s k : ℕ) (p : Place) → p ∈ places_in r s k → (p.rank ≡ r) × (s ≤ p.start) × (p.start < s + k) × (p.strand < 2)
places_in-∈ r s zero p x' = elim x' [ ]
places_in-∈ r s (suc k) p (inl e) = let a = ap (λ q. q.rank) e in let b = ap (λ q. q.start) e in let c = ap (λ q. q.strand) e in omega arith
places_in-∈ r s (suc k) p (inr (inl e)) = let a = ap (λ q. q.rank) e in let b = ap (λ q. q.start) e in let c = ap (λ q. q.strand) e in omega arith
places_in-∈ r s (suc k) p (inr (inr m)) = let h = places_in-∈ r (suc s) k p m in omega arith

∈-places_in : (r s k : ℕ) (p : Place) → p.rank ≡ r → s ≤ p.start → p.start < s + k → p.strand < 2 → p ∈ places_in r s k
∈-places_in r s zero p a b c d = absurd (omega arith)
∈-places_in r s (suc k) p a b c d = go (λ h. ∈-places_in r (suc s) k p a h (omega arith) d) (compare s p.start)
  where
    here : (x : ℕ) → p.strand ≡ x → x < 2 → s ≡ p.start → p ∈ places_in r s (suc k)
    here zero e l f = inl (place_eq p (place r s 0) a (sym f) e)
    here (suc zero) e l f = inr (inl (place_eq p (place r s 1) a (sym f) e))
    here (suc (suc x)) e l f = absurd (omega arith)

    go : (suc s ≤ p.start → p ∈ places_in r (suc s) k) → (s < p.start) ⊎ ((s ≡ p.start) ⊎ (p.start < s)) → p ∈ places_in r s (suc k)
    go later (inl h) = inr (inr (later h))
    go later (inr (inl e)) = here p.strand refl d e
    go later (inr (inr h)) = absurd (omega arith)

places_in_ascending : (r s k : ℕ) → Ascending before (places_in r s k)
places_in_ascending r s zero = tt
places_in_ascending r s (suc k) = (first, (second, places_in_ascending r (suc s) k))
  where
    second : (q : Place) → q ∈ places_in r (suc s) k → before (place r s 1) q ≡ true
    second q m = let h = places_in-∈ r (suc s) k q m in before_test (triple (place r s 1)) (triple q) (inr (omega arith, inl (omega arith)))

    first : (q : Place) → q ∈ (place r s 1 ∷ places_in r (suc s) k) → before (place r s 0) q ≡ true
    first q (inl e) = before_test (triple (place r s 0)) (triple q) (inr (sym (ap (λ p. p.rank) e), inr (sym (ap (λ p. p.start) e), omega (arith, ap (λ p. p.strand) e))))
    first q (inr m) = let h = places_in-∈ r (suc s) k q m in before_test (triple (place r s 0)) (triple q) (inr (omega arith, inl (omega arith)))

-- a place of the sequences from rank r on
abbrev FitsFrom : ℕ → ℕ → List (List ℕ) → Place → Type 0
FitsFrom r n ss p = (j : ℕ) × (p.rank ≡ r + j) × (j < length ss) × (p.start + n ≤ length (get_or ss j [])) × (p.strand < 2)

places_from-∈ : (r n : ℕ) (ss : List (List ℕ)) (p : Place) → p ∈ places_from r n ss → FitsFrom r n ss p
places_from-∈ r n [] p m = elim m [ ]
places_from-∈ r n (s ∷ ss) p m = ⊎_elim here (λ k. there (places_from-∈ (suc r) n ss p k)) (append-∈ p (places_in r 0 (starts n s)) (places_from (suc r) n ss) m)
  where
    here : p ∈ places_in r 0 (starts n s) → FitsFrom r n (s ∷ ss) p
    here k = let h = places_in-∈ r 0 (starts n s) p k in (0, omega arith, omega arith, omega arith, omega arith)

    there : FitsFrom (suc r) n ss p → FitsFrom r n (s ∷ ss) p
    there f = (suc f.0, omega arith, omega arith, f.3, f.4)

∈-places_from : (r n : ℕ) (ss : List (List ℕ)) (p : Place) (j : ℕ) → p.rank ≡ r + j → j < length ss → p.start + n ≤ length (get_or ss j []) → p.strand < 2 → p ∈ places_from r n ss
∈-places_from r n [] p j a b c d = absurd (omega arith)
∈-places_from r n (s ∷ ss) p zero a b c d =
    ∈-append_left p (places_in r 0 (starts n s)) (places_from (suc r) n ss) (∈-places_in r 0 (starts n s) p (omega arith) (omega arith) (omega arith) d)
∈-places_from r n (s ∷ ss) p (suc j) a b c d =
    ∈-append_right p (places_in r 0 (starts n s)) (places_from (suc r) n ss) (∈-places_from (suc r) n ss p j (omega arith) (omega arith) c d)

places_from_ascending : (r n : ℕ) (ss : List (List ℕ)) → Ascending before (places_from r n ss)
places_from_ascending r n [] = tt
places_from_ascending r n (s ∷ ss) =
    ascending_append before (places_in r 0 (starts n s)) (places_from (suc r) n ss) (places_in_ascending r 0 (starts n s)) (places_from_ascending (suc r) n ss)
    (λ x y k l. let h = places_in-∈ r 0 (starts n s) x k in let g = places_from-∈ (suc r) n ss y l in before_test (triple x) (triple y) (inl (omega arith)))

module _ (n : ℕ) (ss : List (List ℕ)) where
  -- the list has each fitting place, and no other
  pub places-∈ : (p : Place) → p ∈ places n ss → Fits n ss p
  unfolding places
  places-∈ p m =
      let f = places_from-∈ 0 n ss p m in
      let e : p.rank ≡ f.0 = omega arith in
      record { ranked = omega arith; inside = rw e f.3; stranded = f.4 }

  pub ∈-places : (p : Place) → Fits n ss p → p ∈ places n ss
  unfolding places
  ∈-places p f = ∈-places_from 0 n ss p p.rank (omega arith) f.ranked f.inside f.stranded

  pub places_ascending : Ascending before (places n ss)
  unfolding places
  places_ascending = places_from_ascending 0 n ss

-- ---- groups

module _ (ss : List (List ℕ)) (read : List ℕ) where
  -- the groups are exactly the fitting places where the read matches, each once, ascending
  pub groups-∈ : (p : Place) → p ∈ groups ss read → Fits (length read) ss p × (matches ss read p ≡ true)
  unfolding groups
  groups-∈ p m = let k = filter-∈ (matches ss read) p (places (length read) ss) m in (places-∈ (length read) ss p k.0, k.1)

  pub ∈-groups : (p : Place) → Fits (length read) ss p → matches ss read p ≡ true → p ∈ groups ss read
  unfolding groups
  ∈-groups p f m = ∈-filter (matches ss read) p (places (length read) ss) (∈-places (length read) ss p f) m

  pub groups_ascending : Ascending before (groups ss read)
  unfolding groups
  groups_ascending = ascending_filter before (matches ss read) (places (length read) ss) (places_ascending (length read) ss)
