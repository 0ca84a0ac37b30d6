-- The ranks of a valid catalogue as an audit counts by them.
use mathlib.Core.Path.{refl}
use mathlib.Core.Bool.{Bool}
use mathlib.Core.Logic.{inl, inr}
use mathlib.Core.List.{List, [], ◌∷◌}
use Prim.Native.Nat.{ℕ, suc, ◌+◌, ◌<◌}
use native.Mathlib.Omega.{arith}
use lib.ListN.{length}
use Rattle.lists.specs.Member.{◌∈◌, Distinct}
use Rattle.lists.specs.Order.{StrictOrder, Ascending}
use Rattle.lists.proofs.Member.{map-∈}
use Rattle.lists.proofs.Order.{later_differs}
use Rattle.identifiers.proofs.NameLaws.{place_order}
use Rattle.identifiers.specs.Name.{place_before}
use Rattle.catalogue.specs.Catalogue.{Catalogue, Target, Valid, names, sequences, targets_from, targets, mapped, supplied_places}
use Rattle.catalogue.proofs.Mapped.{mapped-∈}
use Rattle.indexed_mapper.proofs.Matching.{places_ascend}
use Rattle.audit_ledger.specs.Counting.{Ranked}

-- in a list that ascends no element stands twice
ascending_distinct : {A : Type 0} (less : A → A → Bool) → StrictOrder less → (xs : List A) → Ascending less xs → Distinct xs
ascending_distinct less o [] a = tt
ascending_distinct less o (x ∷ xs) a = (λ m. later_differs less o x x xs a m refl, ascending_distinct less o xs a.1)

place_inside : (k : ℕ) (ns ss : List (List ℕ)) (ms : List ℕ) (t : Target) → t ∈ targets_from k ns ss ms → t.place < k + length (targets_from k ns ss ms)
place_inside k [] ss ms t x' = elim x' [ ]
place_inside k (n ∷ ns) [] ms t x3 = elim x3 [ ]
place_inside k (n ∷ ns) (s ∷ ss) [] t x5 = elim x5 [ ]
place_inside k (n ∷ ns) (s ∷ ss) (m ∷ ms) t (inl e) = rw e (omega arith)
place_inside k (n ∷ ns) (s ∷ ss) (m ∷ ms) t (inr h) = omega (arith, place_inside (suc k) ns ss ms t h)

module _ (c : Catalogue) (right : Valid c) where
  -- ranks have different supplied places, each of a target
  pub places_ranked : Ranked (length (targets c)) (supplied_places c)
  places_ranked = record { distinct = ascending_distinct (place_before (names c)) (place_order (names c)) (supplied_places c) (places_ascend c right); inside = inside }
    where
      inside : (p : ℕ) → p ∈ supplied_places c → p < length (targets c)
      inside p m =
          let r = map-∈ (λ (t : Target). t.place) p (mapped c) m in
          let i = place_inside 0 (names c) (sequences c) c.marks r.0 (mapped-∈ c r.0 r.1).0 in
          rw r.2 (omega (arith, i))

  -- a target stands among the others
  pub target_inside : (t : Target) → t ∈ targets c → t.place < length (targets c)
  target_inside t m = omega (arith, place_inside 0 (names c) (sequences c) c.marks t m)
