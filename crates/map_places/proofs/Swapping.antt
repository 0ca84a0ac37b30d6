-- A turned read has the groups of the read, on the other strands.
use mathlib.Core.Path.{◌≡◌, refl, sym, ap, ◌∙◌}
use mathlib.Core.Logic.{inl, inr}
use mathlib.Core.List.{List, [], ◌∷◌, map}
use Prim.Native.Nat.{ℕ, zero, suc, ◌-◌, ◌<◌}
use native.Mathlib.Omega.{arith}
use lib.ListN.{length, get_or}
use Rattle.lists.specs.Member.{◌∈◌, Distinct}
use Rattle.lists.specs.Order.{Ascending}
use Rattle.lists.specs.Sort.{sort}
use Rattle.lists.specs.Same.{same}
use Rattle.lists.specs.Cut.{window}
use Rattle.lists.proofs.Member.{∈-map, map-∈}
use Rattle.lists.proofs.Order.{ascending_unique, distinct_apart, later_differs}
use Rattle.lists.proofs.Sort.{sort_ascending, ∈-sort, sort-∈}
use Rattle.bases.specs.Read.{folded, oriented, reverse_complement}
use Rattle.bases.proofs.Turning.{reverse_complement_twice, length-reverse_complement, folded_turned}
use Rattle.map_places.specs.Place.{Place, before, matches, groups, swapped}
use Rattle.map_places.proofs.Placing.{before_order, before_total, place_eq, groups-∈, ∈-groups, groups_ascending}

pub swapped_twice : (p : Place) → p.strand < 2 → swapped (swapped p) ≡ p
swapped_twice p h = place_eq (swapped (swapped p)) p refl refl (omega arith)

swapped_one : (p q : Place) → p.strand < 2 → q.strand < 2 → swapped p ≡ swapped q → p ≡ q
swapped_one p q h k e = sym (swapped_twice p h) ∙ ap swapped e ∙ swapped_twice q k

module _ (ss : List (List ℕ)) (read : List ℕ) where
  -- a turned read matches where the read matches on the other strand
  pub matches-turned : (p : Place) → p.strand < 2 → matches ss (reverse_complement read) p ≡ matches ss read (swapped p)
  unfolding matches
  matches-turned p h = rw (length-reverse_complement, folded_turned) (go p.strand h)
    where
      w : List ℕ
      w = window (get_or ss p.rank []) p.start (length read)

      go : (d : ℕ) → d < 2 → same w (oriented d (reverse_complement (folded read))) ≡ same w (oriented (1 - d) (folded read))
      go zero l = refl
      go (suc zero) l = ap (same w) (reverse_complement_twice (folded read))
      go (suc (suc d)) l = absurd (omega arith)

  stranded : (p : Place) → p ∈ groups ss read → p.strand < 2
  stranded p m = (groups-∈ ss read p m).0.stranded

  swapped-distinct : (xs : List Place) → Ascending before xs → ((p : Place) → p ∈ xs → p.strand < 2) → Distinct (map swapped xs)
  swapped-distinct [] a h = tt
  swapped-distinct (x ∷ xs) a h =
      (λ m. let r = map-∈ swapped (swapped x) xs m in later_differs before before_order x r.0 xs a r.1 (sym (swapped_one x r.0 (h x (inl refl)) (h r.0 (inr r.1)) r.2)), swapped-distinct xs a.1 (λ p m. h p (inr m)))

  pub groups-turned : groups ss (reverse_complement read) ≡ sort before (map swapped (groups ss read))
  groups-turned =
      ascending_unique before before_order (groups ss (reverse_complement read)) (sort before (map swapped (groups ss read))) (groups_ascending ss (reverse_complement read))
      (sort_ascending before before_order (map swapped (groups ss read)) (distinct_apart before before_total (map swapped (groups ss read)) (swapped-distinct (groups ss read) (groups_ascending ss read) stranded)))
      to from
    where
      to : (z : Place) → z ∈ groups ss (reverse_complement read) → z ∈ sort before (map swapped (groups ss read))
      to z m =
          let g = groups-∈ ss (reverse_complement read) z m in
          let s = g.0.stranded in
          let k : swapped z ∈ groups ss read = ∈-groups ss read (swapped z) (record { ranked = g.0.ranked; inside = rw length-reverse_complement at g.0.inside; stranded = omega arith }) (sym (matches-turned z s) ∙ g.1) in
          ∈-sort before z (map swapped (groups ss read)) (rw (swapped_twice z s) at (∈-map swapped (swapped z) (groups ss read) k))

      from : (z : Place) → z ∈ sort before (map swapped (groups ss read)) → z ∈ groups ss (reverse_complement read)
      from z m =
          let r = map-∈ swapped z (groups ss read) (sort-∈ before z (map swapped (groups ss read)) m) in
          let g = groups-∈ ss read r.0 r.1 in
          let s = g.0.stranded in
          rw r.2 (∈-groups ss (reverse_complement read) (swapped r.0) (record { ranked = g.0.ranked; inside = rw length-reverse_complement g.0.inside; stranded = omega arith }) (matches-turned (swapped r.0) (omega arith) ∙ ap (matches ss read) (swapped_twice r.0 s) ∙ g.1))
