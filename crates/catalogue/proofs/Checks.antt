-- What a catalogue within its bounds has.
use mathlib.Core.Path.{◌≡◌}
use mathlib.Core.Bool.{true, ◌&&◌}
use Prim.Native.Nat.{◌≤◌, min}
use native.Mathlib.Omega.{arith}
use lib.ListN.{length}
use lib.Dec.{leb, eqb}
use borrow.Author.Tests.{eqb-true, leb-true}
use Rattle.lists.specs.Cut.{ends_within}
use Rattle.lists.proofs.Cases.{and-true}
use Rattle.lists.proofs.Cut.{ends_weaken}
use Rattle.catalogue.specs.Catalogue.{Catalogue, max_targets, max_bases, counts_right, ends_right, values_right, in_bounds}

pub record Bounded (c : Catalogue) : Type 0 where
  pub few : length c.identifier_ends ≤ max_targets
  pub sequenced : length c.base_ends ≡ length c.identifier_ends
  pub marked : length c.marks ≡ length c.identifier_ends
  pub named : ends_within 0 (length c.identifiers) c.identifier_ends ≡ true
  pub based : ends_within 0 (length c.bases) c.base_ends ≡ true
  pub total : ends_within 0 max_bases c.base_ends ≡ true

pub bounded : (c : Catalogue) → in_bounds c ≡ true → Bounded c
unfolding in_bounds
bounded c t =
    let u = and-true (counts_right c && ends_right c) (values_right c) t in
    let v = and-true (counts_right c) (ends_right c) u.0 in
    let w = and-true (leb (length c.identifier_ends) max_targets && eqb (length c.base_ends) (length c.identifier_ends)) (eqb (length c.marks) (length c.identifier_ends)) v.0 in
    let x = and-true (leb (length c.identifier_ends) max_targets) (eqb (length c.base_ends) (length c.identifier_ends)) w.0 in
    let e = and-true (ends_within 0 (length c.identifiers) c.identifier_ends) (ends_within 0 (min (length c.bases) max_bases) c.base_ends) v.1 in
    record {
      few = leb-true (length c.identifier_ends) max_targets x.0;
      sequenced = eqb-true (length c.base_ends) (length c.identifier_ends) x.1;
      marked = eqb-true (length c.marks) (length c.identifier_ends) w.1;
      named = e.0;
      based = ends_weaken 0 (min (length c.bases) max_bases) (length c.bases) c.base_ends (omega arith) e.1;
      total = ends_weaken 0 (min (length c.bases) max_bases) max_bases c.base_ends (omega arith) e.1;
    }
