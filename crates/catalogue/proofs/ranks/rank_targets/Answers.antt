-- `catalogue::ranks::rank_targets` meets its contract, by the checks in their order.
use mathlib.Core.Path.{◌≡◌, sym, ◌∙◌}
use mathlib.Core.Bool.{true}
use Prim.Native.Nat.{ℕ, ◌≤◌}
use native.Mathlib.Omega.{arith}
use lib.ListN.{length}
use lib.Seq.{length-take-le}
use Rattle.catalogue.specs.Catalogue.{Catalogue, catalogue_in, in_bounds, max_targets}
use Rattle.catalogue.proofs.Checks.{bounded}
use Rattle.catalogue.proofs.Refusals.{out_of_bounds, bad_bases, ranked_as}
use Rattle.catalogue.proofs.ranks.rank_targets.Goals as goal

-- of a catalogue within its bounds
room : (c : Catalogue) (n : ℕ) → in_bounds c ≡ true → max_targets ≤ n → length c.identifier_ends ≤ n
room c n w h = omega (arith, (bounded c w).few)

pub returns-then-not-in_bounds : goal.returns-then-not-in_bounds
returns-then-not-in_bounds c =
    let a = c.args in
    out_of_bounds (catalogue_in a.catalogue) (sym c.in_bounds.ensures ∙ c.if-not-in_bounds.true) (omega arith) _

pub all_proper-requires : goal.all_proper-requires
all_proper-requires c =
    let a = c.args in
    (bounded (catalogue_in a.catalogue) (sym c.in_bounds.ensures ∙ c.if-not-in_bounds.false)).based

pub returns-then-not-all_proper : goal.returns-then-not-all_proper
returns-then-not-all_proper c =
    let a = c.args in
    bad_bases (catalogue_in a.catalogue) (sym c.in_bounds.ensures ∙ c.if-not-in_bounds.false) (sym c.all_proper.ensures ∙ c.if-not-all_proper.true) (omega arith) _

pub slice_bounds-rank_names-end : goal.slice_bounds-rank_names-end
slice_bounds-rank_names-end c =
    let a = c.args in
    room (catalogue_in a.catalogue) _ (sym c.in_bounds.ensures ∙ c.if-not-in_bounds.false) c.requires

pub slice_bounds-rank_names-end-2 : goal.slice_bounds-rank_names-end-2
slice_bounds-rank_names-end-2 c = let a = c.args in sym (length-take-le _ _ (room (catalogue_in a.catalogue) _ (sym c.in_bounds.ensures ∙ c.if-not-in_bounds.false) c.requires))

pub rank_names-requires : goal.rank_names-requires
rank_names-requires c =
    let a = c.args in
    let b = bounded (catalogue_in a.catalogue) (sym c.in_bounds.ensures ∙ c.if-not-in_bounds.false) in
    record { lent = record { right = b.named; sized = length-take-le _ _ (room (catalogue_in a.catalogue) _ (sym c.in_bounds.ensures ∙ c.if-not-in_bounds.false) c.requires); few = b.few }; marked = b.marked }

pub returns : goal.returns
returns c =
    let a = c.args in
    ranked_as (catalogue_in a.catalogue) (sym c.in_bounds.ensures ∙ c.if-not-in_bounds.false) (sym c.all_proper.ensures ∙ c.if-not-all_proper.false) _ c.rank_names.ensures
