-- `catalogue::ranks::rank_names` meets its contract: equal names are refused, others put in order and filtered.
use native.Mathlib.Omega.{arith}
use mathlib.Core.Path.{ap, ◌∙◌}
use Rattle.lists.specs.Filter.{every}
use Rattle.lists.specs.Cut.{cut}
use Rattle.lists.proofs.Cut.{length_cut}
use Rattle.catalogue.proofs.Refusals.{places_below}
use Rattle.catalogue.proofs.ranks.rank_names.Goals as goal

pub keep_linear-requires : goal.keep_linear-requires
keep_linear-requires c =
    ap (every _) (c.order_names.ensures.places c.if-not-order_names.false) ∙ places_below (cut c.args.ends.now c.args.identifiers.now) _ (omega (arith, length_cut 0 c.args.ends.now c.args.identifiers.now, c.requires.marked))
