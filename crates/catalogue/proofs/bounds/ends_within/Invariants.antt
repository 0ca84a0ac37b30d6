-- `catalogue::bounds::ends_within` meets its contract. The invariant: the answer for the ends from here on is the answer for all.
use mathlib.Core.Path.{◌≡◌}
use lib.ListN.{drop}
use Rattle.lists.specs.Cut.{ends_within}
use Rattle.catalogue.proofs.bounds.ends_within.Given as goal

abbrev pub invariant-loop-end : goal.invariant-loop-end
invariant-loop-end l = ends_within 0 l.most l.ends ≡ ends_within l.from l.most (drop l.end-index l.ends)
