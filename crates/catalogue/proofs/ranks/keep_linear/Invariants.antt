-- `catalogue::ranks::keep_linear` meets its contract. The invariant: the first i places are filtered.
use Rattle.catalogue.specs.Ranking.{linear_at}
use Rattle.catalogue.proofs.Filtering.{Filtering}
use Rattle.catalogue.proofs.ranks.keep_linear.Given as goal

abbrev pub invariant-loop-i : goal.invariant-loop-i
invariant-loop-i l = Filtering (linear_at l.marks) l.initial.order l.order l.kept l.i
