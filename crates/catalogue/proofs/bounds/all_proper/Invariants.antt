-- `catalogue::bounds::all_proper` meets its contract, by a loop over all sequences.
use Rattle.lists.proofs.Cut.{EveryFrom}
use Rattle.catalogue.specs.Catalogue.{proper_sequence}
use Rattle.catalogue.proofs.bounds.all_proper.Given as goal

abbrev pub invariant-loop-end : goal.invariant-loop-end
invariant-loop-end l = EveryFrom proper_sequence l.ends l.bases l.from l.end-index
