-- `catalogue::bounds::lengths_within` meets its contract, by a loop over all sequences.
use lib.ListN.{length}
use lib.Dec.{leb}
use Rattle.lists.proofs.Cut.{EveryFrom}
use Rattle.catalogue.proofs.bounds.lengths_within.Given as goal

abbrev pub invariant-loop-end : goal.invariant-loop-end
invariant-loop-end l = EveryFrom (λ s. leb (length s) l.most) l.ends l.bytes l.from l.end-index
