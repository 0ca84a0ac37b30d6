-- `map_places::agreeing::whole_stretches` meets its contract: stretch by stretch.
use Prim.Native.Nat.{◌-◌}
use Rattle.bases.specs.Read.{oriented}
use Rattle.map_places.specs.Agreeing.{Agreed}
use Rattle.map_places.proofs.agreeing.whole_stretches.Given as goal

abbrev pub invariant-loop-k : goal.invariant-loop-k
invariant-loop-k l = Agreed l.sequence l.at (oriented l.strand l.read) l.from l.most l.k

abbrev pub decreases-loop-k : goal.decreases-loop-k
decreases-loop-k l = l.most - l.k
