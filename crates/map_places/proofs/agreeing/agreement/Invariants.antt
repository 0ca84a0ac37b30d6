-- `map_places::agreeing::agreement` meets its contract: whole stretches, then base by base.
use Rattle.bases.specs.Read.{oriented}
use Rattle.map_places.specs.Agreeing.{Agreed}
use Rattle.map_places.proofs.agreeing.agreement.Given as goal

abbrev pub invariant-loop-k : goal.invariant-loop-k
invariant-loop-k l = Agreed l.sequence l.at (oriented l.strand l.read) l.from l.most l.k
