-- `map_rarest_seed::rarest_seed` meets its contract: offset by offset, those passed over that have no fewer postings.
use Prim.Native.Nat.{◌-◌}
use Rattle.bases.specs.Read.{oriented}
use Rattle.map_rarest_seed.proofs.Choosing.{Choosing}
use Rattle.map_rarest_seed.proofs.rarest_seed.Given as goal

abbrev pub invariant-loop-o : goal.invariant-loop-o
invariant-loop-o l = Choosing l.index.keys.now l.q (oriented l.strand l.read) l.n l.o l.range.start l.range.end l.best.offset l.best.start l.best.end l.best.lookups

abbrev pub decreases-loop-o : goal.decreases-loop-o
decreases-loop-o l = l.n - l.o
