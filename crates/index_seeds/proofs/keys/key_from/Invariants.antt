-- `index_seeds::keys::key_from` meets its contract. The invariant: the key of the first i bases.
use Rattle.bases.specs.Read.{oriented}
use Rattle.index_seeds.specs.Key.{KeyBegun}
use Rattle.index_seeds.proofs.keys.key_from.Given as goal

abbrev pub invariant-loop-i : goal.invariant-loop-i
invariant-loop-i l = KeyBegun (oriented l.strand l.sequence) l.q l.start l.i l.key
