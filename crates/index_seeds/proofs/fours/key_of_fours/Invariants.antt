-- `index_seeds::fours::key_of_fours` meets its contract. The invariant: the key of the first k times four bases.
use Prim.Native.Nat.{◌*◌}
use Rattle.index_seeds.specs.Key.{KeyBegun}
use Rattle.index_seeds.proofs.fours.key_of_fours.Given as goal

abbrev pub invariant-loop-k : goal.invariant-loop-k
invariant-loop-k l = KeyBegun l.sequence l.q l.start (4 * l.k) l.key
