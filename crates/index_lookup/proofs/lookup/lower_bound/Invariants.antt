-- `index_lookup::lookup::lower_bound` meets its contract. The invariant: the place looked for is between low and high, and so is the next probe.
use Prim.Native.Nat.{◌-◌}
use Rattle.index_lookup.proofs.Searching.{Probing}
use Rattle.index_lookup.proofs.lookup.lower_bound.Given as goal

abbrev pub invariant-loop-low : goal.invariant-loop-low
invariant-loop-low l = Probing l.keys l.bound l.low l.high l.mid

abbrev pub decreases-loop-low : goal.decreases-loop-low
decreases-loop-low l = l.high - l.low
