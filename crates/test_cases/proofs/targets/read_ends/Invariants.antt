-- `test_cases::targets::read_ends` meets its contract. The invariant: the array keeps its length.
use lib.ListN.{length}
use mathlib.Core.Path.{◌≡◌}
use Rattle.test_cases.proofs.targets.read_ends.Given as goal

abbrev pub invariant-loop-i : goal.invariant-loop-i
invariant-loop-i l = length l.ends ≡ 16
