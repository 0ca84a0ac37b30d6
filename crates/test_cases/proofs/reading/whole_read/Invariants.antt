-- `test_cases::reading::whole_read` meets its contract. The invariant: the array keeps its length.
use mathlib.Core.Path.{◌≡◌}
use lib.ListN.{length}
use Rattle.test_cases.proofs.reading.whole_read.Given as goal

abbrev pub invariant-loop-i : goal.invariant-loop-i
invariant-loop-i l = length l.read ≡ 65536
