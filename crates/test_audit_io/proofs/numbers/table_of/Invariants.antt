-- `test_audit_io::numbers::table_of` meets its contract. The invariant: the array keeps its length.
use mathlib.Core.Path.{◌≡◌}
use lib.ListN.{length}
use Rattle.test_audit_io.proofs.numbers.table_of.Given as goal

abbrev pub invariant-loop-i : goal.invariant-loop-i
invariant-loop-i l = length l.table ≡ 18
