-- `test_map_calls::records::records_of` meets its contract. The invariant: there are 256 records.
use Rattle.std.proofs.Common.{◌≡◌, length}
use Rattle.test_map_calls.proofs.records.records_of.Given as goal

abbrev pub invariant-loop-i : goal.invariant-loop-i
invariant-loop-i l = 256 ≡ length l.records
