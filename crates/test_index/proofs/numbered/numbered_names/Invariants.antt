-- `test_index::numbered::numbered_names` meets its contract. The invariant: the array keeps its length.
use Rattle.std.proofs.Common.{◌≡◌, length}
use Rattle.test_index.proofs.numbered.numbered_names.Given as goal

abbrev pub invariant-loop-i : goal.invariant-loop-i
invariant-loop-i l = length l.names ≡ 8400
