-- `test_index::numbered::numbered_ends` meets its contract. The invariant: an end is at most twice the count, and the array keeps its length.
use Rattle.std.proofs.Common.{◌≡◌, ◌*◌, ◌≤◌, length}
use Rattle.test_index.proofs.numbered.numbered_ends.Given as goal

abbrev pub invariant-loop-i : goal.invariant-loop-i
invariant-loop-i l = (l.end ≤ 2 * l.i) × (length l.ends ≡ 4200)
