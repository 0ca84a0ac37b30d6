-- `audit_book_read::added_by` meets its contract.
use native.Mathlib.Omega.{arith}
use Rattle.audit_book_read.proofs.Room.{added_is, no_single, several}
use Rattle.audit_book_read.proofs.added_by.Goals as goal

pub returns-then-n-gt1 : goal.returns-then-n-gt1
returns-then-n-gt1 c =
    let a = c.args in
    added_is a.n a.entries.now _ _ _ (omega arith) (omega (arith, no_single a.n a.entries.now c.if-n-eq1.false)) (omega (arith, several a.n a.entries.now c.if-n-gt1.true, c.count_runs-multi.ensures))
