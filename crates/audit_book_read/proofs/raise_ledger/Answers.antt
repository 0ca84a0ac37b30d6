-- `audit_book_read::raise_ledger` meets its contract.
use mathlib.Core.Path.{◌≡◌}
use lib.ListN.{length}
use native.Mathlib.Omega.{arith}
use borrow.Author.Rules.{rules}
use Rattle.audit_book_read.proofs.Room.{cell_spare}
use Rattle.audit_book_read.proofs.raise_ledger.Goals as goal

pub overflow_add-next : goal.overflow_add-next
overflow_add-next c =
    let a = c.args in
    let long : length a.ledger.table ≡ 18 = search rules in
    omega (arith, cell_spare a.role a.state a.more a.ledger (omega arith) c.requires.ledger_value)
