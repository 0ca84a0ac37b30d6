-- `audit_finish::finish_tested` meets its contract: 18 where the books do not agree, or the sheet of the state.
use Rattle.audit_finish.proofs.Finishing.{tested_unbalanced, tested_done}
use Rattle.audit_finish.proofs.finish_tested.Goals as goal

pub returns-then-not-books_agree : goal.returns-then-not-books_agree
returns-then-not-books_agree c = tested_unbalanced _ _ _ _ _ c.books_agree.ensures c.if-not-books_agree.true _ c.zero_state.ensures _ c.sheet_of-nothing.ensures

pub returns : goal.returns
returns c = tested_done _ _ _ _ _ c.books_agree.ensures c.if-not-books_agree.false _ c.sheet_of.ensures
