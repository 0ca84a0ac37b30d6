-- `audit_book_answer::book_answer` meets its contract: the ledger and the counters with the reads of an answer.
use Rattle.audit_book_answer.proofs.Answering.{answer_ready, answer_ledger, answer_is, answer_held}
use Rattle.audit_book_answer.proofs.book_answer.Goals as goal

pub raise_answer-requires : goal.raise_answer-requires
raise_answer-requires g c = answer_ready _ _ _ _ _ _ c.requires

pub unwrap-ledger-requires : goal.unwrap-ledger-requires
unwrap-ledger-requires g c = rw (answer_ledger _ _ _ _ _ _ c.requires _ c.post_answer.ensures)

pub returns : goal.returns
returns g c =
    answer_held _ _ _ _ _ _ c.requires c.args.ordinal _ _ (answer_is _ _ _ _ _ _ c.requires _ c.post_answer.ensures _ c.unwrap-ledger.ensures) c.raise_answer.ensures
