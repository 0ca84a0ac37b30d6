-- `audit_book_answer::tally_of` meets its contract: a state has one of six numbers.
use Rattle.audit_book_answer.proofs.tally_of.Goals as goal

pub returns : goal.returns
returns c =
    let a = c.args in
    λ i. record { role = c.role_number.ensures i; state = c.state_number.ensures i; groups = a.mapping.groups }
