-- `catch_sheet_lines::counts::put_states` meets its contract.
use borrow.Author.Tests.{not-false}
use Rattle.audit_model.specs.Settings.{role_number}
use Rattle.catch_sheet_lines.proofs.Counting.{states_told}
use Rattle.catch_sheet_lines.proofs.counts.put_states.Goals as goal

pub returns : goal.returns
returns c =
    let a = c.args in
    states_told a.sheet (role_number a.role) _ c.first_count-first.ensures (not-false _ c.if-not-sheet.false) c.put_count-a.ensures c.put_count-b.ensures c.put_count-c.ensures c.put_count-d.ensures c.put_count-2.ensures
