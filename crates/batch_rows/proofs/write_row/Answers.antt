-- `batch_rows::write_row` meets its contract: the row of each answer.
use Rattle.batch_rows.proofs.write_row.Goals as goal

pub returns-in-Err : goal.returns-in-Err
returns-in-Err g c = rw c.in-Err.is c.write_refused.ensures

pub returns-in-Ok : goal.returns-in-Ok
returns-in-Ok g c = rw c.in-Ok.is c.write_mapped.ensures
