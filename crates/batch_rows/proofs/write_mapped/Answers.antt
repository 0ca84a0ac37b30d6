-- `batch_rows::write_mapped` meets its contract: the row of a mapped read.
use Rattle.batch_rows.proofs.Writing.{eight_put}
use Rattle.batch_rows.proofs.write_mapped.Goals as goal

pub returns : goal.returns
returns c = rw (← c.state_number.ensures) (eight_put _ _ _ _ _ _ _ _ _ _ _ _ c.requires c.write_four.ensures c.write_four-2.ensures)
