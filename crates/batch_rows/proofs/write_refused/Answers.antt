-- `batch_rows::write_refused` meets its contract: the row of a refusal.
use Rattle.batch_rows.proofs.Writing.{eight_put}
use Rattle.batch_rows.proofs.write_refused.Goals as goal

pub returns : goal.returns
returns g c = rw (← c.number.ensures) (eight_put _ _ _ _ _ _ _ _ _ _ _ _ c.requires c.write_four.ensures c.write_four-2.ensures)
