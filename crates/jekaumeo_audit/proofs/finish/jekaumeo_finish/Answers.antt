-- `jekaumeo_audit::finish::jekaumeo_finish` meets its contract: `finish` with the lent index.
use Rattle.jekaumeo_audit.proofs.finish.jekaumeo_finish.Goals as goal

pub returns : goal.returns
returns c = c.finish_numbers.ensures
