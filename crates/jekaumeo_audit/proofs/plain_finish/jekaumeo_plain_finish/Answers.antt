-- `jekaumeo_audit::plain_finish::jekaumeo_plain_finish` meets its contract: the finish with no index.
use Rattle.jekaumeo_audit.proofs.plain_finish.jekaumeo_plain_finish.Goals as goal

pub returns : goal.returns
returns c = c.finish_numbers.ensures
