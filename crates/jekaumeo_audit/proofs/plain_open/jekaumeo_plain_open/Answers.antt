-- `jekaumeo_audit::plain_open::jekaumeo_plain_open` meets its contract: the opening with no index.
use Rattle.jekaumeo_audit.proofs.plain_open.jekaumeo_plain_open.Goals as goal

pub returns : goal.returns
returns c = c.open_numbers.ensures
