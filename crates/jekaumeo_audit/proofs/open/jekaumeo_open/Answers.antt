-- `jekaumeo_audit::open::jekaumeo_open` meets its contract: the opening with the lent index.
use Rattle.jekaumeo_audit.proofs.open.jekaumeo_open.Goals as goal

pub returns : goal.returns
returns c = c.open_numbers.ensures
