-- `audit::open::plain_open` meets its contract: it is that of the inner call, with seeds of 15 bases and qualities from 33 on.
use Rattle.audit.proofs.open.plain_open.Goals as goal

pub returns : goal.returns
returns c = c.open_audit.ensures
