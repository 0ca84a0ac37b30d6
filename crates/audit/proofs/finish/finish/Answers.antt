-- `audit::finish::finish` meets its contract: it is that of the inner call, with seeds of 15 bases and qualities from 33 on.
use Rattle.audit.proofs.finish.finish.Goals as goal

pub returns : goal.returns
returns c = c.finish_audit.ensures
