-- `audit::fragment::fragment` meets its contract: it is that of the inner call, with seeds of 15 bases and qualities from 33 on.
use Rattle.audit.proofs.fragment.fragment.Goals as goal

pub returns : goal.returns
returns c = c.audit_fragment.ensures
