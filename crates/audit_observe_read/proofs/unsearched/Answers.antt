-- `audit_observe_read::unsearched` meets its contract.
use Rattle.audit_observe_read.proofs.unsearched.Goals as goal

pub returns-then-remap : goal.returns-then-remap
returns-then-remap c = rw (c.work_of-work.ensures, c.if-remap.true)

pub returns : goal.returns
returns c = rw (c.work_of-work.ensures, c.if-remap.false)
