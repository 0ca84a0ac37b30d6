-- `audit_checks::index_fits` meets its contract: not tested, or tested.
use Rattle.audit_checks.proofs.index_fits.Goals as goal

pub returns-then-not-tested : goal.returns-then-not-tested
returns-then-not-tested c = rw c.if-not-tested.true

pub returns : goal.returns
returns c = rw c.if-not-tested.false c.is_index.ensures
