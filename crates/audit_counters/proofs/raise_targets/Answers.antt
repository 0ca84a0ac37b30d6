use Rattle.audit_counters.proofs.Adding.{raised_one, raised_next, raised_end}
use Rattle.audit_counters.proofs.raise_targets.Goals as goal

pub raise_at-requires : goal.raise_at-requires
raise_at-requires c = raised_one _ _ _ _ _ _ c.loop-i.invariant c.loop-i-test.true c.requires

pub loop-i-preserved : goal.loop-i-preserved
loop-i-preserved c = raised_next _ _ _ _ _ _ c.loop-i.invariant c.loop-i-test.true _ c.raise_at.ensures

pub returns : goal.returns
returns c = raised_end _ _ _ _ _ _ c.loop-i.invariant c.loop-i-test.false
