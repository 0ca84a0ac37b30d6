use native.Mathlib.Omega.{arith}
use Rattle.batch_fragments.proofs.Listing.{step, done}
use Rattle.batch_fragments.proofs.audit_list.Goals as goal

pub loop-i-preserved : goal.loop-i-preserved
loop-i-preserved c = step _ _ _ _ _ _ _ _ _ c.requires.lists_lent.counted _ _ c.requires.lists_lent.shared _ _ _ _ _ c.loop-i.invariant c.loop-i-test.true _ _ _ _ c.audit_listed-held.ensures _ _ (omega arith) (omega arith)

pub returns : goal.returns
returns c = done _ _ _ _ _ _ _ _ _ c.requires.lists_lent.counted _ _ c.requires.lists_lent.shared _ _ _ _ _ c.loop-i.invariant c.loop-i-test.false
