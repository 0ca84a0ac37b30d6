use Rattle.batch_fragment_rows.proofs.Refusing.{refusing_next}
use Rattle.batch_fragment_rows.proofs.write_refusals.Goals as goal

pub loop-i-preserved : goal.loop-i-preserved
loop-i-preserved g c = refusing_next _ _ _ _ _ _ c.loop-i.invariant c.loop-i-test.true c.requires _ c.write_row.ensures
