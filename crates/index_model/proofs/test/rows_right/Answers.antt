use native.Mathlib.Omega.{arith}
use Rattle.index_model.proofs.Testing.{rows_more}
use Rattle.index_model.proofs.test.rows_right.Goals as goal

pub loop-from-preserved : goal.loop-from-preserved
loop-from-preserved c = rows_more _ _ _ _ _ _ c.loop-from.invariant _ _ (omega arith) c.block_end-end.ensures (c.block_right.ensures.yes_so c.if-not-block_right.false)
