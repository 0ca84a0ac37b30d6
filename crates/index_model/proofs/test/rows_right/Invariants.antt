-- `index_model::test::rows_right` meets its contract. The invariant: the rows in front of the block are seeds and climb.
use Prim.Native.Nat.{◌-◌}
use lib.ListN.{length}
use Rattle.index_model.specs.Index.{ranked_sequences}
use Rattle.index_model.proofs.Testing.{RowsTo}
use Rattle.index_model.proofs.test.rows_right.Given as goal

abbrev pub invariant-loop-from : goal.invariant-loop-from
invariant-loop-from l = RowsTo l.q (ranked_sequences l.targets.bases.now l.targets.ends.now l.targets.ranked.now) l.index.keys.now l.index.ranks.now l.index.positions.now l.from

abbrev pub decreases-loop-from : goal.decreases-loop-from
decreases-loop-from l = length l.index.keys.now - l.from
