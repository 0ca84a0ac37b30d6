-- `index_model::test::block_ends_right` meets its contract. The invariant: what is denied so far does not hold.
use Rattle.index_model.specs.Index.{ranked_sequences, RowsRight, Denies}
use Rattle.index_model.proofs.test.block_ends_right.Given as goal

abbrev pub invariant-loop-row : goal.invariant-loop-row
invariant-loop-row l = Denies l.right (RowsRight l.q (ranked_sequences l.targets.bases.now l.targets.ends.now l.targets.ranked.now) l.index.keys.now l.index.ranks.now l.index.positions.now)
