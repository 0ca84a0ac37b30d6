-- `index_model::test::block_right` meets its contract. The invariant: the rows of the block up to i are seeds and climb.
use Rattle.index_model.specs.Index.{ranked_sequences}
use Rattle.index_model.proofs.Testing.{BlockTo}
use Rattle.index_model.proofs.test.block_right.Given as goal

abbrev pub invariant-loop-i : goal.invariant-loop-i
invariant-loop-i l = BlockTo l.q (ranked_sequences l.targets.bases.now l.targets.ends.now l.targets.ranked.now) l.index.keys.now l.index.ranks.now l.index.positions.now l.from l.end l.i
