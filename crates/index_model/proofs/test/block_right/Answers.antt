use mathlib.Core.Path.{◌∙◌}
use native.Mathlib.Omega.{arith}
use Rattle.index_model.specs.Index.{ranked_sequences}
use Rattle.index_model.proofs.Testing.{block_more, row_seed}
use Rattle.index_model.proofs.test.block_right.Goals as goal

pub loop-i-preserved : goal.loop-i-preserved
loop-i-preserved c =
    let a = c.args in
    let seed =
    row_seed a.index.keys.now a.index.ranks.now a.index.positions.now a.q (ranked_sequences a.targets.bases.now a.targets.ends.now a.targets.ranked.now) _ _ _ _ _ c.posting_key-key.ensures c.posting_rank-rank.ensures c.posting_position-position.ensures c.is_seed.ensures in
    block_more _ _ _ _ _ _ _ _ c.loop-i.invariant (omega arith) _ (omega arith) (seed ∙ c.if-not-is_seed.false) (c.row_climbs.ensures.yes_so c.if-not-row_climbs.false)
