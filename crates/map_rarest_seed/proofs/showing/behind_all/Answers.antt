use Rattle.map_rarest_seed.proofs.Behind.{shown_more}
use Rattle.map_rarest_seed.proofs.showing.behind_all.Goals as goal

pub loop-i-preserved : goal.loop-i-preserved
loop-i-preserved c = shown_more _ _ _ _ _ _ _ _ _ _ c.loop-i.invariant _ _ c.posting_rank-rank.ensures c.posting_position-position.ensures _ c.behind_posting-left.ensures
