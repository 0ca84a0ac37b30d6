use Rattle.index_model.proofs.Sequencing.{counting_next}
use Rattle.index_model.proofs.ranked.count_postings.Goals as goal

pub loop-rank-preserved : goal.loop-rank-preserved
loop-rank-preserved c =
    rw (c.count_starts-count.ensures, c.ranked_sequence-sequence.ensures) (counting_next _ _ _ _ c.requires _ c.loop-rank-test.true _ c.loop-rank.invariant)
