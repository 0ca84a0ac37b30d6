-- `index_model::ranked::count_postings` meets its contract. The invariant: the seeds of the first ranks are counted.
use Rattle.index_model.specs.Index.{ranked_sequences}
use Rattle.index_model.proofs.Sequencing.{Counting}
use Rattle.index_model.proofs.ranked.count_postings.Given as goal

abbrev pub invariant-loop-rank : goal.invariant-loop-rank
invariant-loop-rank l = Counting l.q (ranked_sequences l.targets.bases.now l.targets.ends.now l.targets.ranked.now) l.rank l.count
