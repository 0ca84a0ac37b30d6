-- `batch_reads::map_shares` meets its contract. The invariant: `RankedShares`, the reads that have their rows and shares.
use Rattle.index_model.specs.Index.{ranked_sequences}
use Rattle.batch_reads.proofs.Sharing.{RankedShares}
use Rattle.batch_reads.proofs.map_shares.Given as goal

abbrev pub invariant-loop-i : goal.invariant-loop-i
invariant-loop-i l =
    RankedShares l.q (ranked_sequences l.targets.bases.now l.targets.ends.now l.targets.ranked.now) l.targets.ranked.now l.limit l.reads l.read_ends l.share l.initial.rows l.initial.entries l.i l.rows l.entries
