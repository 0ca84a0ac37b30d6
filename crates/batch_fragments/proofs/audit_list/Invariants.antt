-- `batch_fragments::audit_list` meets its contract: fragment by fragment.
use Rattle.index_model.specs.Index.{ranked_sequences}
use Rattle.audit_model.specs.Calls.{held_of, index_if}
use Rattle.audit_observe_read.specs.Observed.{way_if}
use Rattle.batch_lists.specs.Lists.{read_lists}
use Rattle.batch_fragments.proofs.Listing.{Going}
use Rattle.batch_fragments.proofs.audit_list.Given as goal

abbrev pub invariant-loop-i : goal.invariant-loop-i
invariant-loop-i l =
    Going l.offset (ranked_sequences l.targets.bases.now l.targets.ends.now l.targets.ranked.now) (way_if l.indexed l.q) l.targets.ranked.now (index_if l.indexed l.index.keys.now l.index.ranks.now l.index.positions.now) (read_lists l.reads.roles.now l.reads.bases.now l.reads.base_ends.now l.reads.marks.now l.reads.qualities.now l.reads.quality_ends.now) l.width l.ordinals l.counts
    (held_of l.initial.held l.initial.placements l.initial.singles l.initial.multi) l.initial.entries l.i l.at (held_of l.held l.placements l.singles l.multi) l.rows l.entries
