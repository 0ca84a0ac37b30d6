-- `batch_audit::audit_fitting` meets its contract: lists that do not fit are refused, and others gone through.
use native.Mathlib.Omega.{arith}
use mathlib.Core.Path.{sym, ◌∙◌}
use Rattle.index_model.specs.Index.{ranked_sequences}
use Rattle.audit_model.specs.Calls.{held_of, index_if}
use Rattle.audit_observe_read.specs.Observed.{way_if}
use Rattle.batch_lists.specs.Lists.{read_lists, fragment_lists}
use Rattle.batch_audit.proofs.Fits.{lists_lent, unfit, fitting}
use Rattle.batch_audit.proofs.audit_fitting.Goals as goal

pub returns-then-not-lists_fit : goal.returns-then-not-lists_fit
returns-then-not-lists_fit c =
    let a = c.args in
    let held = held_of a.state a.placements.now a.singles.now a.multi.now in
    let fragments = fragment_lists a.ordinals.now a.counts.now (read_lists a.reads.roles.now a.reads.bases.now a.reads.base_ends.now a.reads.marks.now a.reads.qualities.now a.reads.quality_ends.now) in
    unfit a.offset (ranked_sequences a.targets.bases.now a.targets.ends.now a.targets.ranked.now) (way_if a.indexed a.q) a.targets.ranked.now (index_if a.indexed a.index.keys.now a.index.ranks.now a.index.positions.now) held fragments a.rows.now a.entries.now (sym c.lists_fit.ensures ∙ c.if-not-lists_fit.true)

pub overflow_mul-share : goal.overflow_mul-share
overflow_mul-share c = omega (arith, c.share_of-share.ensures.2)

pub audit_list-after-requires : goal.audit_list-after-requires
audit_list-after-requires c =
    let a = c.args in record { tested = c.requires; lists_lent = lists_lent (fragment_lists a.ordinals.now a.counts.now (read_lists a.reads.roles.now a.reads.bases.now a.reads.base_ends.now a.reads.marks.now a.reads.qualities.now a.reads.quality_ends.now)) a.rows.now (sym c.lists_fit.ensures ∙ c.if-not-lists_fit.false) c.share_of-share.result a.entries.now c.share_of-share.ensures.0 }

pub returns : goal.returns
returns c =
    let a = c.args in
    let held = held_of a.state a.placements.now a.singles.now a.multi.now in
    let fragments = fragment_lists a.ordinals.now a.counts.now (read_lists a.reads.roles.now a.reads.bases.now a.reads.base_ends.now a.reads.marks.now a.reads.qualities.now a.reads.quality_ends.now) in
    fitting a.offset (ranked_sequences a.targets.bases.now a.targets.ends.now a.targets.ranked.now) (way_if a.indexed a.q) a.targets.ranked.now (index_if a.indexed a.index.keys.now a.index.ranks.now a.index.positions.now) held fragments a.rows.now a.entries.now (sym c.lists_fit.ensures ∙ c.if-not-lists_fit.false) c.share_of-share.result c.share_of-share.ensures.1 _ _ _ _ c.audit_list-after.ensures
