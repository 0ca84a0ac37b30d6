-- `batch_audit::audit_fragments` meets its contract: the opening's checks refuse, or the list is audited in the targets that they ranked.
use Rattle.catalogue.specs.Catalogue.{catalogue_in}
use native.Mathlib.Omega.{arith}
use Rattle.audit_ledger.specs.Booking.{counters_of}
use Rattle.audit_model.specs.Calls.{held_of}
use Rattle.audit_fragment.proofs.Opened.{tested}
use Rattle.batch_lists.specs.Lists.{read_lists, fragment_lists}
use Rattle.batch_audit.proofs.Opened.{opening_stands, within, prefix, opening_passes}
use Rattle.batch_audit.proofs.audit_fragments.Goals as goal

pub slice_bounds-ranked-end : goal.slice_bounds-ranked-end
slice_bounds-ranked-end c =
    let a = c.args in
    within a.q a.offset (catalogue_in a.catalogue) a.indexed a.index.keys.now a.index.ranks.now a.index.positions.now (held_of a.state a.placements.now a.singles.now a.multi.now) (fragment_lists a.ordinals.now a.counts.now (read_lists a.reads.roles.now a.reads.bases.now a.reads.base_ends.now a.reads.marks.now a.reads.qualities.now a.reads.quality_ends.now)) a.rows.now a.entries.now _ _ c.check_opening-ranking.ensures c.requires.0 _ c.in-Ok.is

pub slice_bounds-audit_fitting-end : goal.slice_bounds-audit_fitting-end
slice_bounds-audit_fitting-end c =
    let a = c.args in
    prefix a.q a.offset (catalogue_in a.catalogue) a.indexed a.index.keys.now a.index.ranks.now a.index.positions.now (held_of a.state a.placements.now a.singles.now a.multi.now) (fragment_lists a.ordinals.now a.counts.now (read_lists a.reads.roles.now a.reads.bases.now a.reads.base_ends.now a.reads.marks.now a.reads.qualities.now a.reads.quality_ends.now)) a.rows.now a.entries.now _ _ c.check_opening-ranking.ensures c.requires.0 _ c.in-Ok.is

pub audit_fitting-requires : goal.audit_fitting-requires
audit_fitting-requires c =
    let a = c.args in
    tested a.q a.offset (catalogue_in a.catalogue) a.indexed a.index.keys.now a.index.ranks.now a.index.positions.now a.state.settings (counters_of a.placements.now a.singles.now a.multi.now) _ _ c.check_opening-ranking.ensures c.requires.0 _ c.in-Ok.is (omega (arith, c.check_opening-ranking.auto.ranked))

pub returns-in-Err : goal.returns-in-Err
returns-in-Err c =
    let a = c.args in
    opening_stands a.q a.offset (catalogue_in a.catalogue) a.indexed a.index.keys.now a.index.ranks.now a.index.positions.now (held_of a.state a.placements.now a.singles.now a.multi.now) (fragment_lists a.ordinals.now a.counts.now (read_lists a.reads.roles.now a.reads.bases.now a.reads.base_ends.now a.reads.marks.now a.reads.qualities.now a.reads.quality_ends.now)) a.rows.now a.entries.now _ _ c.check_opening-ranking.ensures _ c.in-Err.is

pub returns-in-Ok : goal.returns-in-Ok
returns-in-Ok c =
    let a = c.args in
    opening_passes a.q a.offset (catalogue_in a.catalogue) a.indexed a.index.keys.now a.index.ranks.now a.index.positions.now (held_of a.state a.placements.now a.singles.now a.multi.now) (fragment_lists a.ordinals.now a.counts.now (read_lists a.reads.roles.now a.reads.bases.now a.reads.base_ends.now a.reads.marks.now a.reads.qualities.now a.reads.quality_ends.now)) a.rows.now a.entries.now _ _ c.check_opening-ranking.ensures c.requires.0 _ c.in-Ok.is _ _ _ _ c.audit_fitting.ensures
