-- `c_batch::fragments_numbers` meets its contract: 26, or the call behind it.
use Rattle.catalogue.specs.Catalogue.{catalogue_in}
use mathlib.Core.Path.{sym, ◌∙◌}
use Rattle.audit_ledger.specs.Booking.{counters_of}
use Rattle.audit_model.specs.Opening.{columns}
use Rattle.batch_lists.specs.Lists.{read_lists, fragment_lists}
use Rattle.c_state.proofs.Testing.{state_parts}
use Rattle.c_batch.proofs.Telling.{no_state, list_told}
use Rattle.c_batch.proofs.fragments_numbers.Goals as goal

pub returns-then-not-is_state : goal.returns-then-not-is_state
returns-then-not-is_state c =
    let a = c.args in
    no_state (catalogue_in a.catalogue) (columns a.index.keys.now a.index.ranks.now a.index.positions.now) (counters_of a.placements.now a.singles.now a.multi.now) (fragment_lists a.ordinals.now a.counts.now (read_lists a.reads.roles.now a.reads.bases.now a.reads.base_ends.now a.reads.marks.now a.reads.qualities.now a.reads.quality_ends.now)) a.state.now a.rows.now a.entries.now (sym c.is_state.ensures ∙ c.if-not-is_state.true)

pub state_of-held-requires : goal.state_of-held-requires
state_of-held-requires c = sym c.is_state.ensures ∙ c.if-not-is_state.false

pub put_state-requires : goal.put_state-requires
put_state-requires c = (state_parts c.args.state.now (sym c.is_state.ensures ∙ c.if-not-is_state.false)).sized

pub returns : goal.returns
returns c =
    let a = c.args in
    let fragments = fragment_lists a.ordinals.now a.counts.now (read_lists a.reads.roles.now a.reads.bases.now a.reads.base_ends.now a.reads.marks.now a.reads.qualities.now a.reads.quality_ends.now) in
    list_told (catalogue_in a.catalogue) (columns a.index.keys.now a.index.ranks.now a.index.positions.now) (counters_of a.placements.now a.singles.now a.multi.now) fragments a.state.now a.rows.now a.entries.now (sym c.is_state.ensures ∙ c.if-not-is_state.false) _ c.state_of-held.ensures _ _ _ _ c.fragments-audit.ensures _ c.put_state.ensures _ c.number_of.ensures
