-- `audit_tested::observe::observe_tested` meets its contract: order and roles, the checks of the reads, and what is observed of them.
use Rattle.std.proofs.lemmas.Result.{err_from_is_err_and}
use mathlib.Core.Path.{◌≡◌, sym, ap, ◌∙◌}
use mathlib.Core.Bool.{◌&&◌}
use mathlib.Core.List.{[]}
use Rattle.audit_model.specs.Calls.{held_of, mate_of}
use Rattle.audit_observe_read.specs.Observed.{way_if}
use Rattle.audit_tested.proofs.Joining.{by_order}
use Rattle.audit_tested.proofs.Observed.{reads_refused, ranked_lent, reads_observed}
use Rattle.audit_tested.proofs.observe.observe_tested.Goals as goal
use Rattle.audit_tested.proofs.observe.observe_tested.Goals.{then-indexed, else-indexed}

pub returns-in_err-check_order : goal.returns-in_err-check_order
returns-in_err-check_order c =
    let a = c.args in
    let p = err_from_is_err_and c.from_residual.result c.from_residual.ensures.1 in
    rw (p.1, p.2) (by_order a.offset _ (way_if a.indexed a.q) a.targets.ranked.now (held_of a.state a.counters.placements.now a.counters.singles.now a.counters.multi.now) a.ordinal a.count (mate_of a.first_role a.first.now a.first_present a.first_qualities.now) (mate_of a.second_role a.second.now a.second_present a.second_qualities.now) a.entries.now _ c.in_err-check_order.ensures)

pub observe_ranked-requires : goal.observe_ranked-requires
observe_ranked-requires c =
    let searchable : c.if-indexed.searchable ≡ (c.args.indexed && c.args.state.settings.remap) = elim c.if-indexed.branch [
      | then-indexed h ↦ h.searchable-is ∙ ap (λ b. b && c.args.state.settings.remap) (sym h.if-indexed.true)
      | else-indexed h ↦ h.searchable-is ∙ h.if-indexed.false ∙ ap (λ b. b && c.args.state.settings.remap) (sym h.if-indexed.false)
    ] in
    let a = c.args in
    ranked_lent a.offset [] a.indexed a.q a.targets.ranked.now (held_of a.state a.counters.placements.now a.counters.singles.now a.counters.multi.now) a.ordinal a.count (mate_of a.first_role a.first.now a.first_present a.first_qualities.now) (mate_of a.second_role a.second.now a.second_present a.second_qualities.now) a.entries.now _ (c.check_reads.ensures a.first_role a.second_role) _ c.in_ok-searched.was a.targets.bases.now a.targets.ends.now a.index.keys.now a.index.ranks.now a.index.positions.now c.requires _ searchable

pub returns-in_err-searched : goal.returns-in_err-searched
returns-in_err-searched c =
    let a = c.args in
    let p = err_from_is_err_and c.from_residual-in_err-searched.result c.from_residual-in_err-searched.ensures.1 in
    rw (p.1, p.2) (reads_refused a.offset _ a.indexed a.q a.targets.ranked.now (held_of a.state a.counters.placements.now a.counters.singles.now a.counters.multi.now) a.ordinal a.count (mate_of a.first_role a.first.now a.first_present a.first_qualities.now) (mate_of a.second_role a.second.now a.second_present a.second_qualities.now) a.entries.now _ (c.check_reads.ensures a.first_role a.second_role) (sym c.in_ok-check_order.ensures) _ c.in_err-searched.was)

pub returns : goal.returns
returns c =
    let searchable : c.if-indexed.searchable ≡ (c.args.indexed && c.args.state.settings.remap) = elim c.if-indexed.branch [
      | then-indexed h ↦ h.searchable-is ∙ ap (λ b. b && c.args.state.settings.remap) (sym h.if-indexed.true)
      | else-indexed h ↦ h.searchable-is ∙ h.if-indexed.false ∙ ap (λ b. b && c.args.state.settings.remap) (sym h.if-indexed.false)
    ] in
    let a = c.args in
    reads_observed a.offset _ a.indexed a.q a.targets.ranked.now (held_of a.state a.counters.placements.now a.counters.singles.now a.counters.multi.now) a.ordinal a.count (mate_of a.first_role a.first.now a.first_present a.first_qualities.now) (mate_of a.second_role a.second.now a.second_present a.second_qualities.now) a.entries.now _ (c.check_reads.ensures a.first_role a.second_role) _ c.in_ok-searched.was (sym c.in_ok-check_order.ensures) _ searchable _ _ c.observe_ranked.ensures
