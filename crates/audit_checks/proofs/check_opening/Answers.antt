-- `audit_checks::check_opening` meets its contract, refusal by refusal.
use Rattle.std.proofs.lemmas.Result.{err_from_is_err_and}
use mathlib.Core.Path.{◌≡◌, sym, ap, ◌∙◌}
use mathlib.Core.Bool.{◌&&◌}
use native.Mathlib.Omega.{arith}
use Rattle.index_plan.proofs.Planning.{within_buffer, prefix_length, lent}
use Rattle.audit_ledger.specs.Booking.{counters_of}
use Rattle.audit_checks.proofs.Opening.{settings_refused, counters_refused, catalogue_refused, index_refused, all_right}
use Rattle.audit_checks.proofs.check_opening.Goals as goal
use Rattle.audit_checks.proofs.check_opening.Goals.{then-indexed, else-indexed}

pub returns-in_err-check_settings : goal.returns-in_err-check_settings
returns-in_err-check_settings c =
    let a = c.args in
    let p = err_from_is_err_and c.from_residual.result c.from_residual.ensures.1 in
    rw (p.1, p.2) (settings_refused _ _ _ a.indexed a.index.keys.now a.index.ranks.now a.index.positions.now _ (counters_of a.counters.placements.now a.counters.singles.now a.counters.multi.now) _ c.in_err-check_settings.ensures _)

pub returns-then-not-counters_right : goal.returns-then-not-counters_right
returns-then-not-counters_right c =
    let a = c.args in
    counters_refused _ _ _ a.indexed a.index.keys.now a.index.ranks.now a.index.positions.now _ (counters_of a.counters.placements.now a.counters.singles.now a.counters.multi.now) c.in_ok-check_settings.ensures _ c.counters_right.ensures c.if-not-counters_right.true _

pub returns-in_err-k : goal.returns-in_err-k
returns-in_err-k c =
    let a = c.args in
    let p = err_from_is_err_and c.from_residual-in_err-k.result c.from_residual-in_err-k.ensures.1 in
    rw (p.1, p.2) (catalogue_refused _ _ _ a.indexed a.index.keys.now a.index.ranks.now a.index.positions.now _ (counters_of a.counters.placements.now a.counters.singles.now a.counters.multi.now) c.in_ok-check_settings.ensures _ c.counters_right.ensures c.if-not-counters_right.false c.requires.seed _ _ c.rank_checked.ensures _ c.in_err-k.was)

pub slice_bounds-targets-end : goal.slice_bounds-targets-end
slice_bounds-targets-end c = within_buffer _ _ _ _ c.rank_checked.ensures _ c.in_ok-k.was

pub slice_bounds-targets-end-2 : goal.slice_bounds-targets-end-2
slice_bounds-targets-end-2 c = prefix_length _ _ _ _ c.rank_checked.ensures _ c.in_ok-k.was

pub index_fits-requires : goal.index_fits-requires
index_fits-requires c =
    let r = c.rank_checked in
    (lent _ _ _ _ r.ensures _ c.in_ok-k.was (omega (arith, r.auto.ranked, c.requires.room)), c.requires.seed)

pub returns-then-not-index_fits : goal.returns-then-not-index_fits
returns-then-not-index_fits c =
    let tested : c.if-indexed.tested ≡ (c.args.indexed && c.args.settings.remap) = elim c.if-indexed.branch [
      | then-indexed h ↦ h.tested-is ∙ ap (λ b. b && c.args.settings.remap) (sym h.if-indexed.true)
      | else-indexed h ↦ h.tested-is ∙ h.if-indexed.false ∙ ap (λ b. b && c.args.settings.remap) (sym h.if-indexed.false)
    ] in
    let a = c.args in
    index_refused _ _ _ a.indexed a.index.keys.now a.index.ranks.now a.index.positions.now _ (counters_of a.counters.placements.now a.counters.singles.now a.counters.multi.now) c.in_ok-check_settings.ensures _ c.counters_right.ensures c.if-not-counters_right.false c.requires.seed _ _ c.rank_checked.ensures _ c.in_ok-k.was _ tested _ c.index_fits.ensures c.if-not-index_fits.true

pub returns : goal.returns
returns c =
    let tested : c.if-indexed.tested ≡ (c.args.indexed && c.args.settings.remap) = elim c.if-indexed.branch [
      | then-indexed h ↦ h.tested-is ∙ ap (λ b. b && c.args.settings.remap) (sym h.if-indexed.true)
      | else-indexed h ↦ h.tested-is ∙ h.if-indexed.false ∙ ap (λ b. b && c.args.settings.remap) (sym h.if-indexed.false)
    ] in
    let a = c.args in
    all_right _ _ _ a.indexed a.index.keys.now a.index.ranks.now a.index.positions.now _ (counters_of a.counters.placements.now a.counters.singles.now a.counters.multi.now) c.in_ok-check_settings.ensures _ c.counters_right.ensures c.if-not-counters_right.false c.requires.seed _ _ c.rank_checked.ensures _ c.in_ok-k.was _ tested _ c.index_fits.ensures c.if-not-index_fits.false
