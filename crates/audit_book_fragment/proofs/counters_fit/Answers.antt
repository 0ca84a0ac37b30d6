-- `audit_book_fragment::counters_fit` meets its contract.
use mathlib.Core.Path.{◌≡◌, sym, ◌∙◌}
use mathlib.Core.Bool.{true, false}
use Rattle.audit_ledger.specs.Booking.{counters_of}
use Rattle.audit_counters.specs.Targets.{small}
use Rattle.audit_book_fragment.proofs.Raises.{both, singles_fit, multi_fit}
use Rattle.audit_book_fragment.proofs.counters_fit.Goals as goal
use Rattle.audit_book_fragment.proofs.counters_fit.Goals.{then-targets_fit, else-targets_fit}

pub returns-then-targets_fit-2 : goal.returns-then-targets_fit-2
returns-then-targets_fit-2 c =
    let a = c.args in
    let k = counters_of a.counters.placements.now a.counters.singles.now a.counters.multi.now in
    let o = both a.n a.first.now a.m a.second.now k in
    elim c.if-targets_fit.branch [
      | then-targets_fit w ↦
          let p : small o.placements ≡ true = sym c.targets_fit.ensures ∙ w.if-targets_fit.true in
          let s : small o.singles ≡ true = sym (singles_fit a.n a.first.now a.m a.second.now k _ _ w.single_groups.ensures w.single_groups-then-targets_fit.ensures _ w.targets_fit-then-targets_fit.ensures) ∙ sym w.value-is ∙ c.if-targets_fit-2.true in
          rw (p, s) (multi_fit a.n a.first.now a.m a.second.now k _ _ c.several_groups.ensures c.several_groups-then-targets_fit-2.ensures _ c.targets_fit-then-targets_fit-2.ensures)
      | else-targets_fit w ↦ cc
    ]

pub returns-else-targets_fit-2 : goal.returns-else-targets_fit-2
returns-else-targets_fit-2 c =
    let a = c.args in
    let k = counters_of a.counters.placements.now a.counters.singles.now a.counters.multi.now in
    let o = both a.n a.first.now a.m a.second.now k in
    elim c.if-targets_fit.branch [
      | then-targets_fit w ↦
          let p : small o.placements ≡ true = sym c.targets_fit.ensures ∙ w.if-targets_fit.true in
          rw p (w.value-is ∙ rw (← singles_fit a.n a.first.now a.m a.second.now k _ _ w.single_groups.ensures w.single_groups-then-targets_fit.ensures _ w.targets_fit-then-targets_fit.ensures, sym w.value-is ∙ c.if-targets_fit-2.false))
      | else-targets_fit w ↦
          let p : small o.placements ≡ false = sym c.targets_fit.ensures ∙ w.if-targets_fit.false in
          rw p c.if-targets_fit-2.false
    ]
