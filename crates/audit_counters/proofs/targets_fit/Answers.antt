-- `audit_counters::targets_fit` meets its contract: room for all raises, or the raises counted.
use mathlib.Core.Path.{sym, ◌∙◌}
use native.Mathlib.Omega.{arith}
use Rattle.audit_counters.specs.Targets.{targets_in}
use Rattle.audit_counters.proofs.Choosing.{length-targets}
use Rattle.audit_counters.proofs.Room.{room_fits}
use Rattle.audit_counters.proofs.targets_fit.Goals as goal
use Rattle.audit_counters.proofs.targets_fit.Goals.{then-has_room, else-has_room}

pub returns-then-roomy : goal.returns-then-roomy
returns-then-roomy c =
    let a = c.args in
    let n = length-targets a.n a.first.now in
    let m = length-targets a.m a.second.now in
    elim c.if-has_room.branch [
      | then-has_room w ↦
          c.if-roomy.true ∙ room_fits a.each (targets_in a.n a.first.now) (targets_in a.m a.second.now) a.counters.now _ (omega (arith, n, m)) (sym c.has_room.ensures ∙ w.if-has_room.true) (sym w.has_room-roomy.ensures ∙ sym w.roomy-is ∙ c.if-roomy.true) (λ i. omega (arith, c.type_inv.counters i))
      | else-has_room w ↦ cc
    ]
