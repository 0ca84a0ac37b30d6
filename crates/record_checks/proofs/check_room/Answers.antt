-- `record_checks::check_room` meets its contract: the refusal of the plan, no room in the shortest column, or room.
use Rattle.std.proofs.lemmas.Result.{err_from_is_err_and}
use native.Mathlib.Omega.{arith}
use Rattle.record_checks.proofs.Checking.{refused_before, no_room, with_room}
use Rattle.record_checks.proofs.check_room.Goals as goal

pub returns-in_err-plan : goal.returns-in_err-plan
returns-in_err-plan c = let p = err_from_is_err_and c.from_residual.result c.from_residual.ensures.1 in rw (p.1, p.2) (refused_before _ _ _ _ _ c.plan.ensures _ c.in_err-plan.was)

pub returns-then-room-records : goal.returns-then-room-records
returns-then-room-records c = no_room _ _ _ _ _ c.plan.ensures _ c.in_ok-plan.was (omega (arith, c.if-room-records.true))

pub returns : goal.returns
returns c = with_room _ _ _ _ _ c.plan.ensures _ c.in_ok-plan.was (omega (arith, c.if-room-records.false))
