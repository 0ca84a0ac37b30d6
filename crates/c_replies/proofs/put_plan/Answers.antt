-- `c_replies::put_plan` meets its contract: the refusal and two zeros, or zero and the two counts.
use mathlib.Core.Path.{refl}
use native.Mathlib.Omega.{arith}
use lib.ListN.{length-set}
use Rattle.c_replies.proofs.Writing.{put_3}
use Rattle.c_replies.proofs.put_plan.Goals as goal

pub bounds-answer-1 : goal.bounds-answer-1
bounds-answer-1 g c =
    let a = c.args in
    omega (arith, c.requires, length-set a.answer.now 0 c.number-number.result)

pub bounds-answer-1-in-Ok : goal.bounds-answer-1-in-Ok
bounds-answer-1-in-Ok g c = let a = c.args in omega (arith, c.requires, length-set a.answer.now 0 0)

pub returns-in-Err : goal.returns-in-Err
returns-in-Err g c = rw c.in-Err.is (rw (← c.number-number.ensures) (record { number = refl; written = put_3 c.args.answer.now _ _ _ c.requires }))

pub returns-in-Ok : goal.returns-in-Ok
returns-in-Ok g c =
    rw c.in-Ok.is (record { number = refl; written = put_3 c.args.answer.now _ _ _ c.requires })
