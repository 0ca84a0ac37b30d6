-- `c_replies::put_built` meets its contract: the refusal and zero, or zero and the count.
use mathlib.Core.Path.{refl}
use Rattle.c_replies.proofs.Writing.{put_2}
use Rattle.c_replies.proofs.put_built.Goals as goal

pub returns-in-Err : goal.returns-in-Err
returns-in-Err g c = rw c.in-Err.is (rw (← c.number-refusal.ensures) (record { number = refl; written = put_2 c.args.answer.now _ _ c.requires }))

pub returns-in-Ok : goal.returns-in-Ok
returns-in-Ok g c = rw c.in-Ok.is (record { number = refl; written = put_2 c.args.answer.now _ _ c.requires })
