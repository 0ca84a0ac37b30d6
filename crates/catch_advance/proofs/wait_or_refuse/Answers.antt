-- `catch_advance::wait_or_refuse` meets its contract: 20 at the end of the stream, else nothing.
use Rattle.catch_advance.proofs.Advancing.{stays_ended, stays_open}
use Rattle.catch_advance.proofs.wait_or_refuse.Goals as goal

pub returns-then-ended : goal.returns-then-ended
returns-then-ended c =
    let a = c.args in
    stays_ended a.ended a.out.now a.at _ _ c.if-ended.true c.refuse.ensures

pub returns : goal.returns
returns c =
    let a = c.args in
    stays_open a.ended a.out.now a.at _ c.if-ended.false c.wait.ensures
