-- `catch_state::opened_job` meets its contract, answer by answer.
use mathlib.Core.Path.{sym, ap}
use Rattle.catch_state.specs.Jobs.{opened_job}
use Rattle.catch_state.proofs.opened_job.Goals as goal

pub returns-in-Err : goal.returns-in-Err
returns-in-Err c = let a = c.args in sym (ap (opened_job a.at a.job) c.in-Err.is)

pub returns-in-Ok : goal.returns-in-Ok
returns-in-Ok c = let a = c.args in sym (ap (opened_job a.at a.job) c.in-Ok.is)
