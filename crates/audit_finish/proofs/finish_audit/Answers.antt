-- `audit_finish::finish_audit` meets its contract: the checks' refusal, or what is answered behind them.
use Rattle.audit_finish.proofs.Finishing.{finish_refused, finish_behind}
use Rattle.audit_finish.proofs.finish_audit.Goals as goal

pub returns-in-Err : goal.returns-in-Err
returns-in-Err c = finish_refused _ _ _ _ _ _ _ _ _ _ c.check_opening-ranking.ensures _ c.in-Err.is _ c.zero_state.ensures _ c.sheet_of.ensures

pub returns-in-Ok : goal.returns-in-Ok
returns-in-Ok c = finish_behind _ _ _ _ _ _ _ _ _ _ c.check_opening-ranking.ensures _ c.in-Ok.is _ c.finish_tested.ensures
