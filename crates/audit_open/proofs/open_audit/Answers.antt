-- `audit_open::open_audit` meets its contract: the checks' refusal, or a fresh state and counters of zero.
use mathlib.Core.Path.{refl}
use Rattle.audit_ledger.specs.Booking.{counters_of}
use Rattle.audit_model.specs.Calls.{index_if}
use Rattle.audit_open.proofs.Starting.{opening_refused, opening_done}
use Rattle.audit_open.proofs.open_audit.Goals as goal

pub returns-in-Err : goal.returns-in-Err
returns-in-Err c =
    let a = c.args in
    opening_refused _ _ _ (index_if a.indexed a.index.keys.now a.index.ranks.now a.index.positions.now) _ (counters_of a.placements.now a.singles.now a.multi.now) _ _ c.check_opening-ranking.ensures _ c.in-Err.is _ c.zero_state.ensures _ refl

pub returns-in-Ok : goal.returns-in-Ok
returns-in-Ok c =
    let a = c.args in
    opening_done _ _ _ (index_if a.indexed a.index.keys.now a.index.ranks.now a.index.positions.now) _ (counters_of a.placements.now a.singles.now a.multi.now) _ _ c.check_opening-ranking.ensures _ c.in-Ok.is _ c.fresh_state.ensures _ _ _ c.zero_numbers.ensures c.zero_numbers-in-Ok.ensures c.zero_numbers-in-Ok-2.ensures
