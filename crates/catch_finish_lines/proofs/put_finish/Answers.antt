-- `catch_finish_lines::put_finish` meets its contract, answer by answer.
use mathlib.Core.Path.{refl}
use native.Mathlib.Omega.{arith}
use Rattle.lists.specs.Cut.{cut}
use Rattle.audit_ledger.specs.Booking.{counters_of}
use Rattle.catch_finish_lines.proofs.Finishing.{refusal_added, sheet_added}
use Rattle.catch_finish_lines.proofs.put_finish.Goals as goal

pub returns-in-Err : goal.returns-in-Err
returns-in-Err g c = refusal_added _ _ _ _ _ _ _ _ _ _ _ _ c.in-Err.is c.put_refusal.ensures

pub returns-in-Ok : goal.returns-in-Ok
returns-in-Ok g c =
    let a = c.args in
    let k = counters_of a.counters.placements.now a.counters.singles.now a.counters.multi.now in
    sheet_added _ _ k (cut a.ends.now a.identifiers.now) a.marks.now _ _ _ _ _ _ c.in-Ok.is _ _ c.put_sheet.ensures (omega arith) (refl {a = k})
