use native.Mathlib.Omega.{arith}
use Rattle.audit_ledger.specs.Booking.{counters_of}
use Rattle.audit_unitigs.proofs.Writing.{written_next, written_end}
use Rattle.audit_unitigs.proofs.write_rows.Goals as goal

pub loop-i-preserved : goal.loop-i-preserved
loop-i-preserved c =
    let l = c.loop-i in
    let x = c.target_shown in
    let w = c.write_shown in
    written_next c.args.status c.args.marks.now (counters_of c.args.counters.placements.now c.args.counters.singles.now c.args.counters.multi.now) c.args.rows.now l.i l.rows l.invariant (omega (arith, c.loop-i-test.true)) x.result w.new.rows x.ensures w.ensures

pub returns : goal.returns
returns c = let l = c.loop-i in written_end c.args.status c.args.marks.now (counters_of c.args.counters.placements.now c.args.counters.singles.now c.args.counters.multi.now) c.args.rows.now l.i l.rows l.invariant (omega (arith, c.loop-i-test.false))
