-- `audit_unitigs::write_rows` meets its contract. The invariant: `Written`, the rows of the first i targets are written.
use Rattle.audit_ledger.specs.Booking.{counters_of}
use Rattle.audit_unitigs.proofs.Writing.{Written}
use Rattle.audit_unitigs.proofs.write_rows.Given as goal

abbrev pub invariant-loop-i : goal.invariant-loop-i
invariant-loop-i l = Written l.status l.marks (counters_of l.counters.placements.now l.counters.singles.now l.counters.multi.now) l.initial.rows l.i l.rows
