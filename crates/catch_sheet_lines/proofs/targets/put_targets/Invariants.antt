-- `catch_sheet_lines::targets::put_targets` meets its contract. The loop's invariant: the lines of the targets passed stand behind those of the output.
use Rattle.lists.specs.Cut.{cut}
use Rattle.audit_ledger.specs.Booking.{counters_of}
use Rattle.catch_sheet_lines.specs.Lent.{place_lines}
use Rattle.catch_sheet_lines.proofs.Listing.{Listed}
use Rattle.catch_sheet_lines.proofs.targets.put_targets.Given as goal

abbrev pub invariant-loop-i : goal.invariant-loop-i
invariant-loop-i l = Listed (place_lines l.status (counters_of l.counters.placements.now l.counters.singles.now l.counters.multi.now) (cut l.ends l.identifiers) l.marks) l.initial.out l.at l.n l.out l.p l.i
