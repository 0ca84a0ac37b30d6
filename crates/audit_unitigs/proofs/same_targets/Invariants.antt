-- `audit_unitigs::same_targets` meets its contract. The invariant: `Alike`, the answer for the places from i on is the answer for all.
use Rattle.lists.specs.Cut.{cut}
use Rattle.audit_unitigs.proofs.Comparing.{Alike}
use Rattle.audit_unitigs.proofs.same_targets.Given as goal

abbrev pub invariant-loop-i : goal.invariant-loop-i
invariant-loop-i l =
    Alike (cut l.ends l.identifiers) l.marks (cut l.other_ends l.other_identifiers) l.other_marks l.i
