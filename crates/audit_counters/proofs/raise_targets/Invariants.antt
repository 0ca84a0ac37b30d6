-- `audit_counters::raise_targets` meets its contract. The invariant: `RaisedSoFar`, the counters raised by the entries passed.
use Rattle.audit_counters.proofs.Adding.{RaisedSoFar}
use Rattle.audit_counters.proofs.raise_targets.Given as goal

abbrev pub invariant-loop-i : goal.invariant-loop-i
invariant-loop-i l = RaisedSoFar l.each l.n l.entries l.initial.counters l.i l.counters
