-- `audit_counters::count_runs` meets its contract. The invariant: `RunsCounted`, the runs that ended.
use Rattle.audit_counters.proofs.Choosing.{RunsCounted}
use Rattle.audit_counters.proofs.count_runs.Given as goal

abbrev pub invariant-loop-i : goal.invariant-loop-i
invariant-loop-i l = RunsCounted l.n l.entries l.i l.runs
