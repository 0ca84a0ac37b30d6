use mathlib.Core.Path.{sym, ◌∙◌}
use Rattle.audit_counters.proofs.Choosing.{runs_more, runs_same, runs_end}
use Rattle.audit_counters.proofs.count_runs.Goals as goal
use Rattle.audit_counters.proofs.count_runs.Goals.{then-counts, else-counts}

pub loop-i-preserved : goal.loop-i-preserved
loop-i-preserved c =
    let l = c.loop-i in
    let here = c.loop-i-test.true in
    let e = sym c.counts.ensures in
    elim c.if-counts.branch [
      | then-counts w ↦ runs_more _ _ _ _ l.invariant here _ w.runs-is (e ∙ w.if-counts.true)
      | else-counts w ↦ runs_same _ _ _ _ l.invariant here _ w.runs-is (e ∙ w.if-counts.false)
    ]

pub returns : goal.returns
returns c = runs_end _ _ _ _ c.loop-i.invariant c.loop-i-test.false
