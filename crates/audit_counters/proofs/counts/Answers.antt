-- `audit_counters::counts` meets its contract.
use mathlib.Core.Path.{sym, ◌∙◌}
use borrow.Author.Tests.{eqb-true, eqb-false}
use Rattle.audit_counters.proofs.Choosing.{counts_each, counts_last, counts_next}
use Rattle.audit_counters.proofs.counts.Goals as goal
use Rattle.audit_counters.proofs.counts.Goals.{then-each, else-each}

pub returns-then-i-n : goal.returns-then-i-n
returns-then-i-n c =
    let a = c.args in
    elim c.if-each.branch [
      | then-each w ↦ c.if-i-n.true ∙ counts_each a.each a.n a.entries.now a.i w.if-each.true
      | else-each w ↦ c.if-i-n.true ∙ counts_last a.each a.n a.entries.now a.i (eqb-true _ _ (sym w.value-is ∙ c.if-i-n.true))
    ]

pub returns-else-i-n : goal.returns-else-i-n
returns-else-i-n c =
    let a = c.args in
    elim c.if-each.branch [
      | then-each w ↦ cc
      | else-each w ↦ counts_next a.each a.n a.entries.now a.i w.if-each.false c.requires.1 (eqb-false _ _ (sym w.value-is ∙ c.if-i-n.false))
    ]
