-- `audit_counters::totals_fit` meets its contract.
use mathlib.Core.Path.{refl, ◌∙◌}
use mathlib.Core.List.{[]}
use native.Mathlib.Omega.{arith}
use Rattle.audit_counters.specs.Targets.{targets_in, counted_targets}
use Rattle.audit_counters.proofs.Adding.{clear, marks_raisable, marks_fit, few_chosen}
use Rattle.audit_counters.proofs.totals_fit.Goals as goal

pub raise_targets-requires : goal.raise_targets-requires
raise_targets-requires c =
    marks_raisable [] clear refl c.args.each _ _ (omega arith) (omega arith) c.requires.first_targeted.room (λ i h. omega (arith, c.requires.first_targeted.inside i h))

pub raise_targets-requires-2 : goal.raise_targets-requires-2
raise_targets-requires-2 c =
    let a = c.args in
    marks_raisable (counted_targets a.each (targets_in a.n a.first.now)) _ c.raise_targets.ensures a.each _ _ (few_chosen a.each a.n a.first.now c.requires.few.1) (omega arith) (omega arith) (λ i h. omega (arith, c.requires.second_targeted.inside i (omega (arith, h))))

pub returns : goal.returns
returns c =
    let a = c.args in
    c.sums_fit.ensures
    ∙ marks_fit (counted_targets a.each (targets_in a.n a.first.now)) _ c.raise_targets.ensures (counted_targets a.each (targets_in a.m a.second.now)) _ a.counters.now c.raise_targets-2.ensures c.requires.few.0
