use native.Mathlib.Omega.{arith}
use Rattle.audit_unitigs.proofs.Comparing.{alike_start, other_number}
use Rattle.audit_unitigs.proofs.same_targets.Goals as goal

pub returns-then-other_ends-n : goal.returns-then-other_ends-n
returns-then-other_ends-n c = let z = c.args in other_number z.identifiers.now z.ends.now z.marks.now z.other_identifiers.now z.other_ends.now z.other_marks.now (λ e. omega (arith, c.if-other_ends-n.true))

pub loop-i-init : goal.loop-i-init
loop-i-init c = let z = c.args in alike_start z.identifiers.now z.ends.now z.marks.now z.other_identifiers.now z.other_ends.now z.other_marks.now c.requires.0 c.requires.1 (omega (arith, c.if-other_ends-n.false))
