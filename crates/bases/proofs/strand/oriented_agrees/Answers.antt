-- `bases::strand::oriented_agrees` meets its contract: complements by the sum of their bits, a base itself by the bits.
use mathlib.Core.Path.{◌∙◌}
use native.Mathlib.Omega.{arith}
use Rattle.bases.proofs.Turning.{on_plus_agrees, on_minus_agrees, first_sum, second_sum}
use Rattle.bases.proofs.strand.oriented_agrees.Goals as goal

pub returns-then-sum-eq21 : goal.returns-then-sum-eq21
returns-then-sum-eq21 c =
    let a = c.args in
    first_sum _ c.if-sum-eq21.true ∙ on_minus_agrees a.letter a.strand a.bases.now a.i c.requires (λ e. omega arith)

pub returns-else-sum-eq21 : goal.returns-else-sum-eq21
returns-else-sum-eq21 c =
    let a = c.args in
    second_sum _ c.if-sum-eq21.false ∙ on_minus_agrees a.letter a.strand a.bases.now a.i c.requires (λ e. omega arith)

pub returns : goal.returns
returns c =
    let a = c.args in
    on_plus_agrees a.letter a.strand a.bases.now a.i c.requires (omega arith)
