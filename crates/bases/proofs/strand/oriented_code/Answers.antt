-- `bases::strand::oriented_code` meets its contract: past the end, on '+', and on '-', where base i is counted from the other end.
use native.Mathlib.Omega.{arith}
use mathlib.Core.Path.{ap, ◌∙◌}
use Rattle.bases.specs.Base.{code_of}
use Rattle.bases.proofs.Turning.{past_end, on_minus}
use Rattle.bases.proofs.strand.oriented_code.Goals as goal

pub returns-then-bases-i : goal.returns-then-bases-i
returns-then-bases-i c = let a = c.args in omega (arith, past_end a.strand a.bases.now a.i (omega arith))

pub returns-else-strand-eq0 : goal.returns-else-strand-eq0
returns-else-strand-eq0 c =
    let a = c.args in
    c.code_in-else-strand-eq0.ensures ∙ ap code_of c.complement_in.ensures ∙ on_minus a.strand a.bases.now a.i (λ e. omega arith) (omega arith)
