-- `catch_fragments::quality_count` meets its contract: as many as bases where the mark is 1.
use native.Mathlib.Omega.{arith}
use borrow.Author.Tests.{eq-eqb, ne_eqb}
use Rattle.catch_fragments.proofs.quality_count.Goals as goal

pub returns-then-mark-eq1 : goal.returns-then-mark-eq1
returns-then-mark-eq1 c = rw (eq-eqb c.args.mark 1 (omega arith))

pub returns : goal.returns
returns c = rw (ne_eqb c.args.mark 1 (omega arith))
