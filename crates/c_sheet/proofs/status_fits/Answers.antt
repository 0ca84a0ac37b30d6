-- `c_sheet::status_fits` meets its contract.
use native.Mathlib.Omega.{arith}
use borrow.Author.Tests.{eq-eqb, ne_eqb}
use Rattle.c_sheet.proofs.status_fits.Goals as goal

pub returns-then-remap-eq1 : goal.returns-then-remap-eq1
returns-then-remap-eq1 c = rw (eq-eqb c.args.remap 1 (omega arith))

pub returns : goal.returns
returns c = rw (ne_eqb c.args.remap 1 (λ e. omega arith))
