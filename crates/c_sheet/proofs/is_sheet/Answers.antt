-- `c_sheet::is_sheet` meets its contract: one test after the other.
use mathlib.Core.Path.{sym, ◌∙◌}
use native.Mathlib.Omega.{arith}
use Rattle.c_sheet.proofs.Testing.{wrong_length, wrong_refusal, wrong_mode, wrong_remap, wrong_status, with_totals, wrong_placements, wrong_singles, by_multi}
use Rattle.c_sheet.proofs.is_sheet.Goals as goal

pub returns-then-numbers-ne25 : goal.returns-then-numbers-ne25
returns-then-numbers-ne25 c = wrong_length c.args.numbers.now (omega arith)

pub returns-then-numbers-ne0 : goal.returns-then-numbers-ne0
returns-then-numbers-ne0 c = wrong_refusal c.args.numbers.now (omega arith) (omega arith)

pub returns-then-numbers-gt1 : goal.returns-then-numbers-gt1
returns-then-numbers-gt1 c = wrong_mode c.args.numbers.now (omega arith) (omega arith) (omega arith)

pub returns-then-numbers-gt1-2 : goal.returns-then-numbers-gt1-2
returns-then-numbers-gt1-2 c = wrong_remap c.args.numbers.now (omega arith) (omega arith) (omega arith) (omega arith)

pub returns-then-not-status_fits : goal.returns-then-not-status_fits
returns-then-not-status_fits c = wrong_status c.args.numbers.now (omega arith) (omega arith) (omega arith) (omega arith) (sym c.status_fits.ensures ∙ c.if-not-status_fits.true)

pub returns-then-numbers-eq0 : goal.returns-then-numbers-eq0
returns-then-numbers-eq0 c = with_totals c.args.numbers.now (omega arith) (omega arith) (omega arith) (omega arith) (sym c.status_fits.ensures ∙ c.if-not-status_fits.false) (omega arith)

pub returns-then-numbers-ne0-2 : goal.returns-then-numbers-ne0-2
returns-then-numbers-ne0-2 c = wrong_placements c.args.numbers.now (omega arith) (omega arith) (omega arith) (omega arith) (sym c.status_fits.ensures ∙ c.if-not-status_fits.false) (omega arith) (omega arith)

pub returns-then-numbers-ne0-3 : goal.returns-then-numbers-ne0-3
returns-then-numbers-ne0-3 c = wrong_singles c.args.numbers.now (omega arith) (omega arith) (omega arith) (omega arith) (sym c.status_fits.ensures ∙ c.if-not-status_fits.false) (omega arith) (omega arith) (omega arith)

pub returns : goal.returns
returns c = by_multi c.args.numbers.now (omega arith) (omega arith) (omega arith) (omega arith) (sym c.status_fits.ensures ∙ c.if-not-status_fits.false) (omega arith) (omega arith) (omega arith)
