-- `c_calls::finish::apply_numbers` meets its contract: 26, or the rows of the targets.
use mathlib.Core.Path.{sym, ◌∙◌}
use Rattle.c_calls.proofs.Telling.{apply_wrong, apply_told}
use Rattle.c_calls.proofs.finish.apply_numbers.Goals as goal

pub returns-then-not-is_sheet : goal.returns-then-not-is_sheet
returns-then-not-is_sheet c = apply_wrong _ _ _ c.args.sheet.now c.args.rows.now (sym c.is_sheet.ensures ∙ c.if-not-is_sheet.true)

pub sheet_of-finished-requires : goal.sheet_of-finished-requires
sheet_of-finished-requires c = sym c.is_sheet.ensures ∙ c.if-not-is_sheet.false

pub returns : goal.returns
returns c = apply_told _ _ _ c.args.sheet.now c.args.rows.now (sym c.is_sheet.ensures ∙ c.if-not-is_sheet.false) _ c.sheet_of-finished.ensures c.apply_to_unitigs.result _ c.apply_to_unitigs.ensures _ c.number_of.ensures
