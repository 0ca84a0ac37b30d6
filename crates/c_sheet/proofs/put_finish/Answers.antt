-- `c_sheet::put_finish` meets its contract: the refusal and zeros, or zero and the sheet.
use mathlib.Core.Path.{◌≡◌}
use native.Mathlib.Omega.{arith}
use lib.ListN.{length, length-set}
use Rattle.c_sheet.proofs.Writing.{put_refused, put_accepted, length_sheet}
use borrow.Author.Rules.{rules}
use Rattle.c_sheet.proofs.put_finish.Goals as goal

pub shape_of-answer-in-Err : goal.shape_of-answer-in-Err
shape_of-answer-in-Err g c = omega (arith, simp length-set at c.answer-1.given)

pub returns-in-Err : goal.returns-in-Err
returns-in-Err g c = put_refused _ c.args.finished c.args.sheet c.args.answer.now c.requires _ _ _ _ c.in-Err.is (omega arith) (omega arith) c.copy_numbers.ensures

pub shape_of-answer-in-Ok : goal.shape_of-answer-in-Ok
shape_of-answer-in-Ok g c = omega (arith, simp length-set at c.answer-in-Ok-1.given)

pub returns-in-Ok : goal.returns-in-Ok
returns-in-Ok g c = let lt : length c.args.sheet.table ≡ 18 = search rules in put_accepted _ c.args.finished c.args.sheet c.args.answer.now c.requires _ _ _ (length_sheet c.args.sheet lt) c.in-Ok.is (omega arith) (omega arith) c.put_sheet.ensures
