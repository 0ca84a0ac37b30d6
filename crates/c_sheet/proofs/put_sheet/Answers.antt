-- `c_sheet::put_sheet` meets its contract.
use mathlib.Core.Path.{◌≡◌}
use native.Mathlib.Omega.{arith}
use lib.ListN.{length, length-set}
use Rattle.c_sheet.proofs.Writing.{put_sheet}
use borrow.Author.Rules.{rules}
use Rattle.c_sheet.proofs.put_sheet.Goals as goal

pub bounds-numbers-at-2 : goal.bounds-numbers-at-2
bounds-numbers-at-2 c = simp length-set (search rules)

pub copy_numbers-requires : goal.copy_numbers-requires
copy_numbers-requires c = let lt : length c.args.sheet.table ≡ 18 = search rules in simp length-set (omega (arith, c.requires))

pub write_shown-requires : goal.write_shown-requires
write_shown-requires c = omega (arith, simp length-set at c.numbers-1.given)

pub shape_of-numbers : goal.shape_of-numbers
shape_of-numbers c = omega (arith, c.numbers-2-1.given, simp length-set at c.numbers-1.given)

pub returns : goal.returns
returns c = let lt : length c.args.sheet.table ≡ 18 = search rules in put_sheet c.args.sheet lt c.args.at c.args.numbers.now c.requires _ _ _ _ c.copy_numbers.ensures c.write_shown.ensures c.mode_number.ensures c.flag_number.ensures
