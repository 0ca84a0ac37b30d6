-- `c_state::put_ledger` meets its contract.
use Rattle.c_state.proofs.Writing.{put_ledger}
use native.Mathlib.Omega.{arith}
use lib.ListN.{length, length-set}
use mathlib.Core.Path.{◌≡◌}
use borrow.Author.Rules.{rules}
use Rattle.c_state.proofs.put_ledger.Goals as goal

pub copy_numbers-requires : goal.copy_numbers-requires
copy_numbers-requires c = let lt : length c.args.ledger.table ≡ 18 = search rules in omega (arith, c.requires)

pub copy_numbers-requires-2 : goal.copy_numbers-requires-2
copy_numbers-requires-2 c = let lr : length c.args.ledger.reads ≡ 3 = search rules in omega (arith, c.requires)

pub bounds-numbers-at-2 : goal.bounds-numbers-at-2
bounds-numbers-at-2 c = simp length-set (search rules)

pub bounds-numbers-at-3 : goal.bounds-numbers-at-3
bounds-numbers-at-3 c = simp length-set (search rules)

pub bounds-numbers-at-4 : goal.bounds-numbers-at-4
bounds-numbers-at-4 c = simp length-set (search rules)

pub shape_of-numbers : goal.shape_of-numbers
shape_of-numbers c = simp length-set (search rules)

pub returns : goal.returns
returns c = let lt : length c.args.ledger.table ≡ 18 = search rules in let lr : length c.args.ledger.reads ≡ 3 = search rules in put_ledger c.args.ledger lt lr c.args.at c.args.numbers.now c.requires _ _ c.copy_numbers.ensures c.copy_numbers-2.ensures _ _ _ _ (omega arith) (omega arith) (omega arith) c.flag_number.ensures
