-- `c_state::put_state` meets its contract.
use mathlib.Core.Path.{◌≡◌}
use native.Mathlib.Omega.{arith}
use lib.ListN.{length, length-set}
use Rattle.c_state.proofs.Writing.{put_state}
use borrow.Author.Rules.{rules}
use Rattle.c_state.proofs.put_state.Goals as goal

pub bounds-numbers-4 : goal.bounds-numbers-4
bounds-numbers-4 c = simp length-set (omega arith)

pub put_last-requires : goal.put_last-requires
put_last-requires c = simp length-set (omega arith)

pub put_ledger-requires : goal.put_ledger-requires
put_ledger-requires c = omega (arith, simp length-set at c.numbers-1.given)

pub shape_of-numbers : goal.shape_of-numbers
shape_of-numbers c = omega (arith, c.numbers-2-1.given, simp length-set at c.numbers-1.given)

pub returns : goal.returns
returns c = let lt : length c.args.state.ledger.table ≡ 18 = search rules in let lr : length c.args.state.ledger.reads ≡ 3 = search rules in put_state c.args.state lt lr c.args.numbers.now c.requires _ _ _ _ _ _ _ c.put_last.ensures c.put_ledger.ensures (omega arith) c.mode_number.ensures c.flag_number.ensures (omega arith) (omega arith)
