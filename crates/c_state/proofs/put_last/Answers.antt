-- `c_state::put_last` meets its contract.
use native.Mathlib.Omega.{arith}
use lib.ListN.{length-set}
use Rattle.c_state.proofs.Writing.{put_absent, put_accepted}
use Rattle.c_state.proofs.put_last.Goals as goal

pub bounds-numbers-at-in-None : goal.bounds-numbers-at-in-None
bounds-numbers-at-in-None c = omega (arith, length-set c.args.numbers.now c.args.at 0)

pub bounds-numbers-at-in-Some-2 : goal.bounds-numbers-at-in-Some-2
bounds-numbers-at-in-Some-2 c = omega (arith, length-set c.args.numbers.now c.args.at 1)

pub returns-in-None : goal.returns-in-None
returns-in-None c = put_absent c.args.at c.args.numbers.now c.requires c.args.last _ _ c.in-None.is (omega arith) (omega arith)

pub returns-in-Some : goal.returns-in-Some
returns-in-Some c = put_accepted c.args.at c.args.numbers.now c.requires c.args.last _ _ _ c.in-Some.is (omega arith) (omega arith)
