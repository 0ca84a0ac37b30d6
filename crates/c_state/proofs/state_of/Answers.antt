-- `c_state::state_of` meets its contract.
use native.Mathlib.Omega.{arith}
use Rattle.c_state.proofs.Testing.{state_parts}
use Rattle.c_state.proofs.state_of.Goals as goal

pub bounds-numbers-5 : goal.bounds-numbers-5
bounds-numbers-5 c = let s = state_parts c.args.numbers.now c.requires in omega arith

pub bounds-numbers-6 : goal.bounds-numbers-6
bounds-numbers-6 c = let s = state_parts c.args.numbers.now c.requires in omega arith

pub returns : goal.returns
returns c = rw (c.settings_of.ensures, c.last_of.ensures, c.ledger_of.ensures)
