-- `c_state::settings_of` meets its contract.
use native.Mathlib.Omega.{arith}
use Rattle.c_state.proofs.Testing.{state_parts}
use Rattle.c_state.proofs.settings_of.Goals as goal

pub bounds-numbers-1 : goal.bounds-numbers-1
bounds-numbers-1 c = let s = state_parts c.args.numbers.now c.requires in omega arith

pub overflow_cast-numbers : goal.overflow_cast-numbers
overflow_cast-numbers c = let s = state_parts c.args.numbers.now c.requires in omega arith

pub bounds-numbers-2 : goal.bounds-numbers-2
bounds-numbers-2 c = let s = state_parts c.args.numbers.now c.requires in omega arith

pub bounds-numbers-3 : goal.bounds-numbers-3
bounds-numbers-3 c = let s = state_parts c.args.numbers.now c.requires in omega arith

pub overflow_cast-result : goal.overflow_cast-result
overflow_cast-result c = let s = state_parts c.args.numbers.now c.requires in omega arith

pub bounds-numbers-4 : goal.bounds-numbers-4
bounds-numbers-4 c = let s = state_parts c.args.numbers.now c.requires in omega arith

pub returns : goal.returns
returns c = rw c.mode_of.ensures
