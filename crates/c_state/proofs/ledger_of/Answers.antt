-- `c_state::ledger_of` meets its contract.
use mathlib.Core.Path.{refl}
use native.Mathlib.Omega.{arith}
use Rattle.c_state.proofs.Testing.{state_parts}
use Rattle.c_state.proofs.Writing.{ledger_in}
use Rattle.c_state.proofs.ledger_of.Goals as goal

pub eighteen-requires : goal.eighteen-requires
eighteen-requires c = let s = state_parts c.args.numbers.now c.requires in omega arith

pub bounds-numbers-25 : goal.bounds-numbers-25
bounds-numbers-25 c = let s = state_parts c.args.numbers.now c.requires in omega arith

pub bounds-numbers-26 : goal.bounds-numbers-26
bounds-numbers-26 c = let s = state_parts c.args.numbers.now c.requires in omega arith

pub bounds-numbers-27 : goal.bounds-numbers-27
bounds-numbers-27 c = let s = state_parts c.args.numbers.now c.requires in omega arith

pub bounds-numbers-28 : goal.bounds-numbers-28
bounds-numbers-28 c = let s = state_parts c.args.numbers.now c.requires in omega arith

pub bounds-numbers-29 : goal.bounds-numbers-29
bounds-numbers-29 c = let s = state_parts c.args.numbers.now c.requires in omega arith

pub bounds-numbers-30 : goal.bounds-numbers-30
bounds-numbers-30 c = let s = state_parts c.args.numbers.now c.requires in omega arith

pub bounds-numbers-31 : goal.bounds-numbers-31
bounds-numbers-31 c = let s = state_parts c.args.numbers.now c.requires in omega arith

pub returns : goal.returns
returns c = ledger_in c.args.numbers.now (state_parts c.args.numbers.now c.requires).sized _ _ _ _ _ _ _ _ c.eighteen.ensures (omega arith) (omega arith) (omega arith) (omega arith) (omega arith) (omega arith) refl
