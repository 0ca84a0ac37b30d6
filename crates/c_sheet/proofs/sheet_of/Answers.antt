-- `c_sheet::sheet_of` meets its contract.
use mathlib.Core.Path.{refl}
use lib.ListN.{get_or}
use native.Mathlib.Omega.{arith}
use Rattle.c_sheet.proofs.Testing.{sheet_parts}
use Rattle.c_sheet.proofs.Writing.{sheet_in_lem}
use Rattle.c_sheet.proofs.sheet_of.Goals as goal

pub bounds-numbers-22 : goal.bounds-numbers-22
bounds-numbers-22 c = let s = sheet_parts c.args.numbers.now c.requires in omega arith

pub bounds-numbers-23 : goal.bounds-numbers-23
bounds-numbers-23 c = let s = sheet_parts c.args.numbers.now c.requires in omega arith

pub bounds-numbers-24 : goal.bounds-numbers-24
bounds-numbers-24 c = let s = sheet_parts c.args.numbers.now c.requires in omega arith

pub bounds-numbers-1 : goal.bounds-numbers-1
bounds-numbers-1 c = let s = sheet_parts c.args.numbers.now c.requires in omega arith

pub overflow_cast-numbers : goal.overflow_cast-numbers
overflow_cast-numbers c = let s = sheet_parts c.args.numbers.now c.requires in omega arith

pub bounds-numbers-2 : goal.bounds-numbers-2
bounds-numbers-2 c = let s = sheet_parts c.args.numbers.now c.requires in omega arith

pub eighteen-requires : goal.eighteen-requires
eighteen-requires c = let s = sheet_parts c.args.numbers.now c.requires in omega arith

pub bounds-numbers-21 : goal.bounds-numbers-21
bounds-numbers-21 c = let s = sheet_parts c.args.numbers.now c.requires in omega arith

pub returns : goal.returns
returns c = let ns = c.args.numbers.now in sheet_in_lem ns _ _ _ _ _ (get_or ns 21 0) _ _ _ c.mode_of.ensures refl c.eighteen.ensures c.shown_with.ensures c.status_of.ensures refl (omega arith) (omega arith) (omega arith)
