-- `catch_turns::follow` meets its contract, answer by answer: no step goes further than what is at hand, and what it left is there behind it.
use mathlib.Core.Path.{refl, sym}
use Prim.Native.Nat.{◌+◌, ◌≤◌}
use native.Mathlib.Omega.{arith}
use lib.Seq.{length-take-le}
use Rattle.catch_turns.specs.Turns.{kept_back, handed_on}
use Rattle.catch_turns.proofs.Turning.{went_within, turned_on, turned_last, turned_off, turned_more}
use Rattle.catch_turns.proofs.follow.Goals as goal

pub slice_bounds-written-end : goal.slice_bounds-written-end
slice_bounds-written-end g c = sym (length-take-le _ _ c.requires.written)

pub overflow_add-next : goal.overflow_add-next
overflow_add-next g c =
    let a = c.args in
    let n = c.in-Went.n in
    let h : a.from + n ≤ a.end = went_within a.progress n a.from a.end c.in-Went.is c.requires.went in
    omega arith

pub returns-then-at-le32768 : goal.returns-then-at-le32768
returns-then-at-le32768 g c =
    let s = c in
    let a = s.args in
    turned_on a.buffer.now a.progress a.from a.end a.at a.ended s.requires.hand _ c.in-Went.is s.requires.went _ _ _ (omega arith) (kept_back refl refl refl)

pub slice_bounds-written-end-in-Went : goal.slice_bounds-written-end-in-Went
slice_bounds-written-end-in-Went g c = sym (length-take-le _ _ c.requires.written)

pub slice_bounds-written-end-in-More : goal.slice_bounds-written-end-in-More
slice_bounds-written-end-in-More g c = sym (length-take-le _ _ c.requires.written)

pub returns-then-not-written : goal.returns-then-not-written
returns-then-not-written g c =
    let s = c in
    let a = s.args in
    turned_off a.buffer.now a.progress a.from a.end a.at a.ended s.requires.hand c.in-More.is

pub refill-filled-requires : goal.refill-filled-requires
refill-filled-requires g c = (c.requires.hand, c.requires.room c.in-More.is)

pub returns-in-Ended : goal.returns-in-Ended
returns-in-Ended g c =
    let s = c in
    let a = s.args in
    turned_last a.buffer.now a.progress a.from a.end a.at a.ended s.requires.hand c.in-Ended.is

pub returns-else-at-le32768 : goal.returns-else-at-le32768
returns-else-at-le32768 g c =
    let s = c in
    let a = s.args in
    turned_on a.buffer.now a.progress a.from a.end a.at a.ended s.requires.hand _ c.in-Went.is s.requires.went _ _ _ (omega arith) (handed_on refl refl)

pub returns-else-not-written : goal.returns-else-not-written
returns-else-not-written g c =
    let s = c in
    let a = s.args in
    turned_more a.buffer.now a.progress a.from a.end a.at a.ended s.requires.hand c.in-More.is _ _ _ (omega (arith, c.refill-filled.auto)) c.refill-filled.ensures
