-- `catch_turns::refill` meets its contract: what is read is put behind the bytes that are kept.
use Prim.Native.Nat.{◌+◌, ◌-◌}
use native.Mathlib.Omega.{arith}
use borrow.Author.Rules.{rules}
use Rattle.catch_turns.proofs.Shifting.{kept-behind, none_more}
use Rattle.catch_turns.proofs.refill.Goals as goal

pub returns : goal.returns
returns g c =
    let a = c.args in
    let s = c.shift-kept in
    record {
      kept = kept-behind a.buffer.now a.from _ _ _ (s.result + c.least.result - s.result) c.read.new.buf s.ensures.0 s.ensures.1 (omega arith);
      asked = omega arith;
      more = omega arith;
      fits = search rules;
      ended = none_more _ _ _ s.ensures.0;
    }
