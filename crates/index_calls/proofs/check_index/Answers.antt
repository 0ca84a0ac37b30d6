-- `index_calls::check_index` meets its contract: the ranking's refusal, or the test of the ranked sequences.
use Rattle.std.proofs.lemmas.Result.{err_from_is_err_and}
use native.Mathlib.Omega.{arith}
use mathlib.Core.Path.{sym, ◌∙◌}
use mathlib.Core.Bool.{true, false}
use Rattle.index_plan.proofs.Planning.{within_buffer, lent, seed_length, test_refused, test_done}
use Rattle.index_calls.proofs.check_index.Goals as goal

pub slice_bounds-ranked-end : goal.slice_bounds-ranked-end
slice_bounds-ranked-end c =
    let r = c.rank_checked in
    within_buffer _ _ _ _ r.ensures _ c.in_ok-k.was

pub is_index-requires : goal.is_index-requires
is_index-requires c =
    let r = c.rank_checked in
    (lent _ _ _ _ r.ensures _ c.in_ok-k.was (omega (arith, r.auto.ranked)), seed_length _ _ _ _ r.ensures _ c.in_ok-k.was)

pub returns : goal.returns
returns c =
    let r = c.rank_checked in
    test_done _ _ _ _ r.ensures _ c.in_ok-k.was _ _ _ true (sym c.is_index.ensures ∙ c.if-not-is_index.false)

pub returns-then-not-is_index : goal.returns-then-not-is_index
returns-then-not-is_index c =
    let r = c.rank_checked in
    test_done _ _ _ _ r.ensures _ c.in_ok-k.was _ _ _ false (sym c.is_index.ensures ∙ c.if-not-is_index.true)

pub returns-in_err-k : goal.returns-in_err-k
returns-in_err-k c = let p = err_from_is_err_and c.from_residual.result c.from_residual.ensures.1 in rw (p.1, p.2) (test_refused _ _ _ _ c.rank_checked.ensures _ c.in_err-k.was _ _ _)
