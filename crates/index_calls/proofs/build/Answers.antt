-- `index_calls::build` meets its contract: the ranking's refusal, or the build of the ranked sequences.
use Rattle.std.proofs.lemmas.Result.{err_from_is_err_and}
use native.Mathlib.Omega.{arith}
use Rattle.index_plan.proofs.Planning.{within_buffer, lent, seed_length}
use Rattle.index_calls.proofs.Building.{build_refused, build_done}
use Rattle.index_calls.proofs.build.Goals as goal

pub slice_bounds-places-end : goal.slice_bounds-places-end
slice_bounds-places-end c =
    let r = c.rank_checked in
    within_buffer _ _ _ _ r.ensures _ c.in_ok-k.was

pub build_ranked-requires : goal.build_ranked-requires
build_ranked-requires c =
    let r = c.rank_checked in
    (lent _ _ _ _ r.ensures _ c.in_ok-k.was (omega (arith, r.auto.ranked)), seed_length _ _ _ _ r.ensures _ c.in_ok-k.was)

pub returns : goal.returns
returns c =
    let r = c.rank_checked in
    let s = c.build_ranked in
    build_done _ _ _ _ r.ensures _ c.in_ok-k.was _ _ _ _ _ _ _ s.ensures

pub returns-in_err-k : goal.returns-in_err-k
returns-in_err-k c = let p = err_from_is_err_and c.from_residual.result c.from_residual.ensures.1 in rw (p.1, p.2) (build_refused _ _ _ _ c.rank_checked.ensures _ c.in_err-k.was _ _ _)
