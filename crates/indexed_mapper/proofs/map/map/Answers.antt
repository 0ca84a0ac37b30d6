-- `indexed_mapper::map::map` meets its contract: the ranking's refusal, or the answer for the ranked sequences.
use Rattle.std.proofs.lemmas.Result.{err_from_is_err_and}
use native.Mathlib.Omega.{arith}
use Rattle.index_plan.proofs.Planning.{within_buffer, lent, seed_length}
use Rattle.indexed_mapper.proofs.Mapping.{map_refused, map-done}
use Rattle.indexed_mapper.proofs.map.map.Goals as goal

pub slice_bounds-places-end : goal.slice_bounds-places-end
slice_bounds-places-end c = within_buffer _ _ _ _ c.rank_checked.ensures _ c.in_ok-k.was

pub map_ranked-requires : goal.map_ranked-requires
map_ranked-requires c =
    let r = c.rank_checked in
    (lent _ _ _ _ r.ensures _ c.in_ok-k.was (omega (arith, r.auto.ranked)), seed_length _ _ _ _ r.ensures _ c.in_ok-k.was)

pub returns-in_err-k : goal.returns-in_err-k
returns-in_err-k c = let p = err_from_is_err_and c.from_residual.result c.from_residual.ensures.1 in rw (p.1, p.2) (map_refused _ _ _ _ c.rank_checked.ensures _ _ _ _ _ _ _ c.in_err-k.was)

pub returns : goal.returns
returns c =
    let a = c.args in
    map-done _ _ _ _ c.rank_checked.ensures a.index.keys.now a.index.ranks.now a.index.positions.now a.read.now a.limit a.entries.now _ c.in_ok-k.was _ _ c.map_ranked.ensures
