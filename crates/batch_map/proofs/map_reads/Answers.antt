-- `batch_map::map_reads` meets its contract: the ranking's refusal, or the answer for the ranked sequences.
use Rattle.std.proofs.lemmas.Result.{err_from_is_err_and}
use native.Mathlib.Omega.{arith}
use Rattle.index_plan.proofs.Planning.{within_buffer, lent, seed_length}
use Rattle.batch_map.proofs.Listing.{reads_refused, reads_done}
use Rattle.batch_map.proofs.map_reads.Goals as goal

pub slice_bounds-places-end : goal.slice_bounds-places-end
slice_bounds-places-end c = within_buffer _ _ _ _ c.rank_checked.ensures _ c.in_ok-k.was

pub map_ranked_reads-requires : goal.map_ranked_reads-requires
map_ranked_reads-requires c =
    let r = c.rank_checked in
    (lent _ _ _ _ r.ensures _ c.in_ok-k.was (omega (arith, r.auto.ranked)), seed_length _ _ _ _ r.ensures _ c.in_ok-k.was)

pub returns-in_err-k : goal.returns-in_err-k
returns-in_err-k c = let p = err_from_is_err_and c.from_residual.result c.from_residual.ensures.1 in rw (p.1, p.2) (reads_refused _ _ _ _ c.rank_checked.ensures _ _ _ _ _ _ _ _ _ c.in_err-k.was)

pub returns : goal.returns
returns c = reads_done _ _ _ _ c.rank_checked.ensures _ _ _ _ _ _ _ _ _ c.in_ok-k.was _ _ _ c.map_ranked_reads.ensures
