-- `index_plan::plan` meets its contract: the ranking's refusal, or the two counts.
use native.Mathlib.Omega.{arith}
use Rattle.index_plan.proofs.Planning.{within_buffer, lent, seed_length, plan_done}
use Rattle.index_plan.proofs.plan.Goals as goal

pub slice_bounds-places-end : goal.slice_bounds-places-end
slice_bounds-places-end c = within_buffer _ _ _ _ c.rank_checked.ensures _ c.in_ok-k.was

pub count_postings-requires : goal.count_postings-requires
count_postings-requires c =
    let r = c.rank_checked in
    (lent _ _ _ _ r.ensures _ c.in_ok-k.was (omega (arith, r.auto.ranked)), seed_length _ _ _ _ r.ensures _ c.in_ok-k.was)

pub returns : goal.returns
returns c = plan_done _ _ _ _ c.rank_checked.ensures _ c.in_ok-k.was _ c.count_postings.ensures
