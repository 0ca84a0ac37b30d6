use native.Mathlib.Omega.{arith}
use Rattle.catalogue.specs.Ranking.{linear_at}
use Rattle.catalogue.proofs.Filtering.{filtering_next, element_below}
use Rattle.catalogue.proofs.ranks.keep_linear.Goals as goal

pub bounds-marks-place : goal.bounds-marks-place
bounds-marks-place c =
    let a = c.args in
    element_below (linear_at a.marks.now) a.order.now c.loop-i.order _ _ c.loop-i.invariant _ c.requires (omega arith)

pub loop-i-preserved : goal.loop-i-preserved
loop-i-preserved c =
    let a = c.args in
    filtering_next (linear_at a.marks.now) a.order.now c.loop-i.order _ _ c.loop-i.invariant (omega arith) c.keep_place-kept.ensures
