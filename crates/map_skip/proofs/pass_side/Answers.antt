use mathlib.Core.Path.{refl, ap}
use Prim.Native.Nat.{◌-◌}
use Rattle.index_model.specs.Index.{ranked_sequences}
use Rattle.map_skip.proofs.Skipping.{passing_next}
use Rattle.map_skip.proofs.pass_side.Goals as goal

pub loop-start-preserved : goal.loop-start-preserved
loop-start-preserved c =
    let a = c.args in
    let l = c.loop-start in
    passing_next (ranked_sequences a.targets.bases.now a.targets.ends.now a.targets.ranked.now) a.read.now a.ranks.now a.positions.now a.first a.limit l.start l.i l.count l.invariant _ c.ranked_sequence-sequence.ensures (c.is_followed.ensures c.loop-start-test.true) _ _ _ (ap (λ x. x - a.first.cursor.offset) c.posting_position.ensures) refl refl
