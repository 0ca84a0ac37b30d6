-- `map_skip::pass` meets its contract: the side of the smaller candidate goes along, up to the candidate of the other one.
use mathlib.Core.Path.{ap, ◌∙◌}
use mathlib.Core.Bool.{not, cond}
use Rattle.index_model.specs.Index.{ranked_sequences}
use Rattle.map_skip.proofs.Siding.{passed_plus, passed_minus}
use Rattle.map_skip.proofs.pass.Goals as goal

pub returns-then-plus : goal.returns-then-plus
returns-then-plus c =
    let a = c.args in
    let ss = ranked_sequences a.targets.bases.now a.targets.ends.now a.targets.ranked.now in
    passed_plus _ _ _ c.limit_before-limit.ensures ss a.read.now a.ranks.now a.positions.now a.sides c.pass_side-passed.result.count _ c.pass_side-passed.result.candidate c.pass_side-passed.ensures
    (c.side-first.ensures ∙ ap (λ b. cond b a.sides.plus a.sides.minus) c.if-plus.true)
    (c.side-other.ensures ∙ ap (λ b. cond (not b) a.sides.plus a.sides.minus) c.if-plus.true)

pub returns : goal.returns
returns c =
    let a = c.args in
    let ss = ranked_sequences a.targets.bases.now a.targets.ends.now a.targets.ranked.now in
    passed_minus _ _ _ c.limit_before-limit.ensures ss a.read.now a.ranks.now a.positions.now a.sides c.pass_side-passed.result.count _ c.pass_side-passed.result.candidate c.pass_side-passed.ensures
    (c.side-other.ensures ∙ ap (λ b. cond (not b) a.sides.plus a.sides.minus) c.if-plus.false)
    (c.side-first.ensures ∙ ap (λ b. cond b a.sides.plus a.sides.minus) c.if-plus.false)
