-- `index_plan::rank_checked` meets its contract: the test of the seed length, and then the ranking.
use mathlib.Core.Path.{sym, ◌∙◌}
use Rattle.index_plan.proofs.Planning.{seed_wrong, seed_fits}
use Rattle.index_plan.proofs.rank_checked.Goals as goal

pub returns-then-not-seed_length_right : goal.returns-then-not-seed_length_right
returns-then-not-seed_length_right c = seed_wrong _ _ (sym c.seed_length_right.ensures ∙ c.if-not-seed_length_right.true) _

pub returns : goal.returns
returns c =
    seed_fits _ _ (sym c.seed_length_right.ensures ∙ c.if-not-seed_length_right.false) _ _ c.rank_targets.ensures
