-- `audit_observe_fragment::observe_ranked` meets its contract: what was observed stands, or is refused 17.
use native.Mathlib.Omega.{arith}
use Rattle.std.proofs.Common.{◌∙◌}
use Rattle.map_every_start.specs.Entries.{entry_count}
use Rattle.audit_observe_reads.proofs.Fragment.{known_within}
use Rattle.audit_observe_fragment.proofs.Observed.{ranked_postable, ranked_done, ranked_full}
use Rattle.audit_observe_fragment.proofs.observe_ranked.Goals as goal

pub overflow_mul-width : goal.overflow_mul-width
overflow_mul-width c =
    let a = c.args in
    let h = known_within a.settings.mode (entry_count a.entries.now) c.share_of-width.result c.share_of-width.ensures in
    omega arith

pub post_answer-posted-requires : goal.post_answer-posted-requires
post_answer-posted-requires c =
    let a = c.args in
    ranked_postable a.indexed a.q a.targets.bases.now a.targets.ends.now a.targets.ranked.now a.index.keys.now a.index.ranks.now a.index.positions.now a.first.now a.second.now a.searched a.settings _ c.requires a.first_role a.second_role a.entries.now _ _ c.search_reads-answer.ensures _ c.share_of-width.ensures

pub returns-then-is_none : goal.returns-then-is_none
returns-then-is_none c =
    let a = c.args in
    ranked_full a.indexed a.q a.targets.bases.now a.targets.ends.now a.targets.ranked.now a.index.keys.now a.index.ranks.now a.index.positions.now a.first.now a.second.now a.searched a.settings _ c.requires a.first_role a.second_role a.entries.now _ _ c.search_reads-answer.ensures _ c.share_of-width.ensures a.ledger _ c.post_answer-posted.ensures (c.is_none.ensures ∙ rw c.if-is_none.true) _ c.clear_entries.ensures

pub returns : goal.returns
returns c =
    let a = c.args in
    ranked_done a.indexed a.q a.targets.bases.now a.targets.ends.now a.targets.ranked.now a.index.keys.now a.index.ranks.now a.index.positions.now a.first.now a.second.now a.searched a.settings _ c.requires a.first_role a.second_role a.entries.now _ _ c.search_reads-answer.ensures _ c.share_of-width.ensures a.ledger _ c.post_answer-posted.ensures (c.is_none.ensures ∙ rw c.if-is_none.false)
