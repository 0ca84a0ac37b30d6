-- `audit_tested::audit_tested` meets its contract: what was observed stands, and is booked where it is not refused.
use mathlib.Core.Path.{refl, sym}
use mathlib.Core.List.{[]}
use native.Mathlib.Omega.{arith}
use lib.ListN.{get_or, length-map}
use Rattle.lists.specs.Cut.{cut}
use Rattle.index_model.specs.Index.{ranked_sequences}
use Rattle.map_every_start.specs.Entries.{entry_count}
use Rattle.audit_model.specs.Calls.{held_of, mate_of}
use Rattle.audit_observe_read.specs.Observed.{way_if}
use Rattle.audit_observe_reads.proofs.Fragment.{known_within}
use Rattle.audit_tested.proofs.Booked.{raisable, audit_booked, audit_refused}
use Rattle.audit_tested.proofs.audit_tested.Goals as goal

pub overflow_mul-width : goal.overflow_mul-width
overflow_mul-width c =
    let a = c.args in
    let h = known_within a.state.settings.mode (entry_count a.entries.now) c.share_of-width.result c.share_of-width.ensures in
    omega arith

pub book_answer-booked-requires : goal.book_answer-booked-requires
book_answer-booked-requires c =
    let a = c.args in
    raisable a.offset (ranked_sequences a.targets.bases.now a.targets.ends.now a.targets.ranked.now) (way_if a.indexed a.q) a.targets.ranked.now (held_of a.state a.placements.now a.singles.now a.multi.now) a.ordinal a.count (mate_of a.first_role a.first.now a.first_present a.first_qualities.now) (mate_of a.second_role a.second.now a.second_present a.second_qualities.now) a.entries.now _ _ c.observe_tested-answer.ensures _ c.in-Ok.is c.requires.limit c.requires.counters c.requires.places (sym (length-map a.targets.ranked.now (λ p. get_or (cut a.targets.ends.now a.targets.bases.now) p []))) _ c.share_of-width.ensures

pub returns-in-Ok : goal.returns-in-Ok
returns-in-Ok c =
    let a = c.args in
    audit_booked a.offset (ranked_sequences a.targets.bases.now a.targets.ends.now a.targets.ranked.now) (way_if a.indexed a.q) a.targets.ranked.now (held_of a.state a.placements.now a.singles.now a.multi.now) a.ordinal a.count (mate_of a.first_role a.first.now a.first_present a.first_qualities.now) (mate_of a.second_role a.second.now a.second_present a.second_qualities.now) a.entries.now _ _ c.observe_tested-answer.ensures _ c.in-Ok.is c.requires.limit c.requires.counters c.requires.places (sym (length-map a.targets.ranked.now (λ p. get_or (cut a.targets.ends.now a.targets.bases.now) p []))) _ c.share_of-width.ensures _ _ c.book_answer-booked.ensures

pub returns-in-Err : goal.returns-in-Err
returns-in-Err c =
    let a = c.args in
    audit_refused a.offset (ranked_sequences a.targets.bases.now a.targets.ends.now a.targets.ranked.now) (way_if a.indexed a.q) a.targets.ranked.now (held_of a.state a.placements.now a.singles.now a.multi.now) a.ordinal a.count (mate_of a.first_role a.first.now a.first_present a.first_qualities.now) (mate_of a.second_role a.second.now a.second_present a.second_qualities.now) a.entries.now _ _ c.observe_tested-answer.ensures _ c.in-Err.is _ refl
