use mathlib.Core.Path.{refl, sym, ◌∙◌}
use native.Mathlib.Omega.{arith}
use Rattle.index_model.specs.Index.{ranked_sequences}
use Rattle.map_by_index.proofs.Merging.{both_start, both_fits, both_going, both_more, both_fewer, both_counted, both_passed, both_few}
use Rattle.map_by_index.proofs.Finding.{found_all, found_stopped}
use Rattle.map_by_index.proofs.Readying.{ready_cursor, ready_chosen, ready_spans, ready_cursors}
use Rattle.map_by_index.proofs.by_index.search_index.Goals as goal

pub first_candidates-sides-requires : goal.first_candidates-sides-requires
first_candidates-sides-requires c =
    let f = c.cursor_over-forward.ensures in
    let g = c.cursor_over-backward.ensures in
    let p = c.rarest_seed-plus.ensures in
    let m = c.rarest_seed-minus.ensures in
    (c.requires.index_searchable.searchable.lent, record { plus_in = ready_cursor _ _ _ _ _ _ _ _ c.requires.index_searchable c.requires.q_in_bounds.0 _ _ (omega (arith, f.next_is, f.end_is, p.range_is.ordered)) (omega (arith, f.end_is, p.range_is.inside)); minus_in = ready_cursor _ _ _ _ _ _ _ _ c.requires.index_searchable c.requires.q_in_bounds.0 _ _ (omega (arith, g.next_is, g.end_is, m.range_is.ordered)) (omega (arith, g.end_is, m.range_is.inside)) })

pub loop-plus_first-init : goal.loop-plus_first-init
loop-plus_first-init c =
    let a = c.args in
    let p = c.rarest_seed-plus.ensures in
    let m = c.rarest_seed-minus.ensures in
    let ss = ranked_sequences a.targets.bases.now a.targets.ends.now a.targets.ranked.now in
    let ch = ready_chosen _ _ _ _ _ _ _ _ c.requires.index_searchable c.requires.q_in_bounds.0 _ _ p m _ _ c.requires.q_in_bounds.1 in
    let f = c.cursor_over-forward.ensures in
    let g = c.cursor_over-backward.ensures in
    both_start _ ss a.targets.ranked.now _ _ _ _ _ _ _ _ ch _ _ _ f g c.first_candidates-sides.ensures

pub visit-tally-requires-clause-fits_at : goal.visit-tally-requires-clause-fits_at
visit-tally-requires-clause-fits_at c =
    let a = c.args in
    let p = c.rarest_seed-plus.ensures in
    let m = c.rarest_seed-minus.ensures in
    let ss = ranked_sequences a.targets.bases.now a.targets.ends.now a.targets.ranked.now in
    let ch = ready_chosen _ _ _ _ _ _ _ _ c.requires.index_searchable c.requires.q_in_bounds.0 _ _ p m _ _ c.requires.q_in_bounds.1 in
    let at = c.loop-plus_first.invariant in
    let first = c.plus_first-plus_first.ensures in
    let waits = sym c.waits.ensures ∙ c.loop-plus_first-test.true in
    let next = c.side-next.ensures in
    (both_fits _ ss a.targets.ranked.now _ _ _ _ _ _ _ _ ch _ _ _ _ at _ first waits _ next, both_going _ ss a.targets.ranked.now _ _ _ _ _ _ _ _ ch _ _ _ _ at _ first waits _ next)

pub index_work-requires : goal.index_work-requires
index_work-requires c =
    let a = c.args in
    let p = c.rarest_seed-plus.ensures in
    let m = c.rarest_seed-minus.ensures in
    ready_spans _ _ _ _ _ _ _ _ c.requires.index_searchable c.requires.q_in_bounds.0 _ _ p m a.bound a.entries.now _ _ _ _ c.loop-plus_first.invariant

pub returns-then-bound-tally : goal.returns-then-bound-tally
returns-then-bound-tally c =
    let a = c.args in
    let p = c.rarest_seed-plus.ensures in
    let m = c.rarest_seed-minus.ensures in
    let ss = ranked_sequences a.targets.bases.now a.targets.ends.now a.targets.ranked.now in
    let ch = ready_chosen _ _ _ _ _ _ _ _ c.requires.index_searchable c.requires.q_in_bounds.0 _ _ p m _ _ c.requires.q_in_bounds.1 in
    let at = c.loop-plus_first.invariant in
    let first = c.plus_first-plus_first.ensures in
    let waits = sym c.waits.ensures ∙ c.loop-plus_first-test.true in
    let next = c.side-next.ensures in
    found_stopped _ ss a.targets.ranked.now _ _ _ _ _ _ _ _ ch _ _ _ _ at _ first waits _ next _ _ _ c.visit-tally.ensures (omega (arith, c.if-bound-tally.true)) _ c.index_work.ensures

pub moved-sides-requires : goal.moved-sides-requires
moved-sides-requires c =
    let a = c.args in
    let p = c.rarest_seed-plus.ensures in
    let m = c.rarest_seed-minus.ensures in
    (c.requires.index_searchable.searchable.lent, ready_cursors _ _ _ _ _ _ _ _ c.requires.index_searchable c.requires.q_in_bounds.0 _ _ p m a.bound a.entries.now _ _ _ _ c.loop-plus_first.invariant)

pub pass-passed-requires-clause-sides_lent : goal.pass-passed-requires-clause-sides_lent
pass-passed-requires-clause-sides_lent c =
    let a = c.args in
    let p = c.rarest_seed-plus.ensures in
    let m = c.rarest_seed-minus.ensures in
    let ss = ranked_sequences a.targets.bases.now a.targets.ends.now a.targets.ranked.now in
    let ch = ready_chosen _ _ _ _ _ _ _ _ c.requires.index_searchable c.requires.q_in_bounds.0 _ _ p m _ _ c.requires.q_in_bounds.1 in
    let at = c.loop-plus_first.invariant in
    let first = c.plus_first-plus_first.ensures in
    let waits = sym c.waits.ensures ∙ c.loop-plus_first-test.true in
    let next = c.side-next.ensures in
    let on = both_more _ ss a.targets.ranked.now _ _ _ _ _ _ _ _ ch _ _ _ _ at _ first waits _ next _ _ _ c.visit-tally.ensures (omega (arith, c.if-bound-tally.false)) _ c.moved-sides.ensures in
    record {
      inside = both_fits _ ss a.targets.ranked.now _ _ _ _ _ _ _ _ ch _ _ _ _ at _ first waits _ next;
      first_inside = λ w. both_fits _ ss a.targets.ranked.now _ _ _ _ _ _ _ _ ch _ _ _ _ on _ refl w _ refl;
      cursors_in = ready_cursors _ _ _ _ _ _ _ _ c.requires.index_searchable c.requires.q_in_bounds.0 _ _ p m a.bound a.entries.now _ _ _ _ on;
    }

pub counted-tally-requires : goal.counted-tally-requires
counted-tally-requires c =
    let a = c.args in
    let p = c.rarest_seed-plus.ensures in
    let m = c.rarest_seed-minus.ensures in
    let ss = ranked_sequences a.targets.bases.now a.targets.ends.now a.targets.ranked.now in
    let ch = ready_chosen _ _ _ _ _ _ _ _ c.requires.index_searchable c.requires.q_in_bounds.0 _ _ p m _ _ c.requires.q_in_bounds.1 in
    let at = c.loop-plus_first.invariant in
    let first = c.plus_first-plus_first.ensures in
    let waits = sym c.waits.ensures ∙ c.loop-plus_first-test.true in
    let next = c.side-next.ensures in
    let on = both_more _ ss a.targets.ranked.now _ _ _ _ _ _ _ _ ch _ _ _ _ at _ first waits _ next _ _ _ c.visit-tally.ensures (omega (arith, c.if-bound-tally.false)) _ c.moved-sides.ensures in
    omega (arith, both_few _ ss a.targets.ranked.now _ _ _ _ _ _ _ _ ch _ _ _ _ (both_passed _ ss a.targets.ranked.now _ _ _ _ _ _ _ _ ch c.pass-passed.result.count _ _ _ _ _ on c.pass-passed.ensures))

pub loop-plus_first-smaller : goal.loop-plus_first-smaller
loop-plus_first-smaller c =
    let a = c.args in
    let p = c.rarest_seed-plus.ensures in
    let m = c.rarest_seed-minus.ensures in
    let ss = ranked_sequences a.targets.bases.now a.targets.ends.now a.targets.ranked.now in
    let ch = ready_chosen _ _ _ _ _ _ _ _ c.requires.index_searchable c.requires.q_in_bounds.0 _ _ p m _ _ c.requires.q_in_bounds.1 in
    let at = c.loop-plus_first.invariant in
    let first = c.plus_first-plus_first.ensures in
    let waits = sym c.waits.ensures ∙ c.loop-plus_first-test.true in
    let next = c.side-next.ensures in
    let t = c.visit-tally.ensures in
    omega (arith, both_fewer _ ss a.targets.ranked.now _ _ _ _ _ _ _ _ ch _ _ _ _ at _ first waits _ next, both_counted _ ss a.targets.ranked.now _ _ _ _ _ _ _ _ ch _ _ _ _ at _ first waits _ next _ _ _ t, c.counted-tally.ensures)

pub loop-plus_first-preserved : goal.loop-plus_first-preserved
loop-plus_first-preserved c =
    let a = c.args in
    let p = c.rarest_seed-plus.ensures in
    let m = c.rarest_seed-minus.ensures in
    let ss = ranked_sequences a.targets.bases.now a.targets.ends.now a.targets.ranked.now in
    let ch = ready_chosen _ _ _ _ _ _ _ _ c.requires.index_searchable c.requires.q_in_bounds.0 _ _ p m _ _ c.requires.q_in_bounds.1 in
    let at = c.loop-plus_first.invariant in
    let first = c.plus_first-plus_first.ensures in
    let waits = sym c.waits.ensures ∙ c.loop-plus_first-test.true in
    let next = c.side-next.ensures in
    let on = both_more _ ss a.targets.ranked.now _ _ _ _ _ _ _ _ ch _ _ _ _ at _ first waits _ next _ _ _ c.visit-tally.ensures (omega (arith, c.if-bound-tally.false)) _ c.moved-sides.ensures in
    rw (c.counted-tally.ensures.0, c.counted-tally.ensures.1)
    (both_passed _ ss a.targets.ranked.now _ _ _ _ _ _ _ _ ch c.pass-passed.result.count _ _ _ _ _ on c.pass-passed.ensures)

pub index_work-requires-2 : goal.index_work-requires-2
index_work-requires-2 c =
    let a = c.args in
    let p = c.rarest_seed-plus.ensures in
    let m = c.rarest_seed-minus.ensures in
    ready_spans _ _ _ _ _ _ _ _ c.requires.index_searchable c.requires.q_in_bounds.0 _ _ p m a.bound a.entries.now _ _ _ _ c.loop-plus_first.invariant

pub returns : goal.returns
returns c =
    let a = c.args in
    let p = c.rarest_seed-plus.ensures in
    let m = c.rarest_seed-minus.ensures in
    let ss = ranked_sequences a.targets.bases.now a.targets.ends.now a.targets.ranked.now in
    let ch = ready_chosen _ _ _ _ _ _ _ _ c.requires.index_searchable c.requires.q_in_bounds.0 _ _ p m _ _ c.requires.q_in_bounds.1 in
    found_all _ ss a.targets.ranked.now _ _ _ _ _ _ _ _ ch _ _ _ _ c.loop-plus_first.invariant _ c.index_work-2.ensures (sym c.waits.ensures ∙ c.loop-plus_first-test.false)
