-- `catch_step::advance` meets its contract, stage by stage.
use mathlib.Core.Path.{sym}
use mathlib.Core.List.{[]}
use native.Mathlib.Omega.{arith}
use lib.Seq.{length-take-le}
use Rattle.catch_state.specs.Jobs.{buffers_of}
use Rattle.catch_state.proofs.Jobs.{nothing_there, first_step, supply_step, open_room, opening_step, lends, ranks_within, postings_within, run_step}
use Rattle.catch_step.proofs.advance.Goals as goal

pub returns-then-bytes-eq0 : goal.returns-then-bytes-eq0
returns-then-bytes-eq0 c =
    let a = c.args in
    let kept = c.requires.0 in
    nothing_there a.job (buffers_of a.identifiers.now a.identifier_ends.now a.bases.now a.base_ends.now a.marks.now a.ranked.now a.keys.now a.ranks.now a.positions.now a.placements.now a.singles.now a.multi.now) kept a.ended a.out.now a.at _ a.bytes.now (omega (arith, c.if-bytes-eq0.true)) _ c.wait_or_refuse.ensures

pub returns-then-code-eq2 : goal.returns-then-code-eq2
returns-then-code-eq2 c =
    let a = c.args in
    let kept = c.requires.0 in
    supply_step a.job (buffers_of a.identifiers.now a.identifier_ends.now a.bases.now a.base_ends.now a.marks.now a.ranked.now a.keys.now a.ranks.now a.positions.now a.placements.now a.singles.now a.multi.now) kept a.ended a.out.now a.at _ c.in-Supplying.is a.bytes.now (omega (arith, c.if-bytes-eq0.false)) (omega (arith, c.if-code-eq2.true)) _ _ _ _ _ _ c.supply-supplied.ensures.supply_kept c.supply-supplied.ensures.supply_told

pub slice_bounds-open-end-in-Supplying : goal.slice_bounds-open-end-in-Supplying
slice_bounds-open-end-in-Supplying c =
    let a = c.args in
    let kept = c.requires.0 in
    sym (length-take-le a.job.supply.targets a.placements.now (omega (arith, kept.supply.targets, kept.placements)))

pub slice_bounds-open-end-in-Supplying-3 : goal.slice_bounds-open-end-in-Supplying-3
slice_bounds-open-end-in-Supplying-3 c =
    let a = c.args in
    let kept = c.requires.0 in
    sym (length-take-le a.job.supply.targets a.singles.now (omega (arith, kept.supply.targets, kept.singles)))

pub slice_bounds-open-end-in-Supplying-5 : goal.slice_bounds-open-end-in-Supplying-5
slice_bounds-open-end-in-Supplying-5 c =
    let a = c.args in
    let kept = c.requires.0 in
    sym (length-take-le a.job.supply.targets a.multi.now (omega (arith, kept.supply.targets, kept.multi)))

pub slice_bounds-open-end-in-Supplying-7 : goal.slice_bounds-open-end-in-Supplying-7
slice_bounds-open-end-in-Supplying-7 c =
    let a = c.args in
    let kept = c.requires.0 in
    sym (length-take-le a.job.supply.names a.identifiers.now (omega (arith, kept.supply.names, kept.supply.targets, kept.supply.identifiers)))

pub slice_bounds-open-end-in-Supplying-9 : goal.slice_bounds-open-end-in-Supplying-9
slice_bounds-open-end-in-Supplying-9 c =
    let a = c.args in
    let kept = c.requires.0 in
    sym (length-take-le a.job.supply.targets a.identifier_ends.now (omega (arith, kept.supply.targets, kept.supply.identifier_ends)))

pub slice_bounds-open-end-in-Supplying-11 : goal.slice_bounds-open-end-in-Supplying-11
slice_bounds-open-end-in-Supplying-11 c =
    let a = c.args in
    let kept = c.requires.0 in
    sym (length-take-le a.job.supply.bases a.bases.now (omega (arith, kept.supply.bases, kept.supply.sequences)))

pub slice_bounds-open-end-in-Supplying-13 : goal.slice_bounds-open-end-in-Supplying-13
slice_bounds-open-end-in-Supplying-13 c =
    let a = c.args in
    let kept = c.requires.0 in
    sym (length-take-le a.job.supply.targets a.base_ends.now (omega (arith, kept.supply.targets, kept.supply.base_ends)))

pub slice_bounds-open-end-in-Supplying-15 : goal.slice_bounds-open-end-in-Supplying-15
slice_bounds-open-end-in-Supplying-15 c =
    let a = c.args in
    let kept = c.requires.0 in
    sym (length-take-le a.job.supply.targets a.marks.now (omega (arith, kept.supply.targets, kept.supply.marks)))

pub open-opened-requires : goal.open-opened-requires
open-opened-requires c =
    let a = c.args in
    let kept = c.requires.0 in
    (open_room a.job (buffers_of a.identifiers.now a.identifier_ends.now a.bases.now a.base_ends.now a.marks.now a.ranked.now a.keys.now a.ranks.now a.positions.now a.placements.now a.singles.now a.multi.now) kept a.ended a.out.now a.at a.out.now c.in-Supplying.is [], (λ e. omega (arith, e, c.if-code-eq2.false)), c.requires.2)

pub slice_bounds-run-end-in-Running : goal.slice_bounds-run-end-in-Running
slice_bounds-run-end-in-Running c =
    let a = c.args in
    let kept = c.requires.0 in
    sym (length-take-le a.job.supply.targets a.placements.now (omega (arith, kept.supply.targets, kept.placements)))

pub slice_bounds-run-end-in-Running-3 : goal.slice_bounds-run-end-in-Running-3
slice_bounds-run-end-in-Running-3 c =
    let a = c.args in
    let kept = c.requires.0 in
    sym (length-take-le a.job.supply.targets a.singles.now (omega (arith, kept.supply.targets, kept.singles)))

pub slice_bounds-run-end-in-Running-5 : goal.slice_bounds-run-end-in-Running-5
slice_bounds-run-end-in-Running-5 c =
    let a = c.args in
    let kept = c.requires.0 in
    sym (length-take-le a.job.supply.targets a.multi.now (omega (arith, kept.supply.targets, kept.multi)))

pub slice_bounds-run-end-in-Running-6 : goal.slice_bounds-run-end-in-Running-6
slice_bounds-run-end-in-Running-6 c =
    let a = c.args in
    let kept = c.requires.0 in
    (postings_within a.job (buffers_of a.identifiers.now a.identifier_ends.now a.bases.now a.base_ends.now a.marks.now a.ranked.now a.keys.now a.ranks.now a.positions.now a.placements.now a.singles.now a.multi.now) kept a.ended a.out.now a.at a.out.now c.in-Running.is).0

pub slice_bounds-run-end-in-Running-7 : goal.slice_bounds-run-end-in-Running-7
slice_bounds-run-end-in-Running-7 c =
    let a = c.args in
    let kept = c.requires.0 in
    sym (length-take-le a.job.indexed.postings a.keys.now (postings_within a.job (buffers_of a.identifiers.now a.identifier_ends.now a.bases.now a.base_ends.now a.marks.now a.ranked.now a.keys.now a.ranks.now a.positions.now a.placements.now a.singles.now a.multi.now) kept a.ended a.out.now a.at a.out.now c.in-Running.is).0)

pub slice_bounds-run-end-in-Running-8 : goal.slice_bounds-run-end-in-Running-8
slice_bounds-run-end-in-Running-8 c =
    let a = c.args in
    let kept = c.requires.0 in
    (postings_within a.job (buffers_of a.identifiers.now a.identifier_ends.now a.bases.now a.base_ends.now a.marks.now a.ranked.now a.keys.now a.ranks.now a.positions.now a.placements.now a.singles.now a.multi.now) kept a.ended a.out.now a.at a.out.now c.in-Running.is).1

pub slice_bounds-run-end-in-Running-9 : goal.slice_bounds-run-end-in-Running-9
slice_bounds-run-end-in-Running-9 c =
    let a = c.args in
    let kept = c.requires.0 in
    sym (length-take-le a.job.indexed.postings a.ranks.now (postings_within a.job (buffers_of a.identifiers.now a.identifier_ends.now a.bases.now a.base_ends.now a.marks.now a.ranked.now a.keys.now a.ranks.now a.positions.now a.placements.now a.singles.now a.multi.now) kept a.ended a.out.now a.at a.out.now c.in-Running.is).1)

pub slice_bounds-run-end-in-Running-10 : goal.slice_bounds-run-end-in-Running-10
slice_bounds-run-end-in-Running-10 c =
    let a = c.args in
    let kept = c.requires.0 in
    (postings_within a.job (buffers_of a.identifiers.now a.identifier_ends.now a.bases.now a.base_ends.now a.marks.now a.ranked.now a.keys.now a.ranks.now a.positions.now a.placements.now a.singles.now a.multi.now) kept a.ended a.out.now a.at a.out.now c.in-Running.is).2

pub slice_bounds-run-end-in-Running-11 : goal.slice_bounds-run-end-in-Running-11
slice_bounds-run-end-in-Running-11 c =
    let a = c.args in
    let kept = c.requires.0 in
    sym (length-take-le a.job.indexed.postings a.positions.now (postings_within a.job (buffers_of a.identifiers.now a.identifier_ends.now a.bases.now a.base_ends.now a.marks.now a.ranked.now a.keys.now a.ranks.now a.positions.now a.placements.now a.singles.now a.multi.now) kept a.ended a.out.now a.at a.out.now c.in-Running.is).2)

pub slice_bounds-run-end-in-Running-13 : goal.slice_bounds-run-end-in-Running-13
slice_bounds-run-end-in-Running-13 c =
    let a = c.args in
    let kept = c.requires.0 in
    sym (length-take-le a.job.supply.names a.identifiers.now (omega (arith, kept.supply.names, kept.supply.targets, kept.supply.identifiers)))

pub slice_bounds-run-end-in-Running-15 : goal.slice_bounds-run-end-in-Running-15
slice_bounds-run-end-in-Running-15 c =
    let a = c.args in
    let kept = c.requires.0 in
    sym (length-take-le a.job.supply.targets a.identifier_ends.now (omega (arith, kept.supply.targets, kept.supply.identifier_ends)))

pub slice_bounds-run-end-in-Running-17 : goal.slice_bounds-run-end-in-Running-17
slice_bounds-run-end-in-Running-17 c =
    let a = c.args in
    let kept = c.requires.0 in
    sym (length-take-le a.job.supply.bases a.bases.now (omega (arith, kept.supply.bases, kept.supply.sequences)))

pub slice_bounds-run-end-in-Running-19 : goal.slice_bounds-run-end-in-Running-19
slice_bounds-run-end-in-Running-19 c =
    let a = c.args in
    let kept = c.requires.0 in
    sym (length-take-le a.job.supply.targets a.base_ends.now (omega (arith, kept.supply.targets, kept.supply.base_ends)))

pub slice_bounds-run-end-in-Running-21 : goal.slice_bounds-run-end-in-Running-21
slice_bounds-run-end-in-Running-21 c =
    let a = c.args in
    let kept = c.requires.0 in
    sym (length-take-le a.job.supply.targets a.marks.now (omega (arith, kept.supply.targets, kept.supply.marks)))

pub slice_bounds-run-end-in-Running-22 : goal.slice_bounds-run-end-in-Running-22
slice_bounds-run-end-in-Running-22 c =
    let a = c.args in
    let kept = c.requires.0 in
    ranks_within a.job (buffers_of a.identifiers.now a.identifier_ends.now a.bases.now a.base_ends.now a.marks.now a.ranked.now a.keys.now a.ranks.now a.positions.now a.placements.now a.singles.now a.multi.now) kept a.ended a.out.now a.at a.out.now c.in-Running.is

pub slice_bounds-run-end-in-Running-23 : goal.slice_bounds-run-end-in-Running-23
slice_bounds-run-end-in-Running-23 c =
    let a = c.args in
    let kept = c.requires.0 in
    sym (length-take-le a.job.indexed.ranked a.ranked.now (ranks_within a.job (buffers_of a.identifiers.now a.identifier_ends.now a.bases.now a.base_ends.now a.marks.now a.ranked.now a.keys.now a.ranks.now a.positions.now a.placements.now a.singles.now a.multi.now) kept a.ended a.out.now a.at a.out.now c.in-Running.is))

pub run-step-requires : goal.run-step-requires
run-step-requires c =
    let a = c.args in
    let kept = c.requires.0 in
    (lends a.job (buffers_of a.identifiers.now a.identifier_ends.now a.bases.now a.base_ends.now a.marks.now a.ranked.now a.keys.now a.ranks.now a.positions.now a.placements.now a.singles.now a.multi.now) kept a.ended a.out.now a.at a.out.now c.in-Running.is a.entries.now c.requires.1, c.requires.2)

pub returns-in-Beginning : goal.returns-in-Beginning
returns-in-Beginning c =
    let a = c.args in
    let kept = c.requires.0 in
    first_step a.job (buffers_of a.identifiers.now a.identifier_ends.now a.bases.now a.base_ends.now a.marks.now a.ranked.now a.keys.now a.ranks.now a.positions.now a.placements.now a.singles.now a.multi.now) kept a.ended a.out.now a.at _ c.in-Beginning.is a.bytes.now (omega (arith, c.if-bytes-eq0.false)) c.begin-begun.result c.begin-begun.ensures _ c.begun_job.ensures

pub returns-else-code-eq2 : goal.returns-else-code-eq2
returns-else-code-eq2 c =
    let a = c.args in
    let buffers = buffers_of a.identifiers.now a.identifier_ends.now a.bases.now a.base_ends.now a.marks.now a.ranked.now a.keys.now a.ranks.now a.positions.now a.placements.now a.singles.now a.multi.now in
    let kept = c.requires.0 in
    opening_step a.job buffers kept a.ended a.out.now a.at _ c.in-Supplying.is a.bytes.now (omega (arith, c.if-bytes-eq0.false)) c.open-opened.result _ _ _ _ c.open-opened.ensures (omega (arith, c.open-opened.auto.ranked)) (omega (arith, c.open-opened.auto.keys)) (omega (arith, c.open-opened.auto.ranks)) (omega (arith, c.open-opened.auto.positions)) _ c.opened_job.ensures

pub returns-in-Running : goal.returns-in-Running
returns-in-Running c =
    let a = c.args in
    let buffers = buffers_of a.identifiers.now a.identifier_ends.now a.bases.now a.base_ends.now a.marks.now a.ranked.now a.keys.now a.ranks.now a.positions.now a.placements.now a.singles.now a.multi.now in
    let kept = c.requires.0 in
    let placements = length-take-le a.job.supply.targets a.placements.now (omega (arith, kept.supply.targets, kept.placements)) in
    let singles = length-take-le a.job.supply.targets a.singles.now (omega (arith, kept.supply.targets, kept.singles)) in
    let multi = length-take-le a.job.supply.targets a.multi.now (omega (arith, kept.supply.targets, kept.multi)) in
    run_step a.job buffers kept a.ended a.out.now a.at _ c.in-Running.is a.bytes.now (omega (arith, c.if-bytes-eq0.false)) _ _ _ _ c.run-step.ensures (omega (arith, kept.supply.targets, c.run-step.auto.placements, placements)) (omega (arith, kept.supply.targets, c.run-step.auto.singles, singles)) (omega (arith, kept.supply.targets, c.run-step.auto.multi, multi))
