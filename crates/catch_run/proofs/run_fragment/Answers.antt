-- `catch_run::run_fragment` meets its contract: refused, or more is needed, or a fragment is audited and its lines are written.
use mathlib.Core.Path.{refl}
use native.Mathlib.Omega.{arith}
use Rattle.audit_model.specs.Calls.{held_of}
use Rattle.catch_run.specs.Running.{catalogue_of}
use Rattle.catch_run.proofs.Stepping.{end_most, tell_lent, fragment_wrong_ran, fragment_short_ran, fragment_ran}
use Rattle.catch_run.proofs.run_fragment.Goals as goal

pub overflow_add-n : goal.overflow_add-n
overflow_add-n c =
    let a = c.args in
    omega (arith, end_most (catalogue_of a.catalogue.identifiers.now a.catalogue.identifier_ends.now a.catalogue.bases.now a.catalogue.base_ends.now a.catalogue.marks.now) a.ranked.now a.index.keys.now a.index.ranks.now a.index.positions.now (held_of a.state a.placements.now a.singles.now a.multi.now) a.entries.now c.requires.0 a.ended a.bytes.now a.out.now a.at a.out.now c.in-Ok.head c.in-Ok.ensures)

pub tell_fragment-told-requires : goal.tell_fragment-told-requires
tell_fragment-told-requires c =
    let a = c.args in
    tell_lent (catalogue_of a.catalogue.identifiers.now a.catalogue.identifier_ends.now a.catalogue.bases.now a.catalogue.base_ends.now a.catalogue.marks.now) a.ranked.now a.index.keys.now a.index.ranks.now a.index.positions.now (held_of a.state a.placements.now a.singles.now a.multi.now) a.entries.now c.requires.0 a.ended a.bytes.now a.out.now a.at a.out.now c.in-Ok.head c.in-Ok.ensures c.requires.1

pub returns-in-Err-Wrong : goal.returns-in-Err-Wrong
returns-in-Err-Wrong c =
    let a = c.args in
    fragment_wrong_ran (catalogue_of a.catalogue.identifiers.now a.catalogue.identifier_ends.now a.catalogue.bases.now a.catalogue.base_ends.now a.catalogue.marks.now) a.ranked.now a.index.keys.now a.index.ranks.now a.index.positions.now (held_of a.state a.placements.now a.singles.now a.multi.now) a.entries.now c.requires.0 a.ended a.bytes.now a.out.now a.at _ (rw c.in-Err-Wrong.field-0-is at c.in-Err-Wrong.ensures) _ c.refuse.ensures

pub returns-in-Err-More : goal.returns-in-Err-More
returns-in-Err-More c =
    let a = c.args in
    fragment_short_ran (catalogue_of a.catalogue.identifiers.now a.catalogue.identifier_ends.now a.catalogue.bases.now a.catalogue.base_ends.now a.catalogue.marks.now) a.ranked.now a.index.keys.now a.index.ranks.now a.index.positions.now (held_of a.state a.placements.now a.singles.now a.multi.now) a.entries.now c.requires.0 a.ended a.bytes.now a.out.now a.at _ (rw c.in-Err-More.field-0-is at c.in-Err-More.ensures) _ c.wait_or_refuse.ensures

pub returns-in-Ok : goal.returns-in-Ok
returns-in-Ok c =
    let a = c.args in
    fragment_ran (catalogue_of a.catalogue.identifiers.now a.catalogue.identifier_ends.now a.catalogue.bases.now a.catalogue.base_ends.now a.catalogue.marks.now) a.ranked.now a.index.keys.now a.index.ranks.now a.index.positions.now (held_of a.state a.placements.now a.singles.now a.multi.now) a.entries.now c.requires.0 a.ended a.bytes.now a.out.now a.at _ c.in-Ok.head c.in-Ok.ensures _ _ _ c.tell_fragment-told.ensures _ refl _ c.progress_of.ensures
