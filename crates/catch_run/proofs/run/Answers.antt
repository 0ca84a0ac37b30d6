-- `catch_run::run` meets its contract: a fragment at 03, the end at 05, and 20 at another code or with bytes behind the end.
use mathlib.Core.Path.{refl}
use native.Mathlib.Omega.{arith}
use Rattle.audit_model.specs.Calls.{held_of}
use Rattle.catch_run.specs.Running.{catalogue_of}
use Rattle.catch_run.proofs.Stepping.{at_code, none_there, other_ran, behind_ran, wait_ran, finish_lent, finish_ran}
use Rattle.catch_run.proofs.run.Goals as goal

pub returns-then-code-eq3 : goal.returns-then-code-eq3
returns-then-code-eq3 c =
    let a = c.args in
    let catalogue = catalogue_of a.catalogue.identifiers.now a.catalogue.identifier_ends.now a.catalogue.bases.now a.catalogue.base_ends.now a.catalogue.marks.now in
    let held = held_of a.state a.placements.now a.singles.now a.multi.now in
    at_code catalogue held a.ended a.bytes.now a.out.now a.at _ _ _ a.code 3 (omega (arith, c.if-code-eq3.true)) c.run_fragment.ensures

pub returns-then-code-ne5 : goal.returns-then-code-ne5
returns-then-code-ne5 c =
    let a = c.args in
    let catalogue = catalogue_of a.catalogue.identifiers.now a.catalogue.identifier_ends.now a.catalogue.bases.now a.catalogue.base_ends.now a.catalogue.marks.now in
    let held = held_of a.state a.placements.now a.singles.now a.multi.now in
    other_ran catalogue a.ranked.now a.index.keys.now a.index.ranks.now a.index.positions.now held a.entries.now c.requires.0 a.ended a.bytes.now a.out.now a.at _ a.code (λ e. omega arith) (λ e. omega arith) _ c.refuse.ensures

pub returns-then-bytes-gt0 : goal.returns-then-bytes-gt0
returns-then-bytes-gt0 c =
    let a = c.args in
    let catalogue = catalogue_of a.catalogue.identifiers.now a.catalogue.identifier_ends.now a.catalogue.bases.now a.catalogue.base_ends.now a.catalogue.marks.now in
    let held = held_of a.state a.placements.now a.singles.now a.multi.now in
    at_code catalogue held a.ended a.bytes.now a.out.now a.at _ _ _ a.code 5 (omega arith) (behind_ran catalogue a.ranked.now a.index.keys.now a.index.ranks.now a.index.positions.now held a.entries.now c.requires.0 a.ended a.bytes.now a.out.now a.at _ (omega arith) _ c.refuse-then-bytes-gt0.ensures)

pub put_finish-end-requires : goal.put_finish-end-requires
put_finish-end-requires c =
    let a = c.args in
    let catalogue = catalogue_of a.catalogue.identifiers.now a.catalogue.identifier_ends.now a.catalogue.bases.now a.catalogue.base_ends.now a.catalogue.marks.now in
    let held = held_of a.state a.placements.now a.singles.now a.multi.now in
    finish_lent catalogue a.ranked.now a.index.keys.now a.index.ranks.now a.index.positions.now held a.entries.now c.requires.0 a.ended a.bytes.now a.out.now a.at a.out.now c.requires.1

pub returns-then-ended : goal.returns-then-ended
returns-then-ended c =
    let a = c.args in
    let catalogue = catalogue_of a.catalogue.identifiers.now a.catalogue.identifier_ends.now a.catalogue.bases.now a.catalogue.base_ends.now a.catalogue.marks.now in
    let held = held_of a.state a.placements.now a.singles.now a.multi.now in
    at_code catalogue held a.ended a.bytes.now a.out.now a.at _ _ _ a.code 5 (omega (arith, c.if-code-ne5.false)) (finish_ran catalogue a.ranked.now a.index.keys.now a.index.ranks.now a.index.positions.now held a.entries.now c.requires.0 a.ended a.bytes.now a.out.now a.at _ c.if-ended.true (none_there _ (omega (arith, c.if-bytes-gt0.false))) _ c.finish_tested-finish.ensures _ c.put_finish-end.ensures)

pub returns : goal.returns
returns c =
    let a = c.args in
    let catalogue = catalogue_of a.catalogue.identifiers.now a.catalogue.identifier_ends.now a.catalogue.bases.now a.catalogue.base_ends.now a.catalogue.marks.now in
    let held = held_of a.state a.placements.now a.singles.now a.multi.now in
    at_code catalogue held a.ended a.bytes.now a.out.now a.at _ _ _ a.code 5 (omega arith) (wait_ran catalogue a.ranked.now a.index.keys.now a.index.ranks.now a.index.positions.now held a.entries.now c.requires.0 a.ended a.bytes.now a.out.now a.at _ c.if-ended.false (none_there _ (omega arith)) _ c.wait.ensures refl)
