-- `catch_fragment_lines::put_answer` meets its contract, answer by answer.
use native.Mathlib.Omega.{arith}
use Rattle.lists.specs.Cut.{cut}
use Rattle.audit_model.specs.Settings.{role_number}
use Rattle.audit_model.specs.Calls.{mapping_row}
use Rattle.catch_fragment_lines.proofs.Answering.{answered, two_added, lent_single, lent_paired, room_of, lines_of, part_lent, part_lines}
use Rattle.catch_fragment_lines.proofs.put_answer.Goals as goal

pub put_refusal-requires : goal.put_refusal-requires
put_refusal-requires g c =
    let a = c.args in
    room_of a.at _ a.answer _ c.in-Err.is c.requires.1

pub put_mate-requires : goal.put_mate-requires
put_mate-requires g c =
    let a = c.args in
    (lent_single a.identifiers.now a.ends.now a.entries.now a.width a.answer c.requires.0 _ (answered c.in-Ok-Single.is (rw c.in-Ok-Single.is at c.in-Ok-Single.field-0-is)), room_of a.at _ a.answer _ (answered c.in-Ok-Single.is (rw c.in-Ok-Single.is at c.in-Ok-Single.field-0-is)) c.requires.1)

pub put_mate-a-requires : goal.put_mate-a-requires
put_mate-a-requires g c =
    let a = c.args in
    ((lent_paired a.identifiers.now a.ends.now a.entries.now a.width a.answer c.requires.0 _ (answered c.in-Ok-Paired.is (rw c.in-Ok-Paired.is at c.in-Ok-Paired.field-0-is))).0, omega (arith, room_of a.at _ a.answer _ (answered c.in-Ok-Paired.is (rw c.in-Ok-Paired.is at c.in-Ok-Paired.field-0-is)) c.requires.1))

pub offset_bounds-entries-width : goal.offset_bounds-entries-width
offset_bounds-entries-width g c =
    let a = c.args in
    omega (arith, (lent_paired a.identifiers.now a.ends.now a.entries.now a.width a.answer c.requires.0 _ (answered c.in-Ok-Paired.is (rw c.in-Ok-Paired.is at c.in-Ok-Paired.field-0-is))).2)

pub slice_bounds-put_mate-count : goal.slice_bounds-put_mate-count
slice_bounds-put_mate-count g c =
    let a = c.args in
    omega (arith, (lent_paired a.identifiers.now a.ends.now a.entries.now a.width a.answer c.requires.0 _ (answered c.in-Ok-Paired.is (rw c.in-Ok-Paired.is at c.in-Ok-Paired.field-0-is))).2)

pub slice_bounds-put_mate-start : goal.slice_bounds-put_mate-start
slice_bounds-put_mate-start g c =
    let a = c.args in
    omega (arith, (lent_paired a.identifiers.now a.ends.now a.entries.now a.width a.answer c.requires.0 _ (answered c.in-Ok-Paired.is (rw c.in-Ok-Paired.is at c.in-Ok-Paired.field-0-is))).2)

pub put_mate-requires-in-Ok-Paired : goal.put_mate-requires-in-Ok-Paired
put_mate-requires-in-Ok-Paired g c =
    let a = c.args in
    (part_lent a.identifiers.now a.ends.now a.entries.now a.width _ (lent_paired a.identifiers.now a.ends.now a.entries.now a.width a.answer c.requires.0 _ (answered c.in-Ok-Paired.is (rw c.in-Ok-Paired.is at c.in-Ok-Paired.field-0-is))).1, omega (arith, room_of a.at _ a.answer _ (answered c.in-Ok-Paired.is (rw c.in-Ok-Paired.is at c.in-Ok-Paired.field-0-is)) c.requires.1, c.put_mate-a.ensures.room, c.put_mate-a.auto.out))

pub returns-in-Err : goal.returns-in-Err
returns-in-Err g c =
    let a = c.args in
    lines_of _ _ a.ordinal _ _ a.width a.entries.now a.out.now a.at _ _ a.answer _ c.in-Err.is c.put_refusal.ensures

pub returns-in-Ok-Single : goal.returns-in-Ok-Single
returns-in-Ok-Single g c =
    let a = c.args in
    lines_of _ _ a.ordinal _ _ a.width a.entries.now a.out.now a.at _ _ a.answer _ (answered c.in-Ok-Single.is (rw c.in-Ok-Single.is at c.in-Ok-Single.field-0-is)) c.put_mate.ensures

pub returns-in-Ok-Paired : goal.returns-in-Ok-Paired
returns-in-Ok-Paired g c =
    let a = c.args in
    lines_of _ _ a.ordinal _ _ a.width a.entries.now a.out.now a.at _ _ a.answer _ (answered c.in-Ok-Paired.is (rw c.in-Ok-Paired.is at c.in-Ok-Paired.field-0-is)) (two_added c.put_mate-a.ensures (part_lines (cut a.ends.now a.identifiers.now) a.ordinal (role_number a.second_role) (mapping_row c.in-Ok-Paired.mates.second) a.entries.now a.width _ _ _ _ _ c.put_mate-in-Ok-Paired.ensures))
