-- `batch_fragments::audit_listed` meets its contract: two reads stand for all, and the part of the entries comes back in its place.
use Prim.Native.Nat.{◌+◌}
use Rattle.audit_model.specs.Opening.{none}
use Rattle.batch_lists.specs.Lists.{read_lists}
use Rattle.batch_fragments.proofs.Calls.{read_is, rows-room, fragment_listed}
use Rattle.batch_fragments.proofs.audit_listed.Goals as goal

pub write_fragment-requires : goal.write_fragment-requires
write_fragment-requires c =
    let z = c.args in
    let reads = read_lists z.reads.roles.now z.reads.bases.now z.reads.base_ends.now z.reads.marks.now z.reads.qualities.now z.reads.quality_ends.now in
    let first = read_is reads z.at _ _ _ _ _ c.role_of-first_role.ensures c.byte_or_zero.ensures c.sequence_or_none-first.ensures c.byte_or_zero-first_present.ensures c.sequence_or_none-first_qualities.ensures in
    let second = read_is reads (z.at + 1) _ _ _ _ _ c.role_of-second_role.ensures c.byte_or_zero-2.ensures c.sequence_or_none-second.ensures c.byte_or_zero-second_present.ensures c.sequence_or_none-second_qualities.ensures in
    rows-room _ _ _ _ _ none reads z.ordinal z.at z.count z.i z.width z.rows.now z.entries.now c.requires.reads_lent.1.0 _ _ first second _ _ _ c.audit_tested-audit.ensures c.requires.reads_lent.1.1

pub returns : goal.returns
returns c =
    let z = c.args in
    let reads = read_lists z.reads.roles.now z.reads.bases.now z.reads.base_ends.now z.reads.marks.now z.reads.qualities.now z.reads.quality_ends.now in
    let first = read_is reads z.at _ _ _ _ _ c.role_of-first_role.ensures c.byte_or_zero.ensures c.sequence_or_none-first.ensures c.byte_or_zero-first_present.ensures c.sequence_or_none-first_qualities.ensures in
    let second = read_is reads (z.at + 1) _ _ _ _ _ c.role_of-second_role.ensures c.byte_or_zero-2.ensures c.sequence_or_none-second.ensures c.byte_or_zero-second_present.ensures c.sequence_or_none-second_qualities.ensures in
    fragment_listed _ _ _ _ _ _ reads z.ordinal z.at z.count z.i z.width z.rows.now z.entries.now c.requires.reads_lent.1.0 _ _ first second _ _ _ c.audit_tested-audit.ensures _ c.write_fragment.ensures
