-- `batch_fragment_rows::write_fragment` meets its contract: the rows of each answer.
use native.Mathlib.Omega.{arith}
use Prim.Native.Nat.{◌*◌}
use Rattle.audit_model.specs.Calls.{mapping_row}
use Rattle.batch_fragment_rows.proofs.Refusing.{refused_room, two_put}
use Rattle.batch_fragment_rows.proofs.write_fragment.Goals as goal

pub write_refusals-requires : goal.write_refusals-requires
write_refusals-requires g c = omega (arith, refused_room c.args.at c.args.n _ _ (rw c.in-Err.is at c.requires))

pub write_row-requires : goal.write_row-requires
write_row-requires g c = omega (arith, rw (c.in-Ok-Single.is, (rw c.in-Ok-Single.is at c.in-Ok-Single.field-0-is)) at c.requires)

pub write_row-requires-in-Ok-Paired : goal.write_row-requires-in-Ok-Paired
write_row-requires-in-Ok-Paired g c = omega (arith, rw (c.in-Ok-Paired.is, (rw c.in-Ok-Paired.is at c.in-Ok-Paired.field-0-is)) at c.requires)

pub write_row-requires-in-Ok-Paired-2 : goal.write_row-requires-in-Ok-Paired-2
write_row-requires-in-Ok-Paired-2 g c = omega (arith, rw (c.in-Ok-Paired.is, (rw c.in-Ok-Paired.is at c.in-Ok-Paired.field-0-is)) at c.requires)

pub returns-in-Err : goal.returns-in-Err
returns-in-Err g c = rw c.in-Err.is c.write_refusals.ensures

pub returns-in-Ok-Single : goal.returns-in-Ok-Single
returns-in-Ok-Single g c = rw (c.in-Ok-Single.is, (rw c.in-Ok-Single.is at c.in-Ok-Single.field-0-is)) c.write_row.ensures

pub returns-in-Ok-Paired : goal.returns-in-Ok-Paired
returns-in-Ok-Paired g c =
    let m = c.in-Ok-Paired.m in
    rw (c.in-Ok-Paired.is, (rw c.in-Ok-Paired.is at c.in-Ok-Paired.field-0-is)) (two_put (8 * c.args.at) c.args.rows.now _ _ (mapping_row m.first) (mapping_row m.second) (omega (arith, rw (c.in-Ok-Paired.is, (rw c.in-Ok-Paired.is at c.in-Ok-Paired.field-0-is)) at c.requires)) c.write_row-in-Ok-Paired.ensures c.write_row-in-Ok-Paired-2.ensures)
