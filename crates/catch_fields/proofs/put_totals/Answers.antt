-- `catch_fields::put_totals` meets its contract.
use native.Mathlib.Omega.{arith}
use Rattle.catch_text.specs.Text.{spaced}
use Rattle.catch_text.specs.Writing.{Adds}
use Rattle.catch_fields.specs.Fields.{total_words}
use Rattle.catch_text.proofs.Adding.{adds_both, adds_none}
use Rattle.catch_text.proofs.Decimal.{decimal-room}
use Rattle.catch_fields.proofs.put_totals.Goals as goal

pub put_decimal-b-requires : goal.put_decimal-b-requires
put_decimal-b-requires c =
    omega (arith, decimal-room c.in-Some.t.placements (omega arith), decimal-room c.in-Some.t.singles (omega arith), decimal-room c.in-Some.t.multi (omega arith))

pub put_bytes-c-requires : goal.put_bytes-c-requires
put_bytes-c-requires c =
    omega (arith, decimal-room c.in-Some.t.placements (omega arith), decimal-room c.in-Some.t.singles (omega arith), decimal-room c.in-Some.t.multi (omega arith))

pub put_decimal-d-requires : goal.put_decimal-d-requires
put_decimal-d-requires c =
    omega (arith, decimal-room c.in-Some.t.placements (omega arith), decimal-room c.in-Some.t.singles (omega arith), decimal-room c.in-Some.t.multi (omega arith))

pub put_bytes-e-requires : goal.put_bytes-e-requires
put_bytes-e-requires c =
    omega (arith, decimal-room c.in-Some.t.placements (omega arith), decimal-room c.in-Some.t.singles (omega arith), decimal-room c.in-Some.t.multi (omega arith))

pub put_decimal-requires : goal.put_decimal-requires
put_decimal-requires c =
    omega (arith, decimal-room c.in-Some.t.placements (omega arith), decimal-room c.in-Some.t.singles (omega arith), decimal-room c.in-Some.t.multi (omega arith))

pub returns-in-None : goal.returns-in-None
returns-in-None c = record { adds = rw c.in-None.is c.put_bytes.ensures; room = omega arith }

pub returns-in-Some : goal.returns-in-Some
returns-in-Some c =
    let added : (Adds (spaced (total_words c.args.totals)) c.args.out.now c.args.at c.put_decimal.new.out c.put_decimal.result) =
    rw c.in-Some.is
    (adds_both c.put_bytes-a.ensures
    (adds_both c.put_decimal-b.ensures
    (adds_both c.put_bytes-c.ensures
    (adds_both c.put_decimal-d.ensures
    (adds_both c.put_bytes-e.ensures
    (adds_both c.put_decimal.ensures (adds_none _ _))))))) in
    record { adds = added; room = omega (arith, decimal-room c.in-Some.t.placements (omega arith), decimal-room c.in-Some.t.singles (omega arith), decimal-room c.in-Some.t.multi (omega arith)) }
