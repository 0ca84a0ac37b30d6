-- `catch_lines::put_read` meets its contract.
use mathlib.Core.List.{[], ◌∷◌}
use native.Mathlib.Nat.{le_refl}
use native.Mathlib.Omega.{arith}
use lib.Dec.{lit≤}
use Rattle.catch_text.specs.Text.{text, decimal}
use Rattle.catch_text.proofs.Adding.{adds_both}
use Rattle.catch_text.proofs.Decimal.{decimal-room}
use Rattle.map_answers.specs.Answer.{state_number}
use Rattle.audit_model.specs.Settings.{role_number}
use Rattle.audit_model.specs.Calls.{mapping_row}
use Rattle.catch_fields.specs.Fields.{role_word, places_word}
use Rattle.catch_lines.proofs.Lining.{reached_none, reached_more, reached_most, room_left, reached-line, adds_line}
use Rattle.catch_lines.proofs.put_read.Goals as goal

pub put_decimal-b-requires : goal.put_decimal-b-requires
put_decimal-b-requires c =
    let reached-1 = reached_more (reached_none _ _) 2 c.put_bytes-a.ensures (lit≤ tt) c.put_bytes-a.auto.out in
    room_left reached-1 (decimal-room c.args.ordinal c.ranges.ordinal.fits) (lit≤ tt) c.requires

pub put_bytes-c-requires : goal.put_bytes-c-requires
put_bytes-c-requires c =
    let reached-1 = reached_more (reached_none _ _) 2 c.put_bytes-a.ensures (lit≤ tt) c.put_bytes-a.auto.out in
    let reached-2 =
    reached_more reached-1 20 c.put_decimal-b.ensures (decimal-room c.args.ordinal c.ranges.ordinal.fits) c.put_decimal-b.auto.out in
    room_left reached-2 (le_refl 1) (lit≤ tt) c.requires

pub put_role-d-requires : goal.put_role-d-requires
put_role-d-requires c =
    let reached-1 = reached_more (reached_none _ _) 2 c.put_bytes-a.ensures (lit≤ tt) c.put_bytes-a.auto.out in
    let reached-2 =
    reached_more reached-1 20 c.put_decimal-b.ensures (decimal-room c.args.ordinal c.ranges.ordinal.fits) c.put_decimal-b.auto.out in
    let reached-3 = reached_more reached-2 1 c.put_bytes-c.ensures (lit≤ tt) c.put_bytes-c.auto.out in
    room_left reached-3 (le_refl 2) (lit≤ tt) c.requires

pub put_bytes-e-requires : goal.put_bytes-e-requires
put_bytes-e-requires c =
    let reached-1 = reached_more (reached_none _ _) 2 c.put_bytes-a.ensures (lit≤ tt) c.put_bytes-a.auto.out in
    let reached-2 =
    reached_more reached-1 20 c.put_decimal-b.ensures (decimal-room c.args.ordinal c.ranges.ordinal.fits) c.put_decimal-b.auto.out in
    let reached-3 = reached_more reached-2 1 c.put_bytes-c.ensures (lit≤ tt) c.put_bytes-c.auto.out in
    let reached-4 = reached_most reached-3 2 c.put_role-d.ensures c.put_role-d.auto.out in
    room_left reached-4 (le_refl 1) (lit≤ tt) c.requires

pub put_decimal-f-requires : goal.put_decimal-f-requires
put_decimal-f-requires c =
    let reached-1 = reached_more (reached_none _ _) 2 c.put_bytes-a.ensures (lit≤ tt) c.put_bytes-a.auto.out in
    let reached-2 =
    reached_more reached-1 20 c.put_decimal-b.ensures (decimal-room c.args.ordinal c.ranges.ordinal.fits) c.put_decimal-b.auto.out in
    let reached-3 = reached_more reached-2 1 c.put_bytes-c.ensures (lit≤ tt) c.put_bytes-c.auto.out in
    let reached-4 = reached_most reached-3 2 c.put_role-d.ensures c.put_role-d.auto.out in
    let reached-5 = reached_more reached-4 1 c.put_bytes-e.ensures (lit≤ tt) c.put_bytes-e.auto.out in
    room_left reached-5 (decimal-room c.state_number.result (omega arith)) (lit≤ tt) c.requires

pub put_bytes-g-requires : goal.put_bytes-g-requires
put_bytes-g-requires c =
    let reached-1 = reached_more (reached_none _ _) 2 c.put_bytes-a.ensures (lit≤ tt) c.put_bytes-a.auto.out in
    let reached-2 =
    reached_more reached-1 20 c.put_decimal-b.ensures (decimal-room c.args.ordinal c.ranges.ordinal.fits) c.put_decimal-b.auto.out in
    let reached-3 = reached_more reached-2 1 c.put_bytes-c.ensures (lit≤ tt) c.put_bytes-c.auto.out in
    let reached-4 = reached_most reached-3 2 c.put_role-d.ensures c.put_role-d.auto.out in
    let reached-5 = reached_more reached-4 1 c.put_bytes-e.ensures (lit≤ tt) c.put_bytes-e.auto.out in
    let reached-6 = reached_more reached-5 20 c.put_decimal-f.ensures (decimal-room c.state_number.result (omega arith)) c.put_decimal-f.auto.out in
    room_left reached-6 (le_refl 1) (lit≤ tt) c.requires

pub put_places-h-requires : goal.put_places-h-requires
put_places-h-requires c =
    let reached-1 = reached_more (reached_none _ _) 2 c.put_bytes-a.ensures (lit≤ tt) c.put_bytes-a.auto.out in
    let reached-2 =
    reached_more reached-1 20 c.put_decimal-b.ensures (decimal-room c.args.ordinal c.ranges.ordinal.fits) c.put_decimal-b.auto.out in
    let reached-3 = reached_more reached-2 1 c.put_bytes-c.ensures (lit≤ tt) c.put_bytes-c.auto.out in
    let reached-4 = reached_most reached-3 2 c.put_role-d.ensures c.put_role-d.auto.out in
    let reached-5 = reached_more reached-4 1 c.put_bytes-e.ensures (lit≤ tt) c.put_bytes-e.auto.out in
    let reached-6 = reached_more reached-5 20 c.put_decimal-f.ensures (decimal-room c.state_number.result (omega arith)) c.put_decimal-f.auto.out in
    let reached-7 = reached_more reached-6 1 c.put_bytes-g.ensures (lit≤ tt) c.put_bytes-g.auto.out in
    room_left reached-7 (le_refl 20) (lit≤ tt) c.requires

pub put_bytes-requires : goal.put_bytes-requires
put_bytes-requires c =
    let reached-1 = reached_more (reached_none _ _) 2 c.put_bytes-a.ensures (lit≤ tt) c.put_bytes-a.auto.out in
    let reached-2 =
    reached_more reached-1 20 c.put_decimal-b.ensures (decimal-room c.args.ordinal c.ranges.ordinal.fits) c.put_decimal-b.auto.out in
    let reached-3 = reached_more reached-2 1 c.put_bytes-c.ensures (lit≤ tt) c.put_bytes-c.auto.out in
    let reached-4 = reached_most reached-3 2 c.put_role-d.ensures c.put_role-d.auto.out in
    let reached-5 = reached_more reached-4 1 c.put_bytes-e.ensures (lit≤ tt) c.put_bytes-e.auto.out in
    let reached-6 = reached_more reached-5 20 c.put_decimal-f.ensures (decimal-room c.state_number.result (omega arith)) c.put_decimal-f.auto.out in
    let reached-7 = reached_more reached-6 1 c.put_bytes-g.ensures (lit≤ tt) c.put_bytes-g.auto.out in
    let reached-8 = reached_most reached-7 20 c.put_places-h.ensures c.put_places-h.auto.out in
    room_left reached-8 (le_refl 1) (lit≤ tt) c.requires

pub shape_of-out : goal.shape_of-out
shape_of-out c =
    let reached-1 = reached_more (reached_none _ _) 2 c.put_bytes-a.ensures (lit≤ tt) c.put_bytes-a.auto.out in
    let reached-2 =
    reached_more reached-1 20 c.put_decimal-b.ensures (decimal-room c.args.ordinal c.ranges.ordinal.fits) c.put_decimal-b.auto.out in
    let reached-3 = reached_more reached-2 1 c.put_bytes-c.ensures (lit≤ tt) c.put_bytes-c.auto.out in
    let reached-4 = reached_most reached-3 2 c.put_role-d.ensures c.put_role-d.auto.out in
    let reached-5 = reached_more reached-4 1 c.put_bytes-e.ensures (lit≤ tt) c.put_bytes-e.auto.out in
    let reached-6 = reached_more reached-5 20 c.put_decimal-f.ensures (decimal-room c.state_number.result (omega arith)) c.put_decimal-f.auto.out in
    let reached-7 = reached_more reached-6 1 c.put_bytes-g.ensures (lit≤ tt) c.put_bytes-g.auto.out in
    let reached-8 = reached_most reached-7 20 c.put_places-h.ensures c.put_places-h.auto.out in
    let reached-9 = reached_more reached-8 1 c.put_bytes.ensures (lit≤ tt) c.put_bytes.auto.out in
    reached-9.sized

pub returns : goal.returns
returns c =
    let added =
    adds_line (text "R") (decimal c.args.ordinal ∷ role_word (role_number c.args.role) ∷ decimal (state_number c.args.mapping.state) ∷ places_word (mapping_row c.args.mapping) ∷ [])
    (adds_both c.put_bytes-a.ensures
    (adds_both c.put_decimal-b.ensures
    (adds_both c.put_bytes-c.ensures
    (adds_both c.put_role-d.ensures.adds
    (adds_both c.put_bytes-e.ensures
    (adds_both (rw c.state_number.ensures at c.put_decimal-f.ensures)
    (adds_both c.put_bytes-g.ensures
    (adds_both c.put_places-h.ensures.adds
    c.put_bytes.ensures)))))))) in
    let reached-1 = reached_more (reached_none _ _) 2 c.put_bytes-a.ensures (lit≤ tt) c.put_bytes-a.auto.out in
    let reached-2 =
    reached_more reached-1 20 c.put_decimal-b.ensures (decimal-room c.args.ordinal c.ranges.ordinal.fits) c.put_decimal-b.auto.out in
    let reached-3 = reached_more reached-2 1 c.put_bytes-c.ensures (lit≤ tt) c.put_bytes-c.auto.out in
    let reached-4 = reached_most reached-3 2 c.put_role-d.ensures c.put_role-d.auto.out in
    let reached-5 = reached_more reached-4 1 c.put_bytes-e.ensures (lit≤ tt) c.put_bytes-e.auto.out in
    let reached-6 = reached_more reached-5 20 c.put_decimal-f.ensures (decimal-room c.state_number.result (omega arith)) c.put_decimal-f.auto.out in
    let reached-7 = reached_more reached-6 1 c.put_bytes-g.ensures (lit≤ tt) c.put_bytes-g.auto.out in
    let reached-8 = reached_most reached-7 20 c.put_places-h.ensures c.put_places-h.auto.out in
    let reached-9 = reached_more reached-8 1 c.put_bytes.ensures (lit≤ tt) c.put_bytes.auto.out in
    reached-line reached-9 (lit≤ tt) added
