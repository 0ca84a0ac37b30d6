-- `catch_lines::put_count` meets its contract.
use mathlib.Core.List.{[], ◌∷◌}
use native.Mathlib.Nat.{le_refl}
use lib.Dec.{lit≤}
use Rattle.catch_text.specs.Text.{text, decimal}
use Rattle.catch_text.proofs.Adding.{adds_both}
use Rattle.catch_text.proofs.Decimal.{decimal-room}
use Rattle.audit_model.specs.Settings.{role_number}
use Rattle.catch_fields.specs.Fields.{role_word}
use Rattle.catch_lines.proofs.Lining.{reached_none, reached_more, reached_most, room_left, reached-line, adds_line}
use Rattle.catch_lines.proofs.put_count.Goals as goal

pub put_role-b-requires : goal.put_role-b-requires
put_role-b-requires c =
    let reached-1 = reached_more (reached_none _ _) 2 c.put_bytes-a.ensures (lit≤ tt) c.put_bytes-a.auto.out in
    room_left reached-1 (le_refl 2) (lit≤ tt) c.requires

pub put_bytes-c-requires : goal.put_bytes-c-requires
put_bytes-c-requires c =
    let reached-1 = reached_more (reached_none _ _) 2 c.put_bytes-a.ensures (lit≤ tt) c.put_bytes-a.auto.out in
    let reached-2 = reached_most reached-1 2 c.put_role-b.ensures c.put_role-b.auto.out in
    room_left reached-2 (le_refl 1) (lit≤ tt) c.requires

pub put_decimal-d-requires : goal.put_decimal-d-requires
put_decimal-d-requires c =
    let reached-1 = reached_more (reached_none _ _) 2 c.put_bytes-a.ensures (lit≤ tt) c.put_bytes-a.auto.out in
    let reached-2 = reached_most reached-1 2 c.put_role-b.ensures c.put_role-b.auto.out in
    let reached-3 = reached_more reached-2 1 c.put_bytes-c.ensures (lit≤ tt) c.put_bytes-c.auto.out in
    room_left reached-3 (decimal-room c.args.state c.ranges.state.fits) (lit≤ tt) c.requires

pub put_bytes-e-requires : goal.put_bytes-e-requires
put_bytes-e-requires c =
    let reached-1 = reached_more (reached_none _ _) 2 c.put_bytes-a.ensures (lit≤ tt) c.put_bytes-a.auto.out in
    let reached-2 = reached_most reached-1 2 c.put_role-b.ensures c.put_role-b.auto.out in
    let reached-3 = reached_more reached-2 1 c.put_bytes-c.ensures (lit≤ tt) c.put_bytes-c.auto.out in
    let reached-4 =
    reached_more reached-3 20 c.put_decimal-d.ensures (decimal-room c.args.state c.ranges.state.fits) c.put_decimal-d.auto.out in
    room_left reached-4 (le_refl 1) (lit≤ tt) c.requires

pub put_decimal-f-requires : goal.put_decimal-f-requires
put_decimal-f-requires c =
    let reached-1 = reached_more (reached_none _ _) 2 c.put_bytes-a.ensures (lit≤ tt) c.put_bytes-a.auto.out in
    let reached-2 = reached_most reached-1 2 c.put_role-b.ensures c.put_role-b.auto.out in
    let reached-3 = reached_more reached-2 1 c.put_bytes-c.ensures (lit≤ tt) c.put_bytes-c.auto.out in
    let reached-4 =
    reached_more reached-3 20 c.put_decimal-d.ensures (decimal-room c.args.state c.ranges.state.fits) c.put_decimal-d.auto.out in
    let reached-5 = reached_more reached-4 1 c.put_bytes-e.ensures (lit≤ tt) c.put_bytes-e.auto.out in
    room_left reached-5 (decimal-room c.args.count c.ranges.count.fits) (lit≤ tt) c.requires

pub put_bytes-requires : goal.put_bytes-requires
put_bytes-requires c =
    let reached-1 = reached_more (reached_none _ _) 2 c.put_bytes-a.ensures (lit≤ tt) c.put_bytes-a.auto.out in
    let reached-2 = reached_most reached-1 2 c.put_role-b.ensures c.put_role-b.auto.out in
    let reached-3 = reached_more reached-2 1 c.put_bytes-c.ensures (lit≤ tt) c.put_bytes-c.auto.out in
    let reached-4 =
    reached_more reached-3 20 c.put_decimal-d.ensures (decimal-room c.args.state c.ranges.state.fits) c.put_decimal-d.auto.out in
    let reached-5 = reached_more reached-4 1 c.put_bytes-e.ensures (lit≤ tt) c.put_bytes-e.auto.out in
    let reached-6 =
    reached_more reached-5 20 c.put_decimal-f.ensures (decimal-room c.args.count c.ranges.count.fits) c.put_decimal-f.auto.out in
    room_left reached-6 (le_refl 1) (lit≤ tt) c.requires

pub shape_of-out : goal.shape_of-out
shape_of-out c =
    let reached-1 = reached_more (reached_none _ _) 2 c.put_bytes-a.ensures (lit≤ tt) c.put_bytes-a.auto.out in
    let reached-2 = reached_most reached-1 2 c.put_role-b.ensures c.put_role-b.auto.out in
    let reached-3 = reached_more reached-2 1 c.put_bytes-c.ensures (lit≤ tt) c.put_bytes-c.auto.out in
    let reached-4 =
    reached_more reached-3 20 c.put_decimal-d.ensures (decimal-room c.args.state c.ranges.state.fits) c.put_decimal-d.auto.out in
    let reached-5 = reached_more reached-4 1 c.put_bytes-e.ensures (lit≤ tt) c.put_bytes-e.auto.out in
    let reached-6 =
    reached_more reached-5 20 c.put_decimal-f.ensures (decimal-room c.args.count c.ranges.count.fits) c.put_decimal-f.auto.out in
    let reached-7 = reached_more reached-6 1 c.put_bytes.ensures (lit≤ tt) c.put_bytes.auto.out in
    reached-7.sized

pub returns : goal.returns
returns c =
    let added =
    adds_line (text "S") (role_word (role_number c.args.role) ∷ decimal c.args.state ∷ decimal c.args.count ∷ [])
    (adds_both c.put_bytes-a.ensures
    (adds_both c.put_role-b.ensures.adds
    (adds_both c.put_bytes-c.ensures
    (adds_both c.put_decimal-d.ensures
    (adds_both c.put_bytes-e.ensures
    (adds_both c.put_decimal-f.ensures
    c.put_bytes.ensures)))))) in
    let reached-1 = reached_more (reached_none _ _) 2 c.put_bytes-a.ensures (lit≤ tt) c.put_bytes-a.auto.out in
    let reached-2 = reached_most reached-1 2 c.put_role-b.ensures c.put_role-b.auto.out in
    let reached-3 = reached_more reached-2 1 c.put_bytes-c.ensures (lit≤ tt) c.put_bytes-c.auto.out in
    let reached-4 =
    reached_more reached-3 20 c.put_decimal-d.ensures (decimal-room c.args.state c.ranges.state.fits) c.put_decimal-d.auto.out in
    let reached-5 = reached_more reached-4 1 c.put_bytes-e.ensures (lit≤ tt) c.put_bytes-e.auto.out in
    let reached-6 =
    reached_more reached-5 20 c.put_decimal-f.ensures (decimal-room c.args.count c.ranges.count.fits) c.put_decimal-f.auto.out in
    let reached-7 = reached_more reached-6 1 c.put_bytes.ensures (lit≤ tt) c.put_bytes.auto.out in
    reached-line reached-7 (lit≤ tt) added
