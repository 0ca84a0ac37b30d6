-- `catch_lines::put_refusal` meets its contract.
use mathlib.Core.List.{[], ◌∷◌}
use native.Mathlib.Nat.{le_refl}
use lib.Dec.{lit≤}
use Rattle.catch_text.specs.Text.{text, decimal}
use Rattle.catch_text.proofs.Adding.{adds_both}
use Rattle.catch_text.proofs.Decimal.{decimal-room}
use Rattle.catch_lines.proofs.Lining.{reached_none, reached_more, room_left, reached-line, adds_line}
use Rattle.catch_lines.proofs.put_refusal.Goals as goal

pub put_decimal-b-requires : goal.put_decimal-b-requires
put_decimal-b-requires g c =
    let reached-1 = reached_more (reached_none _ _) 2 c.put_bytes-a.ensures (lit≤ tt) c.put_bytes-a.auto.out in
    room_left reached-1 (decimal-room c.number.result c.number.type_inv) (lit≤ tt) c.requires

pub put_bytes-requires : goal.put_bytes-requires
put_bytes-requires g c =
    let reached-1 = reached_more (reached_none _ _) 2 c.put_bytes-a.ensures (lit≤ tt) c.put_bytes-a.auto.out in
    let reached-2 =
    reached_more reached-1 20 c.put_decimal-b.ensures (decimal-room c.number.result c.number.type_inv) c.put_decimal-b.auto.out in
    room_left reached-2 (le_refl 1) (lit≤ tt) c.requires

pub shape_of-out : goal.shape_of-out
shape_of-out g c =
    let reached-1 = reached_more (reached_none _ _) 2 c.put_bytes-a.ensures (lit≤ tt) c.put_bytes-a.auto.out in
    let reached-2 =
    reached_more reached-1 20 c.put_decimal-b.ensures (decimal-room c.number.result c.number.type_inv) c.put_decimal-b.auto.out in
    let reached-3 = reached_more reached-2 1 c.put_bytes.ensures (lit≤ tt) c.put_bytes.auto.out in
    reached-3.sized

pub returns : goal.returns
returns g c =
    let added =
    adds_line (text "E") (decimal c.number.result ∷ [])
    (adds_both c.put_bytes-a.ensures
    (adds_both c.put_decimal-b.ensures
    c.put_bytes.ensures)) in
    let reached-1 = reached_more (reached_none _ _) 2 c.put_bytes-a.ensures (lit≤ tt) c.put_bytes-a.auto.out in
    let reached-2 =
    reached_more reached-1 20 c.put_decimal-b.ensures (decimal-room c.number.result c.number.type_inv) c.put_decimal-b.auto.out in
    let reached-3 = reached_more reached-2 1 c.put_bytes.ensures (lit≤ tt) c.put_bytes.auto.out in
    rw (← c.number.ensures) (reached-line reached-3 (lit≤ tt) added)
