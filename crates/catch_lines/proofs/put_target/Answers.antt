-- `catch_lines::put_target` meets its contract.
use mathlib.Core.List.{[], ◌∷◌, ◌++◌}
use native.Mathlib.Nat.{le_refl}
use lib.Dec.{lit≤}
use Rattle.catch_text.specs.Text.{text}
use Rattle.catch_text.proofs.Adding.{adds_both}
use Rattle.audit_model.specs.Sheet.{status_word}
use Rattle.catch_fields.specs.Fields.{total_words}
use Rattle.catch_lines.proofs.Lining.{reached_none, reached_more, reached_most, reached_name, room-behind, room_name, reached-named, adds_line, adds_fields}
use Rattle.catch_lines.proofs.put_target.Goals as goal

pub put_bytes-b-requires : goal.put_bytes-b-requires
put_bytes-b-requires c =
    let reached-1 = reached_more (reached_none _ _) 2 c.put_bytes-a.ensures (lit≤ tt) c.put_bytes-a.auto.out in
    room_name reached-1 (lit≤ tt) _ c.requires

pub put_totals-c-requires : goal.put_totals-c-requires
put_totals-c-requires c =
    let reached-1 = reached_more (reached_none _ _) 2 c.put_bytes-a.ensures (lit≤ tt) c.put_bytes-a.auto.out in
    let reached-2 = reached_name reached-1 c.put_bytes-b.ensures c.put_bytes-b.auto.out in
    room-behind reached-2 (le_refl 63) (lit≤ tt) c.requires

pub put_bytes-d-requires : goal.put_bytes-d-requires
put_bytes-d-requires c =
    let reached-1 = reached_more (reached_none _ _) 2 c.put_bytes-a.ensures (lit≤ tt) c.put_bytes-a.auto.out in
    let reached-2 = reached_name reached-1 c.put_bytes-b.ensures c.put_bytes-b.auto.out in
    let reached-3 = reached_most reached-2 63 c.put_totals-c.ensures c.put_totals-c.auto.out in
    room-behind reached-3 (le_refl 1) (lit≤ tt) c.requires

pub put_status-e-requires : goal.put_status-e-requires
put_status-e-requires c =
    let reached-1 = reached_more (reached_none _ _) 2 c.put_bytes-a.ensures (lit≤ tt) c.put_bytes-a.auto.out in
    let reached-2 = reached_name reached-1 c.put_bytes-b.ensures c.put_bytes-b.auto.out in
    let reached-3 = reached_most reached-2 63 c.put_totals-c.ensures c.put_totals-c.auto.out in
    let reached-4 = reached_more reached-3 1 c.put_bytes-d.ensures (lit≤ tt) c.put_bytes-d.auto.out in
    room-behind reached-4 (le_refl 41) (lit≤ tt) c.requires

pub put_bytes-requires : goal.put_bytes-requires
put_bytes-requires c =
    let reached-1 = reached_more (reached_none _ _) 2 c.put_bytes-a.ensures (lit≤ tt) c.put_bytes-a.auto.out in
    let reached-2 = reached_name reached-1 c.put_bytes-b.ensures c.put_bytes-b.auto.out in
    let reached-3 = reached_most reached-2 63 c.put_totals-c.ensures c.put_totals-c.auto.out in
    let reached-4 = reached_more reached-3 1 c.put_bytes-d.ensures (lit≤ tt) c.put_bytes-d.auto.out in
    let reached-5 = reached_most reached-4 41 c.put_status-e.ensures c.put_status-e.auto.out in
    room-behind reached-5 (le_refl 1) (lit≤ tt) c.requires

pub shape_of-out : goal.shape_of-out
shape_of-out c =
    let reached-1 = reached_more (reached_none _ _) 2 c.put_bytes-a.ensures (lit≤ tt) c.put_bytes-a.auto.out in
    let reached-2 = reached_name reached-1 c.put_bytes-b.ensures c.put_bytes-b.auto.out in
    let reached-3 = reached_most reached-2 63 c.put_totals-c.ensures c.put_totals-c.auto.out in
    let reached-4 = reached_more reached-3 1 c.put_bytes-d.ensures (lit≤ tt) c.put_bytes-d.auto.out in
    let reached-5 = reached_most reached-4 41 c.put_status-e.ensures c.put_status-e.auto.out in
    let reached-6 = reached_more reached-5 1 c.put_bytes.ensures (lit≤ tt) c.put_bytes.auto.out in
    reached-6.sized

pub returns : goal.returns
returns c =
    let added =
    adds_line (text "T") (c.args.name.now ∷ total_words c.args.shown.totals ++ text (status_word c.args.shown.status) ∷ [])
    (adds_both c.put_bytes-a.ensures
    (adds_both c.put_bytes-b.ensures
    (adds_fields (total_words c.args.shown.totals) (text (status_word c.args.shown.status) ∷ [])
    (adds_both c.put_totals-c.ensures.adds
    (adds_both c.put_bytes-d.ensures
    (adds_both c.put_status-e.ensures.adds
    c.put_bytes.ensures)))))) in
    let reached-1 = reached_more (reached_none _ _) 2 c.put_bytes-a.ensures (lit≤ tt) c.put_bytes-a.auto.out in
    let reached-2 = reached_name reached-1 c.put_bytes-b.ensures c.put_bytes-b.auto.out in
    let reached-3 = reached_most reached-2 63 c.put_totals-c.ensures c.put_totals-c.auto.out in
    let reached-4 = reached_more reached-3 1 c.put_bytes-d.ensures (lit≤ tt) c.put_bytes-d.auto.out in
    let reached-5 = reached_most reached-4 41 c.put_status-e.ensures c.put_status-e.auto.out in
    let reached-6 = reached_more reached-5 1 c.put_bytes.ensures (lit≤ tt) c.put_bytes.auto.out in
    reached-named reached-6 (lit≤ tt) added
