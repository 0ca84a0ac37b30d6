-- `catch_lines::put_run` meets its contract.
use mathlib.Core.List.{◌∷◌}
use native.Mathlib.Nat.{le_refl}
use lib.Dec.{lit≤}
use Rattle.catch_text.specs.Text.{text}
use Rattle.catch_text.proofs.Adding.{adds_both}
use Rattle.audit_model.specs.Sheet.{status_word}
use Rattle.catch_fields.specs.Fields.{total_words}
use Rattle.catch_lines.proofs.Lining.{reached_none, reached_more, reached_most, room_left, reached-line, adds_line, adds_last}
use Rattle.catch_lines.proofs.put_run.Goals as goal

pub put_status-b-requires : goal.put_status-b-requires
put_status-b-requires c =
    let reached-1 = reached_more (reached_none _ _) 2 c.put_bytes-a.ensures (lit≤ tt) c.put_bytes-a.auto.out in
    room_left reached-1 (le_refl 41) (lit≤ tt) c.requires

pub put_totals-c-requires : goal.put_totals-c-requires
put_totals-c-requires c =
    let reached-1 = reached_more (reached_none _ _) 2 c.put_bytes-a.ensures (lit≤ tt) c.put_bytes-a.auto.out in
    let reached-2 = reached_most reached-1 41 c.put_status-b.ensures c.put_status-b.auto.out in
    room_left reached-2 (le_refl 63) (lit≤ tt) c.requires

pub put_bytes-requires : goal.put_bytes-requires
put_bytes-requires c =
    let reached-1 = reached_more (reached_none _ _) 2 c.put_bytes-a.ensures (lit≤ tt) c.put_bytes-a.auto.out in
    let reached-2 = reached_most reached-1 41 c.put_status-b.ensures c.put_status-b.auto.out in
    let reached-3 = reached_most reached-2 63 c.put_totals-c.ensures c.put_totals-c.auto.out in
    room_left reached-3 (le_refl 1) (lit≤ tt) c.requires

pub shape_of-out : goal.shape_of-out
shape_of-out c =
    let reached-1 = reached_more (reached_none _ _) 2 c.put_bytes-a.ensures (lit≤ tt) c.put_bytes-a.auto.out in
    let reached-2 = reached_most reached-1 41 c.put_status-b.ensures c.put_status-b.auto.out in
    let reached-3 = reached_most reached-2 63 c.put_totals-c.ensures c.put_totals-c.auto.out in
    let reached-4 = reached_more reached-3 1 c.put_bytes.ensures (lit≤ tt) c.put_bytes.auto.out in
    reached-4.sized

pub returns : goal.returns
returns c =
    let added =
    adds_line (text "A") (text (status_word c.args.shown.status) ∷ total_words c.args.shown.totals)
    (adds_both c.put_bytes-a.ensures
    (adds_both c.put_status-b.ensures.adds
    (adds_last (total_words c.args.shown.totals)
    (adds_both c.put_totals-c.ensures.adds
    c.put_bytes.ensures)))) in
    let reached-1 = reached_more (reached_none _ _) 2 c.put_bytes-a.ensures (lit≤ tt) c.put_bytes-a.auto.out in
    let reached-2 = reached_most reached-1 41 c.put_status-b.ensures c.put_status-b.auto.out in
    let reached-3 = reached_most reached-2 63 c.put_totals-c.ensures c.put_totals-c.auto.out in
    let reached-4 = reached_more reached-3 1 c.put_bytes.ensures (lit≤ tt) c.put_bytes.auto.out in
    reached-line reached-4 (lit≤ tt) added
