-- `catch_lines::put_group` meets its contract.
use mathlib.Core.List.{[], ◌∷◌}
use native.Mathlib.Nat.{le_refl}
use lib.Dec.{lit≤}
use Rattle.catch_text.specs.Text.{text, decimal}
use Rattle.catch_text.proofs.Adding.{adds_both}
use Rattle.catch_text.proofs.Decimal.{decimal-room}
use Rattle.catch_fields.specs.Fields.{strand_word}
use Rattle.catch_lines.proofs.Lining.{reached_none, reached_more, reached_most, reached_name, room-behind, room_name, reached-named, adds_line}
use Rattle.catch_lines.proofs.put_group.Goals as goal

pub put_bytes-b-requires : goal.put_bytes-b-requires
put_bytes-b-requires c =
    let reached-1 = reached_more (reached_none _ _) 2 c.put_bytes-a.ensures (lit≤ tt) c.put_bytes-a.auto.out in
    room_name reached-1 (lit≤ tt) _ c.requires

pub put_bytes-c-requires : goal.put_bytes-c-requires
put_bytes-c-requires c =
    let reached-1 = reached_more (reached_none _ _) 2 c.put_bytes-a.ensures (lit≤ tt) c.put_bytes-a.auto.out in
    let reached-2 = reached_name reached-1 c.put_bytes-b.ensures c.put_bytes-b.auto.out in
    room-behind reached-2 (le_refl 1) (lit≤ tt) c.requires

pub put_decimal-d-requires : goal.put_decimal-d-requires
put_decimal-d-requires c =
    let reached-1 = reached_more (reached_none _ _) 2 c.put_bytes-a.ensures (lit≤ tt) c.put_bytes-a.auto.out in
    let reached-2 = reached_name reached-1 c.put_bytes-b.ensures c.put_bytes-b.auto.out in
    let reached-3 = reached_more reached-2 1 c.put_bytes-c.ensures (lit≤ tt) c.put_bytes-c.auto.out in
    room-behind reached-3 (decimal-room c.args.start c.ranges.start.fits) (lit≤ tt) c.requires

pub put_bytes-e-requires : goal.put_bytes-e-requires
put_bytes-e-requires c =
    let reached-1 = reached_more (reached_none _ _) 2 c.put_bytes-a.ensures (lit≤ tt) c.put_bytes-a.auto.out in
    let reached-2 = reached_name reached-1 c.put_bytes-b.ensures c.put_bytes-b.auto.out in
    let reached-3 = reached_more reached-2 1 c.put_bytes-c.ensures (lit≤ tt) c.put_bytes-c.auto.out in
    let reached-4 =
    reached_more reached-3 20 c.put_decimal-d.ensures (decimal-room c.args.start c.ranges.start.fits) c.put_decimal-d.auto.out in
    room-behind reached-4 (le_refl 1) (lit≤ tt) c.requires

pub put_decimal-f-requires : goal.put_decimal-f-requires
put_decimal-f-requires c =
    let reached-1 = reached_more (reached_none _ _) 2 c.put_bytes-a.ensures (lit≤ tt) c.put_bytes-a.auto.out in
    let reached-2 = reached_name reached-1 c.put_bytes-b.ensures c.put_bytes-b.auto.out in
    let reached-3 = reached_more reached-2 1 c.put_bytes-c.ensures (lit≤ tt) c.put_bytes-c.auto.out in
    let reached-4 =
    reached_more reached-3 20 c.put_decimal-d.ensures (decimal-room c.args.start c.ranges.start.fits) c.put_decimal-d.auto.out in
    let reached-5 = reached_more reached-4 1 c.put_bytes-e.ensures (lit≤ tt) c.put_bytes-e.auto.out in
    room-behind reached-5 (decimal-room c.args.end c.ranges.end.fits) (lit≤ tt) c.requires

pub put_bytes-g-requires : goal.put_bytes-g-requires
put_bytes-g-requires c =
    let reached-1 = reached_more (reached_none _ _) 2 c.put_bytes-a.ensures (lit≤ tt) c.put_bytes-a.auto.out in
    let reached-2 = reached_name reached-1 c.put_bytes-b.ensures c.put_bytes-b.auto.out in
    let reached-3 = reached_more reached-2 1 c.put_bytes-c.ensures (lit≤ tt) c.put_bytes-c.auto.out in
    let reached-4 =
    reached_more reached-3 20 c.put_decimal-d.ensures (decimal-room c.args.start c.ranges.start.fits) c.put_decimal-d.auto.out in
    let reached-5 = reached_more reached-4 1 c.put_bytes-e.ensures (lit≤ tt) c.put_bytes-e.auto.out in
    let reached-6 =
    reached_more reached-5 20 c.put_decimal-f.ensures (decimal-room c.args.end c.ranges.end.fits) c.put_decimal-f.auto.out in
    room-behind reached-6 (le_refl 1) (lit≤ tt) c.requires

pub put_strand-h-requires : goal.put_strand-h-requires
put_strand-h-requires c =
    let reached-1 = reached_more (reached_none _ _) 2 c.put_bytes-a.ensures (lit≤ tt) c.put_bytes-a.auto.out in
    let reached-2 = reached_name reached-1 c.put_bytes-b.ensures c.put_bytes-b.auto.out in
    let reached-3 = reached_more reached-2 1 c.put_bytes-c.ensures (lit≤ tt) c.put_bytes-c.auto.out in
    let reached-4 =
    reached_more reached-3 20 c.put_decimal-d.ensures (decimal-room c.args.start c.ranges.start.fits) c.put_decimal-d.auto.out in
    let reached-5 = reached_more reached-4 1 c.put_bytes-e.ensures (lit≤ tt) c.put_bytes-e.auto.out in
    let reached-6 =
    reached_more reached-5 20 c.put_decimal-f.ensures (decimal-room c.args.end c.ranges.end.fits) c.put_decimal-f.auto.out in
    let reached-7 = reached_more reached-6 1 c.put_bytes-g.ensures (lit≤ tt) c.put_bytes-g.auto.out in
    room-behind reached-7 (le_refl 1) (lit≤ tt) c.requires

pub put_bytes-requires : goal.put_bytes-requires
put_bytes-requires c =
    let reached-1 = reached_more (reached_none _ _) 2 c.put_bytes-a.ensures (lit≤ tt) c.put_bytes-a.auto.out in
    let reached-2 = reached_name reached-1 c.put_bytes-b.ensures c.put_bytes-b.auto.out in
    let reached-3 = reached_more reached-2 1 c.put_bytes-c.ensures (lit≤ tt) c.put_bytes-c.auto.out in
    let reached-4 =
    reached_more reached-3 20 c.put_decimal-d.ensures (decimal-room c.args.start c.ranges.start.fits) c.put_decimal-d.auto.out in
    let reached-5 = reached_more reached-4 1 c.put_bytes-e.ensures (lit≤ tt) c.put_bytes-e.auto.out in
    let reached-6 =
    reached_more reached-5 20 c.put_decimal-f.ensures (decimal-room c.args.end c.ranges.end.fits) c.put_decimal-f.auto.out in
    let reached-7 = reached_more reached-6 1 c.put_bytes-g.ensures (lit≤ tt) c.put_bytes-g.auto.out in
    let reached-8 = reached_most reached-7 1 c.put_strand-h.ensures c.put_strand-h.auto.out in
    room-behind reached-8 (le_refl 1) (lit≤ tt) c.requires

pub shape_of-out : goal.shape_of-out
shape_of-out c =
    let reached-1 = reached_more (reached_none _ _) 2 c.put_bytes-a.ensures (lit≤ tt) c.put_bytes-a.auto.out in
    let reached-2 = reached_name reached-1 c.put_bytes-b.ensures c.put_bytes-b.auto.out in
    let reached-3 = reached_more reached-2 1 c.put_bytes-c.ensures (lit≤ tt) c.put_bytes-c.auto.out in
    let reached-4 =
    reached_more reached-3 20 c.put_decimal-d.ensures (decimal-room c.args.start c.ranges.start.fits) c.put_decimal-d.auto.out in
    let reached-5 = reached_more reached-4 1 c.put_bytes-e.ensures (lit≤ tt) c.put_bytes-e.auto.out in
    let reached-6 =
    reached_more reached-5 20 c.put_decimal-f.ensures (decimal-room c.args.end c.ranges.end.fits) c.put_decimal-f.auto.out in
    let reached-7 = reached_more reached-6 1 c.put_bytes-g.ensures (lit≤ tt) c.put_bytes-g.auto.out in
    let reached-8 = reached_most reached-7 1 c.put_strand-h.ensures c.put_strand-h.auto.out in
    let reached-9 = reached_more reached-8 1 c.put_bytes.ensures (lit≤ tt) c.put_bytes.auto.out in
    reached-9.sized

pub returns : goal.returns
returns c =
    let added =
    adds_line (text "G") (c.args.name.now ∷ decimal c.args.start ∷ decimal c.args.end ∷ strand_word c.args.strand ∷ [])
    (adds_both c.put_bytes-a.ensures
    (adds_both c.put_bytes-b.ensures
    (adds_both c.put_bytes-c.ensures
    (adds_both c.put_decimal-d.ensures
    (adds_both c.put_bytes-e.ensures
    (adds_both c.put_decimal-f.ensures
    (adds_both c.put_bytes-g.ensures
    (adds_both c.put_strand-h.ensures.adds
    c.put_bytes.ensures)))))))) in
    let reached-1 = reached_more (reached_none _ _) 2 c.put_bytes-a.ensures (lit≤ tt) c.put_bytes-a.auto.out in
    let reached-2 = reached_name reached-1 c.put_bytes-b.ensures c.put_bytes-b.auto.out in
    let reached-3 = reached_more reached-2 1 c.put_bytes-c.ensures (lit≤ tt) c.put_bytes-c.auto.out in
    let reached-4 =
    reached_more reached-3 20 c.put_decimal-d.ensures (decimal-room c.args.start c.ranges.start.fits) c.put_decimal-d.auto.out in
    let reached-5 = reached_more reached-4 1 c.put_bytes-e.ensures (lit≤ tt) c.put_bytes-e.auto.out in
    let reached-6 =
    reached_more reached-5 20 c.put_decimal-f.ensures (decimal-room c.args.end c.ranges.end.fits) c.put_decimal-f.auto.out in
    let reached-7 = reached_more reached-6 1 c.put_bytes-g.ensures (lit≤ tt) c.put_bytes-g.auto.out in
    let reached-8 = reached_most reached-7 1 c.put_strand-h.ensures c.put_strand-h.auto.out in
    let reached-9 = reached_more reached-8 1 c.put_bytes.ensures (lit≤ tt) c.put_bytes.auto.out in
    reached-named reached-9 (lit≤ tt) added
