use native.Mathlib.Omega.{arith}
use Prim.Native.Nat.{◌+◌, ◌-◌}
use lib.ListN.{length}
use Rattle.bases.specs.Read.{oriented}
use Rattle.map_rarest_seed.proofs.Lending.{rising, show-lent, grows, offsets}
use Rattle.map_rarest_seed.proofs.Choosing.{choosing_first, choosing_none, choosing_all, choosing_passed, passed_all, passed_next}
use Rattle.map_rarest_seed.proofs.rarest_seed.Goals as goal

pub posting_range-range-requires : goal.posting_range-range-requires
posting_range-range-requires c = rising c.args.q c.args.targets.bases.now c.args.targets.ends.now c.args.targets.ranked.now c.args.index.keys.now c.args.index.ranks.now c.args.index.positions.now c.args.read.now c.requires

pub loop-o-init : goal.loop-o-init
loop-o-init c = choosing_first c.args.index.keys.now c.args.q (oriented c.args.strand c.args.read.now) (length c.args.read.now - c.args.q + 1) (omega arith) _ _ _ c.key_at.ensures c.posting_range-range.ensures

pub returns-then-best : goal.returns-then-best
returns-then-best c =
    let l = c.loop-o in
    choosing_none c.args.index.keys.now c.args.q (oriented c.args.strand c.args.read.now) (length c.args.read.now - c.args.q + 1) l.o l.range.start l.range.end l.best.offset l.best.start l.best.end l.best.lookups l.invariant (offsets c.args.q c.args.targets.bases.now c.args.targets.ends.now c.args.targets.ranked.now c.args.index.keys.now c.args.index.ranks.now c.args.index.positions.now c.args.read.now c.requires c.args.strand) (omega (arith, c.if-best.true))

pub shown-skip-requires : goal.shown-skip-requires
shown-skip-requires c =
    let l = c.loop-o in
    show-lent c.args.q c.args.targets.bases.now c.args.targets.ends.now c.args.targets.ranked.now c.args.index.keys.now c.args.index.ranks.now c.args.index.positions.now c.args.read.now c.requires l.o l.range.start l.range.end (length c.args.read.now - c.args.q + 1 - 1 - l.o) (omega (arith, l.invariant.looked.inside, c.requires.long)) c.args.strand l.invariant.here

pub returns-then-n-o : goal.returns-then-n-o
returns-then-n-o c =
    let l = c.loop-o in
    passed_all c.args.index.keys.now c.args.q (oriented c.args.strand c.args.read.now) (length c.args.read.now - c.args.q + 1) (l.o + c.shown-skip.result) _ _ _ _ (choosing_passed c.args.index.keys.now c.args.q (oriented c.args.strand c.args.read.now) (length c.args.read.now - c.args.q + 1) l.o l.range.start l.range.end l.best.offset l.best.start l.best.end l.best.lookups l.invariant (λ z. omega (arith, z, c.if-best.false)) c.shown-skip.result (omega (arith, c.shown-skip.ensures.few, l.invariant.looked.inside))
    (grows c.args.q c.args.targets.bases.now c.args.targets.ends.now c.args.targets.ranked.now c.args.index.keys.now c.args.index.ranks.now c.args.index.positions.now c.args.read.now c.requires l.o l.range.start l.range.end (length c.args.read.now - c.args.q + 1 - 1 - l.o) (omega (arith, l.invariant.looked.inside, c.requires.long)) c.args.strand l.invariant.here c.shown-skip.result c.shown-skip.ensures)
    _ _ _ _ c.counted-best.ensures)
    (offsets c.args.q c.args.targets.bases.now c.args.targets.ends.now c.args.targets.ranked.now c.args.index.keys.now c.args.index.ranks.now c.args.index.positions.now c.args.read.now c.requires c.args.strand) (omega (arith, c.if-n-o.true))

pub posting_range-range-requires-in-loop-o : goal.posting_range-range-requires-in-loop-o
posting_range-range-requires-in-loop-o c = rising c.args.q c.args.targets.bases.now c.args.targets.ends.now c.args.targets.ranked.now c.args.index.keys.now c.args.index.ranks.now c.args.index.positions.now c.args.read.now c.requires

pub loop-o-preserved : goal.loop-o-preserved
loop-o-preserved c =
    let l = c.loop-o in
    passed_next c.args.index.keys.now c.args.q (oriented c.args.strand c.args.read.now) (length c.args.read.now - c.args.q + 1) (l.o + c.shown-skip.result) _ _ _ _ (choosing_passed c.args.index.keys.now c.args.q (oriented c.args.strand c.args.read.now) (length c.args.read.now - c.args.q + 1) l.o l.range.start l.range.end l.best.offset l.best.start l.best.end l.best.lookups l.invariant (λ z. omega (arith, z, c.if-best.false)) c.shown-skip.result (omega (arith, c.shown-skip.ensures.few, l.invariant.looked.inside))
    (grows c.args.q c.args.targets.bases.now c.args.targets.ends.now c.args.targets.ranked.now c.args.index.keys.now c.args.index.ranks.now c.args.index.positions.now c.args.read.now c.requires l.o l.range.start l.range.end (length c.args.read.now - c.args.q + 1 - 1 - l.o) (omega (arith, l.invariant.looked.inside, c.requires.long)) c.args.strand l.invariant.here c.shown-skip.result c.shown-skip.ensures)
    _ _ _ _ c.counted-best.ensures)
    (l.o + (c.shown-skip.result + 1)) (omega arith) (omega (arith, c.if-n-o.false)) _ _ _ c.key_at-in-loop-o.ensures c.posting_range-range-in-loop-o.ensures _ _ _ _ c.or-best.ensures

pub returns : goal.returns
returns c =
    let l = c.loop-o in
    choosing_all c.args.index.keys.now c.args.q (oriented c.args.strand c.args.read.now) (length c.args.read.now - c.args.q + 1) l.o l.range.start l.range.end l.best.offset l.best.start l.best.end l.best.lookups l.invariant (offsets c.args.q c.args.targets.bases.now c.args.targets.ends.now c.args.targets.ranked.now c.args.index.keys.now c.args.index.ranks.now c.args.index.positions.now c.args.read.now c.requires c.args.strand) c.loop-o-test.false
