use Prim.Native.Nat.{◌<◌}
use lib.ListN.{length}
use native.Mathlib.Omega.{arith}
use Rattle.index_model.specs.Index.{ranked_sequences}
use Rattle.index_model.proofs.Sequencing.{ranked_many, ranked_length}
use Rattle.map_every_start.proofs.Scanning.{ranks_going, ranks_stop, ranks_more, ranks_all}
use Rattle.map_every_start.proofs.every_start.scan.Goals as goal

pub scan_sequence-tally-requires-clause-rank_in_bounds : goal.scan_sequence-tally-requires-clause-rank_in_bounds
scan_sequence-tally-requires-clause-rank_in_bounds c =
    let a = c.args in
    let ss = ranked_sequences a.targets.bases.now a.targets.ends.now a.targets.ranked.now in
    let many = ranked_many a.targets.bases.now a.targets.ends.now a.targets.ranked.now in
    let below : c.loop-rank.rank < length ss = omega (arith, many, c.loop-rank-test.true) in
    (c.loop-rank-test.true, ranks_going ss a.targets.ranked.now a.read.now a.bound a.entries.now c.requires.1 (omega (arith, many, c.requires.0.lent.few)) _ _ _ _ c.loop-rank.invariant below)

pub returns-then-bound-tally : goal.returns-then-bound-tally
returns-then-bound-tally c =
    let a = c.args in
    let ss = ranked_sequences a.targets.bases.now a.targets.ends.now a.targets.ranked.now in
    let many = ranked_many a.targets.bases.now a.targets.ends.now a.targets.ranked.now in
    let below : c.loop-rank.rank < length ss = omega (arith, many, c.loop-rank-test.true) in
    let long = ranked_length a.targets.bases.now a.targets.ends.now a.targets.ranked.now c.requires.0.lent _ c.loop-rank-test.true in
    ranks_stop ss a.targets.ranked.now a.read.now a.bound a.entries.now c.requires.1 (omega (arith, many, c.requires.0.lent.few)) _ _ _ _ c.loop-rank.invariant below long _ _ _ c.scan_sequence-tally.ensures (omega (arith, c.if-bound-tally.true))

pub loop-rank-preserved : goal.loop-rank-preserved
loop-rank-preserved c =
    let a = c.args in
    let ss = ranked_sequences a.targets.bases.now a.targets.ends.now a.targets.ranked.now in
    let many = ranked_many a.targets.bases.now a.targets.ends.now a.targets.ranked.now in
    let below : c.loop-rank.rank < length ss = omega (arith, many, c.loop-rank-test.true) in
    let long = ranked_length a.targets.bases.now a.targets.ends.now a.targets.ranked.now c.requires.0.lent _ c.loop-rank-test.true in
    ranks_more ss a.targets.ranked.now a.read.now a.bound a.entries.now c.requires.1 (omega (arith, many, c.requires.0.lent.few)) _ _ _ _ c.loop-rank.invariant below long _ _ _ c.scan_sequence-tally.ensures (omega (arith, c.if-bound-tally.false))

pub returns : goal.returns
returns c =
    let a = c.args in let ss = ranked_sequences a.targets.bases.now a.targets.ends.now a.targets.ranked.now in
    let many = ranked_many a.targets.bases.now a.targets.ends.now a.targets.ranked.now in
    ranks_all ss a.targets.ranked.now a.read.now a.bound a.entries.now c.requires.1 (omega (arith, many, c.requires.0.lent.few)) _ _ _ _ c.loop-rank.invariant (omega (arith, many, c.loop-rank-test.false))
