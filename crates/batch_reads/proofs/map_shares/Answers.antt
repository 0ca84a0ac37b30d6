use mathlib.Core.Path.{sym, subst}
use native.Mathlib.Omega.{arith}
use Rattle.index_lookup.specs.Range.{Rising}
use Rattle.index_model.specs.Index.{ranked_sequences}
use Rattle.index_model.proofs.Hits.{index_rising}
use Rattle.batch_reads.proofs.Sharing.{shares_next, shares_end}
use Rattle.batch_reads.proofs.map_shares.Goals as goal

pub approach-requires : goal.approach-requires
approach-requires c =
    let a = c.args in
    record {
      rising = subst Rising (sym c.requires.mappable.0.indexed.keys) (index_rising a.q (ranked_sequences a.targets.bases.now a.targets.ends.now a.targets.ranked.now));
      lent = record { seed = c.requires.mappable.0.seed; right = c.requires.mappable.1; inside = omega (arith, c.loop-i-test.true) };
    }

pub loop-i-preserved : goal.loop-i-preserved
loop-i-preserved c =
    let a = c.args in
    let ss = ranked_sequences a.targets.bases.now a.targets.ends.now a.targets.ranked.now in
    let l = c.loop-i in
    let m = c.map_share-answer in
    shares_next a.q ss a.targets.ranked.now a.limit a.reads.now a.read_ends.now a.share a.rows.now a.entries.now l.i l.rows l.entries l.invariant (omega (arith, c.loop-i-test.true)) c.requires.rows_len.0 c.requires.rows_len.1 _ m.result _ m.new.entries c.sequence_at-read.ensures m.ensures c.write_row.ensures

pub returns : goal.returns
returns c =
    let a = c.args in
    let ss = ranked_sequences a.targets.bases.now a.targets.ends.now a.targets.ranked.now in
    let l = c.loop-i in
    shares_end a.q ss a.targets.ranked.now a.limit a.reads.now a.read_ends.now a.share a.rows.now a.entries.now l.i l.rows l.entries l.invariant (omega (arith, c.loop-i-test.false))
