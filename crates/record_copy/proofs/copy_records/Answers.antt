use Rattle.std.proofs.Common.{arith, add-one}
use Rattle.record_copy.specs.declared.SeedPosting.{SeedPosting}
use Rattle.record_copy.proofs.Filling.{filled_next}
use Rattle.record_copy.proofs.copy_records.Goals as goal

pub loop-i-preserved : goal.loop-i-preserved
loop-i-preserved c =
    let v = c.loop-i.invariant in
    let s = c.put_row.ensures in
    record {
      keys = rw (s.keys, v.keys, add-one) (filled_next (λ (p : SeedPosting). p.key) c.args.records.now c.args.keys.now c.loop-i.i (omega arith) (omega arith));
      ranks = rw (s.ranks, v.ranks, add-one) (filled_next (λ (p : SeedPosting). p.rank) c.args.records.now c.args.ranks.now c.loop-i.i (omega arith) (omega arith));
      positions = rw (s.positions, v.positions, add-one) (filled_next (λ (p : SeedPosting). p.position) c.args.records.now c.args.positions.now c.loop-i.i (omega arith) (omega arith));
    }
