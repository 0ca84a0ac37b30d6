-- The invariant of `copy_records`: the columns hold the fields of the first i records.
use Rattle.std.proofs.Common.{◌≡◌}
use Rattle.record_copy.specs.declared.SeedPosting.{SeedPosting}
use Rattle.record_copy.proofs.Filling.{filled}
use Rattle.record_copy.proofs.copy_records.Given as goal

abbrev pub invariant-loop-i : goal.invariant-loop-i
invariant-loop-i l =
    record {
      keys : l.keys ≡ filled (λ (p : SeedPosting). p.key) l.records l.initial.keys l.i;
      ranks : l.ranks ≡ filled (λ (p : SeedPosting). p.rank) l.records l.initial.ranks l.i;
      positions : l.positions ≡ filled (λ (p : SeedPosting). p.position) l.records l.initial.positions l.i;
    }
