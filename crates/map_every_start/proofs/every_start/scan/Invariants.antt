-- `map_every_start::every_start::scan` meets its contract. The invariant: `RanksTo`, the sequences so far were searched.
use Rattle.index_model.specs.Index.{ranked_sequences}
use Rattle.map_every_start.proofs.Scanning.{RanksTo}
use Rattle.map_every_start.proofs.every_start.scan.Given as goal

abbrev pub invariant-loop-rank : goal.invariant-loop-rank
invariant-loop-rank l = RanksTo (ranked_sequences l.targets.bases.now l.targets.ends.now l.targets.ranked.now) l.targets.ranked.now l.read l.bound l.initial.entries l.rank l.tally.comparisons l.tally.seen l.entries
