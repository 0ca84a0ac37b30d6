-- `map_every_start::every_start::scan_sequence` meets its contract. The invariant: `StartsTo`, the starts so far were searched.
use Rattle.index_model.specs.Index.{ranked_sequences}
use Rattle.map_every_start.proofs.Scanning.{StartsTo}
use Rattle.map_every_start.proofs.every_start.scan_sequence.Given as goal

abbrev pub invariant-loop-start : goal.invariant-loop-start
invariant-loop-start l = StartsTo (ranked_sequences l.targets.bases.now l.targets.ends.now l.targets.ranked.now) l.targets.ranked.now l.read l.bound l.rank l.initial.so_far.comparisons l.initial.so_far.seen l.initial.entries l.start l.so_far.comparisons l.so_far.seen l.entries
