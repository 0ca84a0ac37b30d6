-- `map_by_index::by_index::search_index` meets its contract. The invariant: `Both`, two sides and what was compared.
use Prim.Native.Nat.{◌-◌, ◌*◌}
use Rattle.index_model.specs.Index.{ranked_sequences, max_starts}
use Rattle.map_by_index.proofs.Merging.{Both}
use Rattle.map_by_index.proofs.by_index.search_index.Given as goal

abbrev pub invariant-loop-plus_first : goal.invariant-loop-plus_first
invariant-loop-plus_first l =
    Both l.q (ranked_sequences l.targets.bases.now l.targets.ends.now l.targets.ranked.now) l.targets.ranked.now l.read l.bound l.plus l.minus l.initial.entries l.sides l.tally.comparisons l.tally.seen l.entries

abbrev pub decreases-loop-plus_first : goal.decreases-loop-plus_first
decreases-loop-plus_first l =
    2 * max_starts - l.tally.comparisons
