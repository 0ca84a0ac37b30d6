-- `map_skip::pass_side` meets its contract. The invariant: `Passing`, as many candidates as counted are passed over.
use Prim.Native.Nat.{◌-◌}
use Rattle.index_model.specs.Index.{ranked_sequences}
use Rattle.map_skip.proofs.Skipping.{Passing}
use Rattle.map_skip.proofs.pass_side.Given as goal

abbrev pub invariant-loop-start : goal.invariant-loop-start
invariant-loop-start l =
    Passing (ranked_sequences l.targets.bases.now l.targets.ends.now l.targets.ranked.now) l.read l.ranks l.positions l.first l.limit l.start l.i l.count

abbrev pub decreases-loop-start : goal.decreases-loop-start
decreases-loop-start l = l.first.cursor.end - l.i
