use mathlib.Core.Path.{ap}
use mathlib.Core.List.{[]}
use Prim.Native.Nat.{◌+◌, ◌≤◌}
use lib.ListN.{length, get_or}
use native.Mathlib.Omega.{arith}
use Rattle.index_model.specs.Index.{ranked_sequences}
use Rattle.index_model.proofs.Sequencing.{ranked_length}
use Rattle.map_every_start.proofs.Scanning.{starts_going, starts-stop, starts_more}
use Rattle.map_every_start.proofs.Visiting.{fit_start}
use Rattle.map_every_start.proofs.every_start.scan_sequence.Goals as goal

pub visit_both-so_far-requires-clause-fits_at : goal.visit_both-so_far-requires-clause-fits_at
visit_both-so_far-requires-clause-fits_at c =
    let a = c.args in
    let ss = ranked_sequences a.targets.bases.now a.targets.ends.now a.targets.ranked.now in
    let long = ranked_length a.targets.bases.now a.targets.ends.now a.targets.ranked.now c.requires.searchable.lent a.rank c.requires.rank_in_bounds.0 in
    let fits : c.loop-start.start + length a.read.now ≤ length (get_or ss a.rank []) = omega (arith, c.loop-start-test.true, ap length c.ranked_sequence-sequence.ensures) in
    (fit_start a.targets.bases.now a.targets.ends.now a.targets.ranked.now _ _ _ c.requires.rank_in_bounds.0 _ c.ranked_sequence-sequence.ensures (omega (arith, c.loop-start-test.true)), starts_going ss a.targets.ranked.now a.read.now a.bound a.rank _ _ a.entries.now c.requires.rank_in_bounds.1 long _ _ _ _ c.loop-start.invariant fits)

pub returns-then-bound-so_far : goal.returns-then-bound-so_far
returns-then-bound-so_far c =
    let a = c.args in
    let ss = ranked_sequences a.targets.bases.now a.targets.ends.now a.targets.ranked.now in
    let long = ranked_length a.targets.bases.now a.targets.ends.now a.targets.ranked.now c.requires.searchable.lent a.rank c.requires.rank_in_bounds.0 in
    let fits : c.loop-start.start + length a.read.now ≤ length (get_or ss a.rank []) = omega (arith, c.loop-start-test.true, ap length c.ranked_sequence-sequence.ensures) in
    starts-stop ss a.targets.ranked.now a.read.now a.bound a.rank _ _ a.entries.now c.requires.rank_in_bounds.1 long _ _ _ _ c.loop-start.invariant fits _ _ _ c.visit_both-so_far.ensures (omega (arith, c.if-bound-so_far.true))

pub loop-start-preserved : goal.loop-start-preserved
loop-start-preserved c =
    let a = c.args in
    let ss = ranked_sequences a.targets.bases.now a.targets.ends.now a.targets.ranked.now in
    let long = ranked_length a.targets.bases.now a.targets.ends.now a.targets.ranked.now c.requires.searchable.lent a.rank c.requires.rank_in_bounds.0 in
    let fits : c.loop-start.start + length a.read.now ≤ length (get_or ss a.rank []) = omega (arith, c.loop-start-test.true, ap length c.ranked_sequence-sequence.ensures) in
    starts_more ss a.targets.ranked.now a.read.now a.bound a.rank _ _ a.entries.now c.requires.rank_in_bounds.1 long _ _ _ _ c.loop-start.invariant fits _ _ _ c.visit_both-so_far.ensures (omega (arith, c.if-bound-so_far.false))
