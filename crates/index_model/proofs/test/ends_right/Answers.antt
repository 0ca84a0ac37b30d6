-- `index_model::test::ends_right` meets its contract: no such rank, too short a sequence, too late a start, or the first or the last base decides.
use native.Mathlib.Omega.{arith}
use Rattle.index_model.specs.Index.{ranked_sequences}
use Rattle.index_model.proofs.Sequencing.{ranked_many}
use Rattle.index_model.proofs.Testing.{first_fits, by_first, by_last}
use Rattle.index_model.proofs.test.ends_right.Goals as goal

pub overflow_mul-oriented_code : goal.overflow_mul-oriented_code
overflow_mul-oriented_code c =
    record { fits = first_fits c.args.q c.requires.lent.1.0 _ _ _ c.oriented_code.ensures c.requires.lent.1.1 }

pub returns-then-key-oriented_code : goal.returns-then-key-oriented_code
returns-then-key-oriented_code c =
    let a = c.args in
    let ss = ranked_sequences a.targets.bases.now a.targets.ends.now a.targets.ranked.now in
    let z = ranked_many a.targets.bases.now a.targets.ends.now a.targets.ranked.now in
    let s = c.ranked_sequence-sequence in
    by_first a.q ss a.key a.rank a.position c.requires.lent.1.0.some (omega (arith, z, c.if-rank-targets.false)) s.result.now s.ensures (omega arith) _ _ c.oriented_code.ensures c.requires.lent.1.1 c.if-key-oriented_code.true

pub returns : goal.returns
returns c =
    let a = c.args in
    let ss = ranked_sequences a.targets.bases.now a.targets.ends.now a.targets.ranked.now in
    let z = ranked_many a.targets.bases.now a.targets.ends.now a.targets.ranked.now in
    let s = c.ranked_sequence-sequence in
    by_last a.q ss a.key a.rank a.position c.requires.lent.1.0.some (omega (arith, z, c.if-rank-targets.false)) s.result.now s.ensures (omega arith) c.requires.lent.0.capitals _ _ c.oriented_code-2.ensures (omega arith)
