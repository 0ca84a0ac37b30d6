use native.Mathlib.Omega.{arith}
use Rattle.index_seeds.proofs.Keying.{digits_next}
use Rattle.index_seeds.proofs.keys.key_from.Goals as goal

pub overflow_mul-key : goal.overflow_mul-key
overflow_mul-key c =
    let d = digits_next c.args.strand c.args.sequence.now c.args.start c.args.q _ _ c.requires.seed_in c.loop-i.invariant c.loop-i-test.true _ c.oriented_code-code.ensures in
    omega (arith, d.room, d.small)

pub overflow_add-key : goal.overflow_add-key
overflow_add-key c =
    let d = digits_next c.args.strand c.args.sequence.now c.args.start c.args.q _ _ c.requires.seed_in c.loop-i.invariant c.loop-i-test.true _ c.oriented_code-code.ensures in
    omega (arith, d.room, d.small)

pub loop-i-preserved : goal.loop-i-preserved
loop-i-preserved c =
    let d = digits_next c.args.strand c.args.sequence.now c.args.start c.args.q _ _ c.requires.seed_in c.loop-i.invariant c.loop-i-test.true _ c.oriented_code-code.ensures in
    record { inside = omega (arith, d.next.inside); digits = omega (arith, d.next.digits) }
