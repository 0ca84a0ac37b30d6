use native.Mathlib.Omega.{arith}
use Rattle.index_seeds.proofs.Keying.{digits_start}
use Rattle.index_seeds.proofs.Capitals.{fours_room, fours_next}
use Rattle.index_seeds.proofs.fours.key_of_fours.Goals as goal

pub loop-k-init : goal.loop-k-init
loop-k-init c = digits_start _ _ _

pub overflow_mul-key : goal.overflow_mul-key
overflow_mul-key c =
    record { fits = omega (arith, fours_room c.args.sequence.now c.args.q c.args.start c.args.fours _ _ c.requires.seed_in c.requires.fours_in c.loop-k.invariant c.loop-k-test.true) }

pub overflow_add-key : goal.overflow_add-key
overflow_add-key c =
    record { fits = omega (arith, c.key_of_four.ensures, fours_room c.args.sequence.now c.args.q c.args.start c.args.fours _ _ c.requires.seed_in c.requires.fours_in c.loop-k.invariant c.loop-k-test.true) }

pub loop-k-preserved : goal.loop-k-preserved
loop-k-preserved c =
    rw c.key_of_four.ensures (fours_next c.args.sequence.now c.args.q c.args.start c.args.fours _ _ c.requires.seed_in c.requires.fours_in c.loop-k.invariant c.loop-k-test.true)
