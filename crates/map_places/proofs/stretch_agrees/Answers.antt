use mathlib.Core.Path.{sym, ap₂, ◌∙◌}
use mathlib.Core.Bool.{◌&&◌}
use native.Mathlib.Omega.{arith}
use Rattle.lists.proofs.Every.{every_at}
use Rattle.bases.specs.Base.{is_capital}
use Rattle.bases.proofs.Bytes.{letter_capital}
use Rattle.map_places.proofs.Comparing.{compared_next}
use Rattle.map_places.proofs.stretch_agrees.Goals as goal

pub oriented_agrees-agree-requires : goal.oriented_agrees-agree-requires
oriented_agrees-agree-requires c =
    record {
      inside = omega (arith, c.loop-i-test.true, c.requires.from_le_end.1.0);
      letter_right = letter_capital _ (every_at is_capital 0 c.args.sequence.now c.requires.laid.capitals _ (omega (arith, c.loop-i-test.true, c.requires.laid.fits, c.requires.from_le_end.1.0)));
      letters_right = c.requires.laid.letters;
    }

pub loop-i-preserved : goal.loop-i-preserved
loop-i-preserved c =
    let a = c.args in let l = c.loop-i in
    ap₂ (λ x y. x && y) l.invariant c.oriented_agrees-agree.ensures ∙ sym (compared_next a.sequence.now a.start a.read.now a.strand c.requires.laid l.i (omega (arith, c.loop-i-test.true, c.requires.from_le_end.1.0)))
