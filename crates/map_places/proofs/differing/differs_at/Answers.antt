-- `map_places::differing::differs_at` meets its contract: one base that differs is enough.
use mathlib.Core.Path.{◌≡◌, sym, ◌∙◌}
use Prim.Native.Nat.{◌+◌, ◌-◌}
use native.Mathlib.Omega.{arith}
use borrow.Author.Tests.{not-true}
use Rattle.lists.proofs.Every.{every_at}
use Rattle.bases.specs.Base.{is_capital}
use Rattle.bases.proofs.Bytes.{letter_capital}
use Rattle.map_places.proofs.Comparing.{compared_differs}
use Rattle.map_places.proofs.differing.differs_at.Goals as goal

pub oriented_agrees-requires : goal.oriented_agrees-requires
oriented_agrees-requires c =
    record {
      inside = omega (arith, c.if-read-i.false);
      letter_right = letter_capital _ (every_at is_capital 0 c.args.sequence.now c.requires.capitals _ (omega (arith, c.requires.fits, c.if-read-i.false, c.if-place-start.false)));
      letters_right = c.requires.letters;
    }

pub returns : goal.returns
returns c =
    let a = c.args in
    let there : a.start + (a.place - a.start) ≡ a.place = omega (arith, c.if-place-start.false) in
    λ e. compared_differs a.sequence.now a.start a.read.now a.strand c.requires (a.place - a.start) (omega (arith, c.if-read-i.false)) (rw there (sym c.oriented_agrees.ensures ∙ not-true _ e))
