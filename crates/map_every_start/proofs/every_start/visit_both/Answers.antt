-- `map_every_start::every_start::visit_both` meets its contract.
use native.Mathlib.Omega.{arith}
use Rattle.map_every_start.proofs.Going.{searched_on}
use Rattle.map_every_start.proofs.every_start.visit_both.Goals as goal

pub returns : goal.returns
returns c =
    let g = c.requires.fits_at.1 in
    searched_on _ _ _ _ _ _ _ _ _ _ _ g.within c.visit-forward.ensures (omega (arith, c.if-bound-forward.false)) g.room _ _ _ _ c.visit.ensures
