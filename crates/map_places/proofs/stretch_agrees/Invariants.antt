-- `map_places::stretch_agrees` meets its contract. The invariant: agree says whether the bases before i do.
use mathlib.Core.Path.{◌≡◌}
use Rattle.map_places.specs.Place.{stands_to}
use Rattle.map_places.proofs.stretch_agrees.Given as goal

abbrev pub invariant-loop-i : goal.invariant-loop-i
invariant-loop-i l = l.agree ≡ stands_to l.i l.sequence l.start l.read l.strand
