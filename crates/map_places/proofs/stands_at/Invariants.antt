-- `map_places::stands_at` meets its contract. The invariant: the bases before i agree.
use mathlib.Core.Path.{◌≡◌}
use mathlib.Core.Bool.{true}
use Prim.Native.Nat.{◌-◌, ◌≤◌}
use lib.ListN.{length}
use Rattle.map_places.specs.Place.{stands_to}
use Rattle.map_places.proofs.stands_at.Given as goal

abbrev pub invariant-loop-i : goal.invariant-loop-i
invariant-loop-i l = (l.i ≤ length l.read) × (stands_to l.i l.sequence l.start l.read l.strand ≡ true)

abbrev pub decreases-loop-i : goal.decreases-loop-i
decreases-loop-i l = length l.read - l.i
