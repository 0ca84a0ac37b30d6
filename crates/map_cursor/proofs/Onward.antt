-- A cursor that was moved on stands no earlier than before.
use mathlib.Core.Path.{◌≡◌, refl}
use mathlib.Core.Bool.{Bool, true, false}
use mathlib.Core.List.{List}
use Prim.Native.Nat.{ℕ, ◌≤◌}
use native.Mathlib.Omega.{arith}
use Rattle.map_candidates.specs.Cursor.{CursorIn, Taken}
use Rattle.map_candidates.specs.declared.cursor.OrientationCursor.{OrientationCursor}
use Rattle.map_candidates.specs.declared.cursor.Candidate.{Candidate}

pub went_on : (ss : List (List ℕ)) (n : ℕ) (rs os : List ℕ) (m : ℕ) (c : OrientationCursor) (r : Candidate)
    → CursorIn rs os m c.next c.end → Taken ss n rs os c r → c.next ≤ r.cursor.next
went_on ss n rs os m c r i t = go r.found refl
  where
    go : (b : Bool) → r.found ≡ b → c.next ≤ r.cursor.next
    go true e = omega (arith, t.moved.found_behind e)
    go false e = omega (arith, i.ordered, t.moved.none_end e)
