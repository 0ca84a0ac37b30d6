-- Four numbers written one after the other.
use mathlib.Core.Path.{◌≡◌}
use mathlib.Core.List.{List, [], ◌∷◌}
use Prim.Native.Nat.{ℕ, ◌+◌, ◌≤◌}
use native.Mathlib.Omega.{arith}
use lib.ListN.{length, set}
use Rattle.buffers.specs.Placed.{placed}
use Rattle.buffers.proofs.Storing.{placed_next, placed_one}

pub four_put : (at : ℕ) (b : List ℕ) (t s e d : ℕ) → at + 4 ≤ length b → set (set (set (set b at t) (at + 1) s) (at + 2) e) (at + 3) d ≡ placed at (t ∷ s ∷ e ∷ d ∷ []) b
four_put at b t s e d h =
    let one = placed_one at t b (omega arith) in
    let two = placed_next at (t ∷ []) b _ s (at + 1) (omega arith) one (omega arith) in
    let three = placed_next at (t ∷ s ∷ []) b _ e (at + 2) (omega arith) two (omega arith) in
    placed_next at (t ∷ s ∷ e ∷ []) b _ d (at + 3) (omega arith) three (omega arith)
