-- Numbers written one after the other at the front of a buffer.
use mathlib.Core.Path.{◌≡◌, refl}
use mathlib.Core.List.{List, [], ◌∷◌}
use Prim.Native.Nat.{ℕ, ◌≤◌}
use native.Mathlib.Omega.{arith}
use lib.ListN.{length, get_or, set}
use Rattle.buffers.specs.Placed.{placed}
use Rattle.buffers.proofs.Storing.{placed_next, placed_one}
use Rattle.promises.specs.Refusal.{Outcome, refused, accepted, number_of}
use Rattle.map_answers.specs.Answer.{Row}
use Rattle.batch_rows.specs.Rows.{row_numbers}

module _ (b : List ℕ) (a₀ a₁ : ℕ) where
  pub put_2 : 2 ≤ length b → set (set b 0 a₀) 1 a₁ ≡ placed 0 (a₀ ∷ a₁ ∷ []) b
  put_2 h = placed_next 0 (a₀ ∷ []) b _ a₁ 1 (omega arith) (placed_one 0 a₀ b (omega arith)) h

  pub put_3 : (a₂ : ℕ) → 3 ≤ length b → set (set (set b 0 a₀) 1 a₁) 2 a₂ ≡ placed 0 (a₀ ∷ a₁ ∷ a₂ ∷ []) b
  put_3 a₂ h = placed_next 0 (a₀ ∷ a₁ ∷ []) b _ a₂ 2 (omega arith) (put_2 (omega arith)) h

-- the first number of a row is its refusal
pub row_number : (o : Outcome Row) (b : List ℕ) → get_or (placed 0 (row_numbers o) b) 0 0 ≡ number_of o
row_number (refused n) b = refl
row_number (accepted a) b = refl
