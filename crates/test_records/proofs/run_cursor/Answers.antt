-- `test_records::run_cursor` is safe and ends. What a cursor is moved along is written out: one target of capitals, and ranks that are 0.
use mathlib.Core.Path.{refl}
use mathlib.Core.List.{[], ◌∷◌}
use Prim.Native.Nat.{ℕ, zero, suc, ◌<◌}
use native.Mathlib.Omega.{arith}
use lib.ListN.{get_or}
use Rattle.bases.specs.Base.{is_capital}
use Rattle.test_records.proofs.run_cursor.Goals as goal

-- every rank is below 1
first_rank : (i : ℕ) → get_or (0 ∷ 0 ∷ 0 ∷ 0 ∷ 0 ∷ 0 ∷ []) i 0 < 1
first_rank zero = omega arith
first_rank (suc zero) = omega arith
first_rank (suc (suc zero)) = omega arith
first_rank (suc (suc (suc zero))) = omega arith
first_rank (suc (suc (suc (suc zero)))) = omega arith
first_rank (suc (suc (suc (suc (suc zero))))) = omega arith
first_rank (suc (suc (suc (suc (suc (suc i)))))) = omega arith

pub advanced-step-requires : goal.advanced-step-requires
unfolding is_capital
advanced-step-requires g c = (
  record { right = refl; total = refl; few = omega arith; places = refl; capitals = refl },
  record { ordered = omega arith; in_ranks = omega arith; in_positions = omega arith; ranked = λ i l. first_rank i },
)
