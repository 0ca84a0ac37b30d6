-- Rows written one after the other: refusals, and the rows of two reads.
use mathlib.Core.Path.{◌≡◌, refl, ap, ap₂, ◌∙◌}
use mathlib.Core.List.{List, [], ◌∷◌, ◌++◌}
use Prim.Native.Nat.{ℕ, zero, suc, ◌+◌, ◌*◌, ◌<◌, ◌≤◌}
use native.Mathlib.Omega.{arith}
use native.Mathlib.Numerals.{add-one}
use lib.ListN.{length}
use Rattle.promises.specs.Refusal.{refused, accepted}
use Rattle.buffers.specs.Placed.{placed}
use Rattle.buffers.proofs.Storing.{placed-placed}
use Rattle.map_answers.specs.Answer.{Row}
use Rattle.batch_rows.specs.Rows.{row_numbers}
use Rattle.batch_lists.specs.Listed.{refused_rows, rows_in}

pub refused_long : (k n : ℕ) → length (refused_rows k n) ≡ 8 * n
refused_long k zero = refl
refused_long k (suc n) = omega (arith, refused_long k n)

-- room for the refusals of n reads
pub refused_room : (at n k most : ℕ) → 8 * at + length (refused_rows k n) ≤ most → 8 * (at + n) ≤ most
refused_room at n k most h = omega (arith, refused_long k n)

-- one row more, at the end
refused_snoc : (k n : ℕ) → refused_rows k n ++ row_numbers (refused k) ≡ refused_rows k (suc n)
refused_snoc k zero = refl
refused_snoc k (suc n) = ap (λ l. row_numbers (refused k) ++ l) (refused_snoc k n)

-- one refusal more is written, behind i of n, from the row `at` on
pub refusing_next : (at n k : ℕ) (b : List ℕ) (i : ℕ) (now : List ℕ) → now ≡ placed (8 * at) (refused_rows k i) b → i < n → 8 * (at + n) ≤ length b
    → (next : List ℕ) → next ≡ placed (8 * (at + i)) (row_numbers (refused k)) now → next ≡ placed (8 * at) (refused_rows k (i + 1)) b
refusing_next at n k b i now r h room next e =
    let there : 8 * (at + i) ≡ 8 * at + length (refused_rows k i) = omega (arith, refused_long k i) in
    e ∙ ap₂ (λ m l. placed m (row_numbers (refused k)) l) there r ∙ placed-placed (8 * at) (refused_rows k i) b (row_numbers (refused k)) (omega (arith, refused_long k i))
    ∙ rw add-one (ap (λ l. placed (8 * at) l b) (refused_snoc k i))

-- the rows of two reads
pub two_put : (at : ℕ) (b b' b'' : List ℕ) (r s : Row) → at + 16 ≤ length b → b' ≡ placed at (row_numbers (accepted r)) b → b'' ≡ placed (at + 8) (row_numbers (accepted s)) b' → b'' ≡ placed at (rows_in (r ∷ s ∷ [])) b
two_put at b b' b'' r s h e f = f ∙ ap (placed (at + 8) (row_numbers (accepted s))) e ∙ placed-placed at (row_numbers (accepted r)) b (row_numbers (accepted s)) (omega arith)
