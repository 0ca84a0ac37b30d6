-- Eight numbers written into a buffer.
use mathlib.Core.Path.{◌≡◌, refl, ap, ◌∙◌}
use mathlib.Core.List.{List, [], ◌∷◌}
use Prim.Native.Nat.{ℕ, ◌+◌, ◌≤◌}
use native.Mathlib.Omega.{arith}
use lib.ListN.{length}
use Rattle.promises.specs.Refusal.{Outcome, refused, accepted}
use Rattle.buffers.specs.Placed.{placed}
use Rattle.buffers.proofs.Storing.{placed-placed}
use Rattle.map_answers.specs.Answer.{Row}
use Rattle.batch_rows.specs.Rows.{row_numbers}

pub row_long : (r : Outcome Row) → length (row_numbers r) ≡ 8
row_long (refused n) = refl
row_long (accepted a) = refl

-- eight numbers, written four by four
pub eight_put : (at : ℕ) (b b' b'' : List ℕ) (n1 n2 n3 n4 n5 n6 n7 n8 : ℕ) → at + 8 ≤ length b → b' ≡ placed at (n1 ∷ n2 ∷ n3 ∷ n4 ∷ []) b → b'' ≡ placed (at + 4) (n5 ∷ n6 ∷ n7 ∷ n8 ∷ []) b' → b'' ≡ placed at (n1 ∷ n2 ∷ n3 ∷ n4 ∷ n5 ∷ n6 ∷ n7 ∷ n8 ∷ []) b
eight_put at b b' b'' n1 n2 n3 n4 n5 n6 n7 n8 h e f = f ∙ ap (placed (at + 4) (n5 ∷ n6 ∷ n7 ∷ n8 ∷ [])) e ∙ placed-placed at (n1 ∷ n2 ∷ n3 ∷ n4 ∷ []) b (n5 ∷ n6 ∷ n7 ∷ n8 ∷ []) (omega arith)
