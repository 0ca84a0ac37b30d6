-- Bytes kept at the front of their buffer.
use mathlib.Core.Path.{◌≡◌, ◌∙◌}
use mathlib.Core.List.{List}
use Prim.Native.Nat.{ℕ, ◌+◌, ◌≤◌}
use native.Mathlib.Omega.{arith}
use borrow.Rule.Slice.PartMut.{put_mid, take_put}
use lib.ListN.{length}
use lib.Dec.{eqb}
use borrow.Author.Tests.{eqb-true, eq-eqb}
use Rattle.lists.proofs.Cases.{same_test}
use Rattle.catch_turns.specs.Turns.{Kept}

-- they stay there where others are put behind them
pub kept-behind : (b₀ : List ℕ) (from n : ℕ) (b : List ℕ) (a k : ℕ) (ys : List ℕ) → a ≡ n → Kept b₀ from b a → a ≤ length b → Kept b₀ from (put_mid a k b ys) n
kept-behind b₀ from n b a k ys e h fits = rw (← e) (take_put a k b ys fits ∙ h)

-- none was read exactly where no more are at hand
pub none_more : (n kept size : ℕ) → kept ≡ size → eqb n 0 ≡ eqb (kept + n) size
none_more n kept size e = same_test (λ t. eq-eqb (kept + n) size (omega (arith, eqb-true n 0 t))) (λ t. eq-eqb n 0 (omega (arith, eqb-true (kept + n) size t)))
