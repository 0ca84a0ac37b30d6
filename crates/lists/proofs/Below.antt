-- A test that antt computes at every number below a bound, turned into its fact at each.
use mathlib.Core.Path.{◌≡◌, ap, ◌∙◌}
use mathlib.Core.Bool.{Bool, true, ◌&&◌}
use mathlib.Core.Logic.{◌⊎◌, inl, inr}
use Prim.Native.Nat.{ℕ, zero, suc, ◌<◌}
use native.Mathlib.Omega.{arith}
use Rattle.lists.proofs.Cases.{and-true, compare}

-- the test passes at each number below n
abbrev pub passes_below : (ℕ → Bool) → ℕ → Bool
passes_below f zero = true
passes_below f (suc n) = f n && passes_below f n

pub passes_at : (f : ℕ → Bool) (n : ℕ) → passes_below f n ≡ true → (k : ℕ) → k < n → f k ≡ true
passes_at f zero t k h = absurd (omega arith)
passes_at f (suc n) t k h = go (and-true (f n) (passes_below f n) t) (compare k n) (λ r m. passes_at f n r k m)
  where
    go : (f n ≡ true) × (passes_below f n ≡ true) → (k < n) ⊎ ((k ≡ n) ⊎ (n < k)) → (passes_below f n ≡ true → k < n → f k ≡ true) → f k ≡ true
    go e (inl m) ih = ih e.1 m
    go e (inr (inl m)) ih = ap f m ∙ e.0
    go e (inr (inr m)) ih = absurd (omega arith)
