-- Consecutive numbers: which they are, and two lists of them joined.
use mathlib.Core.Path.{◌≡◌, ap}
use mathlib.Core.Logic.{inl, inr}
use mathlib.Core.List.{◌∷◌, ◌++◌}
use Prim.Native.Nat.{ℕ, zero, suc, ◌+◌, ◌<◌, ◌≤◌}
use native.Mathlib.Omega.{arith}
use native.Mathlib.Nat.{add-zero, zero-add, suc-add, add-suc}
use lib.Dec.{eqb}
use borrow.Author.Tests.{eqb-true, eqb-false}
use Rattle.lists.specs.Member.{◌∈◌}
use Rattle.lists.specs.Numbers.{numbers}
use Rattle.lists.proofs.Cases.{by_test}

pub numbers-∈ : (k n x : ℕ) → x ∈ numbers k n → (k ≤ x) × (x < k + n)
numbers-∈ k zero x x3 = elim x3 [ ]
numbers-∈ k (suc n) x (inl e) = (omega arith, omega arith)
numbers-∈ k (suc n) x (inr m) = let h = numbers-∈ (suc k) n x m in (omega arith, omega arith)

pub ∈-numbers : (k n x : ℕ) → k ≤ x → x < k + n → x ∈ numbers k n
∈-numbers k zero x h l = absurd (omega arith)
∈-numbers k (suc n) x h l = by_test (eqb x k) (λ e. inl (eqb-true x k e)) (λ e. let ne = eqb-false x k e in inr (∈-numbers (suc k) n x (omega arith) (omega arith)))

pub numbers_append : (k h n : ℕ) → numbers k (h + n) ≡ numbers k h ++ numbers (k + h) n
numbers_append k zero n = rw (zero-add, add-zero)
numbers_append k (suc h) n = rw (suc-add h n, add-suc, ← suc-add k h) (ap (λ l. k ∷ l) (numbers_append (suc k) h n))
