-- Going by cases on a test or on two numbers.
use mathlib.Core.Path.{◌≡◌, refl, sym, ◌∙◌}
use mathlib.Core.Bool.{Bool, true, false, true≢false, ◌&&◌, beq}
use mathlib.Core.Logic.{◌⊎◌, inl, inr}
use Prim.Native.Nat.{ℕ, ◌<◌}
use native.Mathlib.Omega.{arith}
use lib.Dec.{ltb, eqb}
use borrow.Author.Tests.{ltb-true, ltb-false, eqb-true, eqb-false}

-- a test passes or fails
pub by_test : {C : Type 0} (b : Bool) → (b ≡ true → C) → (b ≡ false → C) → C
by_test true f g = f refl
by_test false f g = g refl

-- it does not do both
pub clash : {C : Type 0} {b : Bool} → b ≡ true → b ≡ false → C
clash p q = absurd (true≢false (sym p ∙ q))

-- of two numbers the first is less, equal or greater
pub compare : (m n : ℕ) → (m < n) ⊎ ((m ≡ n) ⊎ (n < m))
compare m n =
    by_test (ltb m n)
    (λ e. inl (ltb-true m n e))
    (λ e. inr (by_test (eqb m n) (λ f. inl (eqb-true m n f)) (λ f. inr (omega (arith, ltb-false m n e, eqb-false m n f)))))

-- both parts of a joined test pass
pub and-true : (b d : Bool) → (b && d) ≡ true → (b ≡ true) × (d ≡ true)
and-true true d e = (refl, e)
and-true false d e = clash refl (sym e)

-- two tests of which the one passes exactly where the other does
pub same_test : {b d : Bool} → (b ≡ true → d ≡ true) → (d ≡ true → b ≡ true) → b ≡ d
same_test {b} {d} f g = by_test b (λ e. e ∙ sym (f e)) (λ e. by_test d (λ h. clash (g h) e) (λ h. e ∙ sym h))

pub beq-true : (b d : Bool) → beq b d ≡ true → b ≡ d
beq-true true true e = refl
beq-true true false e = clash refl (sym e)
beq-true false true e = clash refl (sym e)
beq-true false false e = refl

pub eq_beq : (b d : Bool) → b ≡ d → beq b d ≡ true
eq_beq true d e = rw (← e)
eq_beq false d e = rw (← e)
