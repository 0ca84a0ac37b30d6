-- The test of two lists says that they are equal.
use mathlib.Core.Path.{◌≡◌, refl, sym, ap₂}
use mathlib.Core.Bool.{Bool, true, false, ◌&&◌, and-true as and-rest, and_assoc}
use mathlib.Core.List.{List, [], ◌∷◌}
use Prim.Native.Nat.{ℕ, zero, suc, ◌<◌, ◌≤◌}
use native.Mathlib.Omega.{arith}
use lib.ListN.{length, get_or, take}
use lib.Dec.{eqb}
use borrow.Author.Tests.{eqb-true, eq-eqb}
use Rattle.lists.specs.Same.{same}
use Rattle.lists.proofs.Cases.{clash, and-true}

pub same_true : (xs ys : List ℕ) → same xs ys ≡ true → xs ≡ ys
same_true [] [] t = refl
same_true [] (y ∷ ys) t = clash refl (sym t)
same_true (x ∷ xs) [] t = clash refl (sym t)
same_true (x ∷ xs) (y ∷ ys) t =
    let e = and-true (eqb x y) (same xs ys) t in
    ap₂ {C = List ℕ} (λ u l. u ∷ l) (eqb-true x y e.0) (same_true xs ys e.1)

pub true_same : (xs ys : List ℕ) → xs ≡ ys → same xs ys ≡ true
true_same xs ys e = rw e (go ys)
  where
    go : (l : List ℕ) → same l l ≡ true
    go [] = refl
    go (x ∷ l) = rw (eq-eqb x x refl) (go l)

-- ---- lists compared from the front

-- one number more
pub same_next : (xs ys : List ℕ) (i : ℕ) → i < length xs → i < length ys → same (take (suc i) xs) (take (suc i) ys) ≡ (same (take i xs) (take i ys) && eqb (get_or xs i 0) (get_or ys i 0))
same_next [] ys i hx hy = absurd (omega arith)
same_next (x ∷ xs) [] i hx hy = absurd (omega arith)
same_next (x ∷ xs) (y ∷ ys) zero hx hy = and-rest (eqb x y)
same_next (x ∷ xs) (y ∷ ys) (suc i) hx hy = rw (same_next xs ys i (omega arith) (omega arith)) (sym (and_assoc (eqb x y) (same (take i xs) (take i ys)) (eqb (get_or xs i 0) (get_or ys i 0))))

-- a difference among the first i is one among the first j
pub differ_next : (xs ys : List ℕ) (i j : ℕ) → i ≤ j → same (take i xs) (take i ys) ≡ false → same (take j xs) (take j ys) ≡ false
differ_next xs ys zero j h t = clash refl t
differ_next xs ys (suc i) zero h t = absurd (omega arith)
differ_next [] [] (suc i) (suc j) h t = t
differ_next [] (y ∷ ys) (suc i) (suc j) h t = refl
differ_next (x ∷ xs) [] (suc i) (suc j) h t = refl
differ_next (x ∷ xs) (y ∷ ys) (suc i) (suc j) h t = go (eqb x y) t (differ_next xs ys i j (omega arith))
  where
    go : (b : Bool) → (b && same (take i xs) (take i ys)) ≡ false → (same (take i xs) (take i ys) ≡ false → same (take j xs) (take j ys) ≡ false) → (b && same (take j xs) (take j ys)) ≡ false
    go true t ih = ih t
    go false t ih = refl
