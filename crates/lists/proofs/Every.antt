-- A test of every element: from a place on, at a place, of a joined list.
use mathlib.Core.Path.{◌≡◌, refl, sym, ap, ◌∙◌}
use mathlib.Core.Bool.{Bool, true, false, ◌&&◌, and_assoc}
use mathlib.Core.Logic.{inl, inr}
use mathlib.Core.List.{List, [], ◌∷◌, ◌++◌}
use Prim.Native.Nat.{ℕ, zero, suc, ◌+◌, ◌<◌, ◌≤◌}
use native.Mathlib.Omega.{arith}
use native.Mathlib.Numerals.{add-one}
use lib.ListN.{length, get_or, drop, drop_of_length-le}
use lib.Seq.{drop-cons}
use Rattle.lists.specs.Filter.{every}
use Rattle.lists.specs.Member.{◌∈◌}
use Rattle.lists.proofs.Cases.{and-true}

module _ {A : Type 0} (p : A → Bool) where
  module _ (d : A) (xs : List A) (i : ℕ) (h : i < length xs) where
    pub every_fails : p (get_or xs i d) ≡ false → every p (drop i xs) ≡ false
    every_fails e = rw (drop-cons xs i d, e)

    pub every_passes : p (get_or xs i d) ≡ true → every p (drop i xs) ≡ every p (drop (i + 1) xs)
    every_passes e = rw (add-one, drop-cons xs i d, e)

  pub every_end : (xs : List A) (i : ℕ) → length xs ≤ i → every p (drop i xs) ≡ true
  every_end xs i h = rw (drop_of_length-le xs h)

  -- at a place, and of a member
  pub every_at : (d : A) (xs : List A) → every p xs ≡ true → (i : ℕ) → i < length xs → p (get_or xs i d) ≡ true
  every_at d [] e i h = absurd (omega arith)
  every_at d (x ∷ xs) e zero h = (and-true (p x) (every p xs) e).0
  every_at d (x ∷ xs) e (suc i) h = every_at d xs (and-true (p x) (every p xs) e).1 i (omega arith)

  pub every-∈ : (xs : List A) → every p xs ≡ true → (x : A) → x ∈ xs → p x ≡ true
  every-∈ [] e x x4 = elim x4 [ ]
  every-∈ (y ∷ xs) e x (inl k) = ap p k ∙ (and-true (p y) (every p xs) e).0
  every-∈ (y ∷ xs) e x (inr m) = every-∈ xs (and-true (p y) (every p xs) e).1 x m

  pub ∈-every : (xs : List A) → ((x : A) → x ∈ xs → p x ≡ true) → every p xs ≡ true
  ∈-every [] f = refl
  ∈-every (x ∷ xs) f = rw (f x (inl refl)) (∈-every xs (λ y m. f y (inr m)))

  pub every_append : (xs ys : List A) → every p (xs ++ ys) ≡ (every p xs && every p ys)
  every_append [] ys = refl
  every_append (x ∷ xs) ys = rw (every_append xs ys) (sym (and_assoc (p x) (every p xs) (every p ys)))
