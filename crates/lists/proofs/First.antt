-- The first element of a list that passes a test.
use mathlib.Core.Path.{◌≡◌, refl, ap}
use mathlib.Core.Bool.{Bool, true, false}
use mathlib.Core.List.{List, [], ◌∷◌}
use Prim.Native.Nat.{ℕ, zero, suc, ◌+◌, ◌<◌}
use native.Mathlib.Omega.{arith}
use lib.ListN.{length, get_or, drop}
use Rattle.lists.specs.Filter.{filter}
use Rattle.lists.specs.Limit.{go_on, stopped}

module _ {A : Type 0} (p : A → Bool) (d : A) where
  -- element k passes, and none before it
  pub record First (xs : List A) (k : ℕ) : Type 0 where
    pub inside : k < length xs
    pub failing : (i : ℕ) → i < k → p (get_or xs i d) ≡ false
    pub passing : p (get_or xs k d) ≡ true

  first_rest : (x : A) (xs : List A) (k : ℕ) → First (x ∷ xs) (suc k) → First xs k
  first_rest x xs k f = record { inside = omega (arith, f.inside); failing = λ i h. f.failing (suc i) (omega arith); passing = f.passing }

  -- it is kept first, and then what is kept of the elements behind it
  pub first_kept : (xs : List A) (k : ℕ) → First xs k → filter p xs ≡ get_or xs k d ∷ filter p (drop (suc k) xs)
  first_kept [] k f = absurd (omega (arith, f.inside))
  first_kept (x ∷ xs) zero f = rw f.passing
  first_kept (x ∷ xs) (suc k) f = rw (f.failing 0 (omega arith)) (first_kept xs k (first_rest x xs k f))

  -- a search goes through it
  pub first_stopped : (xs : List A) (k n : ℕ) → First xs k → length (stopped p xs n) ≡ suc k + length (go_on true n (λ m. stopped p (drop (suc k) xs) m))
  first_stopped [] k n f = absurd (omega (arith, f.inside))
  first_stopped (x ∷ xs) zero n f = omega (arith, ap (λ b. length (go_on b n (λ m. stopped p xs m))) f.passing)
  first_stopped (x ∷ xs) (suc k) n f = let e = f.failing 0 (omega arith) in let s = first_stopped xs k n (first_rest x xs k f) in rw e (omega (arith, s))

  -- no element passes
  pub none_stopped : (xs : List A) (n : ℕ) → ((i : ℕ) → i < length xs → p (get_or xs i d) ≡ false) → stopped p xs n ≡ xs
  none_stopped [] n h = refl
  none_stopped (x ∷ xs) n h = rw (h 0 (omega arith)) (ap (λ (l : List A). x ∷ l) (none_stopped xs n (λ i l. h (suc i) (omega arith))))
