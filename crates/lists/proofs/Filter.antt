-- What a filtered list has; a filtered joined list; a stretch that passes.
use mathlib.Core.Path.{◌≡◌, refl, ap, ◌∙◌}
use mathlib.Core.Bool.{Bool, true, false}
use mathlib.Core.Logic.{inl, inr}
use mathlib.Core.List.{List, [], ◌∷◌, ◌++◌}
use Prim.Native.Nat.{ℕ, zero, suc, ◌+◌, ◌<◌, ◌≤◌}
use native.Mathlib.Omega.{arith}
use lib.ListN.{length, get_or, take, drop}
use Rattle.lists.specs.Filter.{filter, cons_if}
use Rattle.lists.specs.Member.{◌∈◌}
use Rattle.lists.proofs.Cases.{by_test}

module _ {A : Type 0} (p : A → Bool) where
  pub ∈-filter : (x : A) (xs : List A) → x ∈ xs → p x ≡ true → x ∈ filter p xs
  ∈-filter x [] x3 h = elim x3 [ ]
  ∈-filter x (y ∷ xs) (inl e) h = rw (← e, h) (inl refl)
  ∈-filter x (y ∷ xs) (inr m) h = go (p y) (∈-filter x xs m h)
    where
      go : (b : Bool) → x ∈ filter p xs → x ∈ cons_if b y (filter p xs)
      go true k = inr k
      go false k = k

  pub filter-∈ : (x : A) (xs : List A) → x ∈ filter p xs → (x ∈ xs) × (p x ≡ true)
  filter-∈ x [] m = elim m [ ]
  filter-∈ x (y ∷ xs) m = go (p y) refl m (λ k. filter-∈ x xs k)
    where
      go : (b : Bool) → p y ≡ b → x ∈ cons_if b y (filter p xs) → (x ∈ filter p xs → (x ∈ xs) × (p x ≡ true)) → (x ∈ (y ∷ xs)) × (p x ≡ true)
      go true e (inl k) ih = (inl k, ap p k ∙ e)
      go true e (inr k) ih = (inr (ih k).0, (ih k).1)
      go false e k ih = (inr (ih k).0, (ih k).1)

  pub filter_append : (xs ys : List A) → filter p (xs ++ ys) ≡ filter p xs ++ filter p ys
  filter_append [] ys = refl
  filter_append (x ∷ xs) ys = rw (filter_append xs ys) (by_test (p x) (λ e. rw e) (λ e. rw e))

  pub length_filter : (xs : List A) → length (filter p xs) ≤ length xs
  length_filter [] = omega arith
  length_filter (x ∷ xs) = let e = length_filter xs in by_test (p x) (λ f. rw f (omega arith)) (λ f. rw f (omega arith))

  pub filter_none : (d : A) (xs : List A) → ((i : ℕ) → i < length xs → p (get_or xs i d) ≡ false) → filter p xs ≡ []
  filter_none d [] h = refl
  filter_none d (x ∷ xs) h = rw (h 0 (omega arith)) (filter_none d xs (λ i k. h (suc i) (omega arith)))

  filter_front : (d : A) (n : ℕ) (xs : List A) → n ≤ length xs → ((i : ℕ) → i < n → p (get_or xs i d) ≡ true) → ((i : ℕ) → n ≤ i → i < length xs → p (get_or xs i d) ≡ false) → filter p xs ≡ take n xs
  filter_front d zero xs l h k = filter_none d xs (λ i m. k i (omega arith) m)
  filter_front d (suc n) [] l h k = absurd (omega arith)
  filter_front d (suc n) (x ∷ xs) l h k =
      rw (h 0 (omega arith)) (ap (λ ys. x ∷ ys) (filter_front d n xs (omega arith) (λ i m. h (suc i) (omega arith)) (λ i m o. k (suc i) (omega arith) (omega arith))))

  -- where exactly the n elements from place `from` on pass, these are kept
  pub filter_range : (d : A) (from n : ℕ) (xs : List A) → from + n ≤ length xs → ((i : ℕ) → i < from → p (get_or xs i d) ≡ false) → ((i : ℕ) → from ≤ i → i < from + n → p (get_or xs i d) ≡ true) → ((i : ℕ) → from + n ≤ i → i < length xs → p (get_or xs i d) ≡ false) → filter p xs ≡ take n (drop from xs)
  filter_range d zero n xs l a b c = filter_front d n xs (omega arith) (λ i m. b i (omega arith) (omega arith)) (λ i m o. c i (omega arith) o)
  filter_range d (suc from) n [] l a b c = absurd (omega arith)
  filter_range d (suc from) n (x ∷ xs) l a b c =
      rw (a 0 (omega arith)) (filter_range d from n xs (omega arith) (λ i m. a (suc i) (omega arith)) (λ i m o. b (suc i) (omega arith) (omega arith)) (λ i m o. c (suc i) (omega arith) (omega arith)))
