-- Membership in joined and mapped lists, and by place.
use mathlib.Core.Path.{◌≡◌, refl, ap}
use mathlib.Core.Logic.{◌⊎◌, inl, inr, ⊎_elim}
use mathlib.Core.List.{List, [], ◌∷◌, ◌++◌, map}
use Prim.Native.Nat.{ℕ, zero, suc, ◌<◌}
use native.Mathlib.Omega.{arith}
use lib.ListN.{length, get_or}
use Rattle.lists.specs.Member.{◌∈◌}

module _ {A : Type 0} where
  pub ∈-append_left : (x : A) (xs ys : List A) → x ∈ xs → x ∈ (xs ++ ys)
  ∈-append_left x [] ys x'' = elim x'' [ ]
  ∈-append_left x (z ∷ xs) ys (inl e) = inl e
  ∈-append_left x (z ∷ xs) ys (inr m) = inr (∈-append_left x xs ys m)

  pub ∈-append_right : (x : A) (xs ys : List A) → x ∈ ys → x ∈ (xs ++ ys)
  ∈-append_right x [] ys m = m
  ∈-append_right x (z ∷ xs) ys m = inr (∈-append_right x xs ys m)

  pub append-∈ : (x : A) (xs ys : List A) → x ∈ (xs ++ ys) → (x ∈ xs) ⊎ (x ∈ ys)
  append-∈ x [] ys m = inr m
  append-∈ x (z ∷ xs) ys (inl e) = inl (inl e)
  append-∈ x (z ∷ xs) ys (inr m) = ⊎_elim (λ k. inl (inr k)) (λ k. inr k) (append-∈ x xs ys m)

  pub get_or-∈ : (d : A) (xs : List A) (i : ℕ) → i < length xs → get_or xs i d ∈ xs
  get_or-∈ d [] i h = absurd (omega arith)
  get_or-∈ d (x ∷ xs) zero h = inl refl
  get_or-∈ d (x ∷ xs) (suc i) h = inr (get_or-∈ d xs i (omega arith))

  pub ∈-get_or : (d x : A) (xs : List A) → x ∈ xs → (i : ℕ) × (i < length xs) × (x ≡ get_or xs i d)
  ∈-get_or d x [] x'' = elim x'' [ ]
  ∈-get_or d x (y ∷ xs) (inl e) = (0, omega arith, e)
  ∈-get_or d x (y ∷ xs) (inr m) = let r = ∈-get_or d x xs m in (suc r.0, omega arith, r.2)

module _ {A B : Type 0} (f : A → B) where
  pub ∈-map : (x : A) (xs : List A) → x ∈ xs → f x ∈ map f xs
  ∈-map x [] x'' = elim x'' [ ]
  ∈-map x (y ∷ xs) (inl e) = inl (ap f e)
  ∈-map x (y ∷ xs) (inr m) = inr (∈-map x xs m)

  pub map-∈ : (z : B) (xs : List A) → z ∈ map f xs → (x : A) × (x ∈ xs) × (z ≡ f x)
  map-∈ z [] x' = elim x' [ ]
  map-∈ z (y ∷ xs) (inl e) = (y, inl refl, e)
  map-∈ z (y ∷ xs) (inr m) = let r = map-∈ z xs m in (r.0, inr r.1, r.2)
