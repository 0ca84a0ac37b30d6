-- Lists by place.
use mathlib.Core.Path.{◌≡◌, refl, ap, ◌∙◌}
use mathlib.Core.List.{List, [], ◌∷◌, map}
use Prim.Native.Nat.{ℕ, zero, suc, ◌-◌, ◌<◌}
use native.Mathlib.Omega.{arith}
use lib.ListN.{length, get_or, take, drop}

pub get_or-map : {A B : Type 0} (f : A → B) (d : A) (e : B) (xs : List A) (i : ℕ) → i < length xs → get_or (map f xs) i e ≡ f (get_or xs i d)
get_or-map f d e [] i h = absurd (omega arith)
get_or-map f d e (x ∷ xs) zero h = refl
get_or-map f d e (x ∷ xs) (suc i) h = get_or-map f d e xs i (omega arith)

-- what is left of the first n elements behind k
pub drop-take : {A : Type 0} (k n : ℕ) (xs : List A) → drop k (take n xs) ≡ take (n - k) (drop k xs)
drop-take zero n xs = let e : n ≡ n - 0 = omega arith in ap (λ m. take m xs) e
drop-take (suc k) zero xs = let e : 0 ≡ 0 - suc k = omega arith in ap (λ m. take m (drop (suc k) xs)) e
drop-take {A = A} (suc k) (suc n) [] = nothing (suc n - suc k)
  where
    nothing : (m : ℕ) → ◌≡◌ {A = List A} [] (take m [])
    nothing zero = refl
    nothing (suc m) = refl
drop-take (suc k) (suc n) (x ∷ xs) = let e : n - k ≡ suc n - suc k = omega arith in drop-take k n xs ∙ ap (λ m. take m (drop k xs)) e
