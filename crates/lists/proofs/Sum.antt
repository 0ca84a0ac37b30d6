-- The sum of numbers: of zeros, of numbers given alike or as two parts, and of numbers that are raised at some places.
use mathlib.Core.Path.{◌≡◌, refl, ◌∙◌}
use mathlib.Core.Logic.{inl, inr}
use mathlib.Core.List.{List, [], ◌∷◌, map}
use Prim.Native.Nat.{ℕ, zero, suc, ◌+◌, ◌<◌}
use native.Mathlib.Omega.{arith}
use lib.ListN.{length, get_or, replicate, length-replicate, get_or-replicate}
use Rattle.lists.specs.Member.{◌∈◌}
use Rattle.lists.specs.Raised.{raised, raised_at}
use Rattle.lists.specs.Sum.{sum}
use Rattle.lists.proofs.Raised.{length-raised}

-- ---- zeros

-- numbers that are all 0
pub sum_zeros : (ns : List ℕ) → ((i : ℕ) → i < length ns → get_or ns i 0 ≡ 0) → sum ns ≡ 0
sum_zeros [] z = refl
sum_zeros (n ∷ ns) z = omega (arith, z 0 (omega arith), sum_zeros ns (λ i h. z (suc i) (omega arith)))

-- so many zeros
pub sum-replicate : (n : ℕ) → sum (replicate n 0) ≡ 0
sum-replicate n = sum_zeros (replicate n 0) (λ i h. get_or-replicate {A = ℕ} n i 0 0 (omega (arith, length-replicate {A = ℕ} n 0)))

-- ---- numbers that a rule gives

-- numbers given alike have the same sum
pub sum_same : (f g : ℕ → ℕ) (xs : List ℕ) → ((x : ℕ) → x ∈ xs → f x ≡ g x) → sum (map f xs) ≡ sum (map g xs)
sum_same f g [] h = refl
sum_same f g (x ∷ xs) h = omega (arith, h x (inl refl), sum_same f g xs (λ y m. h y (inr m)))

-- numbers given as two parts
pub sum_parts : (f g h : ℕ → ℕ) (xs : List ℕ) → ((x : ℕ) → x ∈ xs → f x ≡ g x + h x) → sum (map f xs) ≡ sum (map g xs) + sum (map h xs)
sum_parts f g h [] e = omega arith
sum_parts f g h (x ∷ xs) e = omega (arith, e x (inl refl), sum_parts f g h xs (λ y m. e y (inr m)))

-- ---- numbers raised at some places

-- it grows by one
pub sum-raised : (at : ℕ) (ns : List ℕ) → at < length ns → sum (raised at ns) ≡ suc (sum ns)
sum-raised at [] h = absurd (omega arith)
sum-raised zero (n ∷ ns) h = omega arith
sum-raised (suc at) (n ∷ ns) h = omega (arith, sum-raised at ns (omega arith))

-- and by one for each place that is named
pub sum-raised_at : (xs ns : List ℕ) → ((x : ℕ) → x ∈ xs → x < length ns) → sum (raised_at xs ns) ≡ sum ns + length xs
sum-raised_at [] ns h = omega arith
sum-raised_at (x ∷ xs) ns h =
    sum-raised_at xs (raised x ns) (λ y m. omega (arith, length-raised x ns, h y (inr m))) ∙ omega (arith, sum-raised x ns (h x (inl refl)))
