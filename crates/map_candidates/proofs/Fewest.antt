-- The rarest seed, said plainly: of the offsets that are tried none has fewer postings, and each earlier one has more.
use mathlib.Core.Path.{◌≡◌, refl}
use mathlib.Core.Bool.{Bool, true, false}
use mathlib.Core.Logic.{◌⊎◌, inl, inr}
use mathlib.Core.List.{List, [], ◌∷◌}
use Prim.Native.Nat.{ℕ, zero, suc, ◌≤◌, ◌<◌}
use native.Mathlib.Omega.{arith}
use lib.Dec.{eqb, ltb}
use borrow.Author.Tests.{ltb-true, ltb-false}
use Rattle.lists.specs.Limit.{go_on, stopped}
use Rattle.lists.specs.Member.{◌∈◌}
use Rattle.lists.proofs.Cases.{by_test}
use Rattle.lists.specs.Numbers.{numbers}
use Rattle.map_candidates.specs.Search.{tried, fewest, rarest}

-- numbers from `low` on that do not fall
abbrev NotFalling : ℕ → List ℕ → Type 0
NotFalling low [] = Unit {0}
NotFalling low (x ∷ xs) = (low ≤ x) × NotFalling x xs

not_falling : (low x : ℕ) (xs : List ℕ) → low ≤ x → NotFalling x xs → NotFalling low xs
not_falling low x [] h r = tt
not_falling low x (y ∷ xs) h r = (omega (arith, r.0), r.1)

-- the offsets that are tried do not fall
tried_rising : (test : ℕ → Bool) (low k n limit : ℕ) → low ≤ k → NotFalling low (stopped test (numbers k n) limit)
tried_rising test low k zero limit h = tt
tried_rising test low k (suc n) limit h = (h, go (test k) limit (λ m. tried_rising test k (suc k) n m (omega arith)))
  where
    go : (b : Bool) (m : ℕ) → ((j : ℕ) → NotFalling k (stopped test (numbers (suc k) n) j)) → NotFalling k (go_on b m (λ j. stopped test (numbers (suc k) n) j))
    go false m rest = rest m
    go true zero rest = tt
    go true (suc m) rest = rest m

module _ (count : ℕ → ℕ) where
  -- no offset of the list has fewer than the chosen one, nor has the one that it started from
  fewest_least : (best : ℕ) (os : List ℕ) → (count (fewest count best os) ≤ count best) × ((o : ℕ) → o ∈ os → count (fewest count best os) ≤ count o)
  fewest_least best [] = (omega arith, λ o m. absurd m)
  fewest_least best (x ∷ os) =
      by_test (ltb (count x) (count best))
      (λ t. rw t (let r = fewest_least x os in let l = ltb-true (count x) (count best) t in (omega (arith, r.0), λ o m. at o m (λ e. rw e r.0) r.1)))
      (λ t. rw t (let r = fewest_least best os in let l = ltb-false (count x) (count best) t in (r.0, λ o m. at o m (λ e. rw e (omega (arith, r.0))) r.1)))
    where
      at : {k : ℕ} (o : ℕ) → (o ≡ x) ⊎ (o ∈ os) → (o ≡ x → k ≤ count o) → ((y : ℕ) → y ∈ os → k ≤ count y) → k ≤ count o
      at o (inl e) f g = f e
      at o (inr m) f g = g o m

  -- each number of a list before the chosen one has more
  First : ℕ → List ℕ → Type 0
  First best os = (o : ℕ) → o ∈ (best ∷ os) → o < fewest count best os → count (fewest count best os) < count o

  first_taken : (best x : ℕ) (os : List ℕ) → count x < count best → First x os → (o : ℕ) → o ∈ (best ∷ x ∷ os) → o < fewest count x os → count (fewest count x os) < count o
  unfolding First
  first_taken best x os l f o (inl e) h = rw e (omega (arith, (fewest_least x os).0))
  first_taken best x os l f o (inr m) h = f o m h

  first_left : (best x : ℕ) (os : List ℕ) → best ≤ x → count best ≤ count x → First best os → (o : ℕ) → o ∈ (best ∷ x ∷ os) → o < fewest count best os → count (fewest count best os) < count o
  unfolding First
  first_left best x os k l f o (inl e) h = f o (inl e) h
  first_left best x os k l f o (inr (inl e)) h = let g = f best (inl refl) (omega arith) in rw e (omega arith)
  first_left best x os k l f o (inr (inr m)) h = f o (inr m) h

  fewest_first : (best : ℕ) (os : List ℕ) → NotFalling best os → First best os
  unfolding First
  fewest_first best [] r o (inr x5) h = elim x5 [ ]
  fewest_first best [] r o (inl e) h = absurd (omega arith)
  fewest_first best (x ∷ os) r o m h =
      by_test (ltb (count x) (count best))
      (λ t. let g : o < fewest count x os = rw t at h in rw t (first_taken best x os (ltb-true (count x) (count best) t) (fewest_first x os r.1) o m g))
      (λ t. let g : o < fewest count best os = rw t at h in rw t (first_left best x os r.0 (ltb-false (count x) (count best) t) (fewest_first best os (not_falling best x os r.0 r.1)) o m g))

  pub rarest_least : (n o : ℕ) → o ∈ tried n count → count (rarest n count) ≤ count o
  rarest_least n o m = (fewest_least 0 (tried n count)).1 o m

  pub rarest_first : (n o : ℕ) → o ∈ tried n count → o < rarest n count → count (rarest n count) < count o
  unfolding First
  rarest_first n o m h = fewest_first 0 (tried n count) (tried_rising (λ o. eqb (count o) 0) 0 0 n 0 (omega arith)) o (inr m) h
