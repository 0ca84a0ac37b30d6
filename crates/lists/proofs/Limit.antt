-- What a stopped search finds: the first matches, up to one past the limit.
use mathlib.Core.Path.{◌≡◌, refl, ap}
use mathlib.Core.Bool.{Bool, true, false}
use mathlib.Core.Logic.{◌↔◌}
use mathlib.Core.List.{List, [], ◌∷◌, ◌++◌}
use Prim.Native.Nat.{ℕ, zero, suc, ◌-◌, ◌≤◌, ◌<◌}
use native.Mathlib.Omega.{arith}
use lib.ListN.{length, take, length-take}
use lib.Dec.{ltb}
use Rattle.lists.specs.Filter.{filter, cons_if}
use Rattle.lists.specs.Limit.{go_on, stopped}

-- the examples of specs/Limit
stops_at_second : stopped (ltb 10) (7 ∷ 20 ∷ 8 ∷ 30 ∷ 9 ∷ 40 ∷ []) 1 ≡ 7 ∷ 20 ∷ 8 ∷ 30 ∷ []
stops_at_second = refl

looks_at_all : stopped (ltb 10) (7 ∷ 20 ∷ 8 ∷ 30 ∷ 9 ∷ 40 ∷ []) 3 ≡ 7 ∷ 20 ∷ 8 ∷ 30 ∷ 9 ∷ 40 ∷ []
looks_at_all = refl

module _ {A : Type 0} (p : A → Bool) where
  -- the matches of a stopped list are the first n + 1 of all matches
  pub filter_stopped : (xs : List A) (n : ℕ) → filter p (stopped p xs n) ≡ take (suc n) (filter p xs)
  filter_stopped [] n = refl
  filter_stopped (x ∷ xs) n = go (λ m. filter_stopped xs m) (p x) n
    where
      go : ((m : ℕ) → filter p (stopped p xs m) ≡ take (suc m) (filter p xs)) → (b : Bool) (n : ℕ) → cons_if b x (filter p (go_on b n (λ m. stopped p xs m))) ≡ take (suc n) (cons_if b x (filter p xs))
      go ih false n = ih n
      go ih true zero = refl
      go ih true (suc n) = ap (λ (l : List A). x ∷ l) (ih n)

  -- a list with no more than n matches is looked at whole
  pub stopped_whole : (xs : List A) (n : ℕ) → length (filter p xs) ≤ n → stopped p xs n ≡ xs
  stopped_whole [] n h = refl
  stopped_whole (x ∷ xs) n h = ap (λ (l : List A). x ∷ l) (go (λ m. stopped_whole xs m) (p x) n h)
    where
      go : ((m : ℕ) → length (filter p xs) ≤ m → stopped p xs m ≡ xs) → (b : Bool) (n : ℕ) → length (cons_if b x (filter p xs)) ≤ n → go_on b n (λ m. stopped p xs m) ≡ xs
      go ih false n h = ih n h
      go ih true zero h = absurd (omega arith)
      go ih true (suc n) h = ih n (omega arith)

  -- more than n matches are seen exactly if there are more than n
  pub stopped_past : (xs : List A) (n : ℕ) → (n < length (filter p (stopped p xs n))) ↔ (n < length (filter p xs))
  stopped_past xs n = rw (filter_stopped, length-take) (λ h. omega arith, λ h. omega arith)

  -- no more is looked at than there is
  pub length_stopped : (xs : List A) (n : ℕ) → length (stopped p xs n) ≤ length xs
  length_stopped [] n = omega arith
  length_stopped (x ∷ xs) n = omega (arith, go (λ m. length_stopped xs m) (p x) n)
    where
      go : ((m : ℕ) → length (stopped p xs m) ≤ length xs) → (b : Bool) (n : ℕ) → length (go_on b n (λ m. stopped p xs m)) ≤ length xs
      go ih false n = ih n
      go ih true zero = omega arith
      go ih true (suc n) = ih n

  -- a search that xs does not stop goes on behind it with what is left of the limit
  pub stopped_append : (xs ys : List A) (n : ℕ) → length (filter p xs) ≤ n → stopped p (xs ++ ys) n ≡ xs ++ stopped p ys (n - length (filter p xs))
  stopped_append [] ys n h = ap (λ k. stopped p ys k) all
    where
      all : n ≡ n - 0
      all = omega arith
  stopped_append (x ∷ xs) ys n h = ap (λ (l : List A). x ∷ l) (go (λ m. stopped_append xs ys m) (p x) n h)
    where
      go : ((m : ℕ) → length (filter p xs) ≤ m → stopped p (xs ++ ys) m ≡ xs ++ stopped p ys (m - length (filter p xs))) → (b : Bool) (n : ℕ) → length (cons_if b x (filter p xs)) ≤ n
          → go_on b n (λ m. stopped p (xs ++ ys) m) ≡ xs ++ stopped p ys (n - length (cons_if b x (filter p xs)))
      go ih false n h = ih n h
      go ih true zero h = absurd (omega arith)
      go ih true (suc n) h = let e : suc n - suc (length (filter p xs)) ≡ n - length (filter p xs) = omega arith in rw e (ih n (omega arith))

  -- one that xs stops does not reach what follows
  pub stopped_front : (xs ys : List A) (n : ℕ) → n < length (filter p xs) → stopped p (xs ++ ys) n ≡ stopped p xs n
  stopped_front [] ys n h = absurd (omega arith)
  stopped_front (x ∷ xs) ys n h = ap (λ (l : List A). x ∷ l) (go (λ m. stopped_front xs ys m) (p x) n h)
    where
      go : ((m : ℕ) → m < length (filter p xs) → stopped p (xs ++ ys) m ≡ stopped p xs m) → (b : Bool) (n : ℕ) → n < length (cons_if b x (filter p xs)) → go_on b n (λ m. stopped p (xs ++ ys) m) ≡ go_on b n (λ m. stopped p xs m)
      go ih false n h = ih n h
      go ih true zero h = refl
      go ih true (suc n) h = ih n (omega arith)
