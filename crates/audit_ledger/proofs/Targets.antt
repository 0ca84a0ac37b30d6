-- The targets of a read: how often each is named, and that each has a rank.
use mathlib.Core.Path.{◌≡◌, refl, sym, ap, ◌∙◌}
use mathlib.Core.Bool.{Bool, true, false, not, cond, ◌&&◌}
use mathlib.Core.Logic.{inl, inr}
use mathlib.Core.List.{List, [], ◌∷◌}
use Prim.Native.Nat.{ℕ, zero, suc, ◌<◌, ◌≤◌}
use native.Mathlib.Omega.{arith}
use lib.ListN.{length, get_or, length-map}
use lib.Dec.{eqb, ltb}
use borrow.Author.Tests.{eqb-true, ne_eqb, lt-ltb}
use Rattle.lists.specs.Filter.{filter, cons_if, every}
use Rattle.lists.specs.Member.{◌∈◌, Distinct}
use Rattle.lists.proofs.Cases.{by_test}
use Rattle.lists.proofs.Member.{get_or-∈, map-∈}
use Rattle.lists.proofs.Filter.{length_filter}
use Rattle.lists.proofs.Raised.{times}
use Rattle.map_places.specs.Place.{Place}
use Rattle.audit_ledger.specs.Booking.{Booked, targets_of, is_in, distinct, single_targets, multi_targets}
use Rattle.audit_ledger.specs.Counting.{groups_on, singles_on, multi_on}

-- ---- distinct numbers

-- different places of distinct numbers have different numbers
pub distinct-get_or : (xs : List ℕ) → Distinct xs → (i j : ℕ) → i < length xs → j < length xs → get_or xs i 0 ≡ get_or xs j 0 → i ≡ j
distinct-get_or [] d i j hi hj e = absurd (omega arith)
distinct-get_or (x ∷ xs) d zero zero hi hj e = refl
distinct-get_or (x ∷ xs) d zero (suc j) hi hj e = absurd (d.0 (rw e (get_or-∈ 0 xs j (omega arith))))
distinct-get_or (x ∷ xs) d (suc i) zero hi hj e = absurd (d.0 (rw (← e) (get_or-∈ 0 xs i (omega arith))))
distinct-get_or (x ∷ xs) d (suc i) (suc j) hi hj e = ap suc (distinct-get_or xs d.1 i j (omega arith) (omega arith) e)

-- a number stands in a list as soon as it stands there once
pub is_in_times : (x : ℕ) (ys : List ℕ) → is_in x ys ≡ ltb 0 (times x ys)
is_in_times x [] = refl
is_in_times x (y ∷ ys) = go (eqb x y) (is_in_times x ys)
  where
    go : (b : Bool) → is_in x ys ≡ ltb 0 (times x ys) → not (not b && every (λ z. not (eqb x z)) ys) ≡ ltb 0 (length (cons_if b y (filter (eqb x) ys)))
    go true ih = sym (lt-ltb 0 (suc (times x ys)) (omega arith))
    go false ih = ih

-- of the distinct numbers of a list each stands there once
pub distinct_times : (t : ℕ) (xs : List ℕ) → times t (distinct xs) ≡ cond (ltb 0 (times t xs)) 1 0
distinct_times t [] = refl
distinct_times t (x ∷ xs) = go (eqb t x) refl (is_in x xs) (is_in_times x xs) (distinct_times t xs)
  where
    go : (b : Bool) → eqb t x ≡ b → (c : Bool) → c ≡ ltb 0 (times x xs) → times t (distinct xs) ≡ cond (ltb 0 (times t xs)) 1 0 → times t (cons_if (not c) x (distinct xs)) ≡ cond (ltb 0 (length (cons_if b x (filter (eqb t) xs)))) 1 0
    go true e true f ih = rw (lt-ltb 0 (suc (times t xs)) (omega arith)) (ih ∙ ap (λ c. cond c 1 0) (ap (λ y. ltb 0 (times y xs)) (eqb-true t x e) ∙ sym f))
    go true e false f ih = rw (e, lt-ltb 0 (suc (times t xs)) (omega arith)) (ap suc (ih ∙ ap (λ c. cond c 1 0) (ap (λ y. ltb 0 (times y xs)) (eqb-true t x e) ∙ sym f)))
    go false e true f ih = ih
    go false e false f ih = rw e ih

-- and all stand in the list
pub distinct-∈ : (t : ℕ) (xs : List ℕ) → t ∈ distinct xs → t ∈ xs
distinct-∈ t [] m = elim m [ ]
distinct-∈ t (x ∷ xs) m = go (is_in x xs) m (λ k. distinct-∈ t xs k)
  where
    go : (b : Bool) → t ∈ cons_if (not b) x (distinct xs) → (t ∈ distinct xs → t ∈ xs) → t ∈ (x ∷ xs)
    go true n ih = inr (ih n)
    go false (inl e) ih = inl e
    go false (inr n) ih = inr (ih n)

-- ---- how often a target is named

-- a number below two as a list that is kept or not
one_if : (n : ℕ) (b : Booked) → n ≤ 1 → length (cons_if (ltb 0 n) b []) ≡ n
one_if zero b h = refl
one_if (suc zero) b h = refl
one_if (suc (suc n)) b h = absurd (omega arith)

module _ (ranked : List ℕ) (t : ℕ) where
  -- by a read with one group: once where that is on it
  pub single_times : (b : Booked) → times t (single_targets (targets_of ranked b.groups)) ≡ singles_on ranked t (b ∷ [])
  single_times b = go b.groups
    where
      go : (gs : List Place) → times t (single_targets (targets_of ranked gs)) ≡ length (cons_if (eqb (length gs) 1 && ltb 0 (groups_on ranked t gs)) b [])
      go [] = refl
      go (p ∷ []) = sym (one_if (groups_on ranked t (p ∷ [])) b (length_filter (eqb t) (targets_of ranked (p ∷ []))))
      go (p ∷ q ∷ gs) = rw (length-map gs (λ (r : Place). get_or ranked r.rank 0), ne_eqb (suc (suc (length gs))) 1 (λ f. omega arith))

  -- by a read with several groups: once where one of them is on it
  pub multi_times : (b : Booked) → times t (multi_targets (targets_of ranked b.groups)) ≡ multi_on ranked t (b ∷ [])
  multi_times b = go b.groups
    where
      go : (gs : List Place) → times t (multi_targets (targets_of ranked gs)) ≡ length (cons_if (ltb 1 (length gs) && ltb 0 (groups_on ranked t gs)) b [])
      go [] = refl
      go (p ∷ []) = refl
      go (p ∷ q ∷ gs) =
          let once = distinct_times t (targets_of ranked (p ∷ q ∷ gs)) in
          rw (length-map gs (λ (r : Place). get_or ranked r.rank 0), lt-ltb 1 (suc (suc (length gs))) (omega arith))
          (by_test (ltb 0 (groups_on ranked t (p ∷ q ∷ gs))) (λ f. rw f (omega (arith, once ∙ ap (λ c. cond c 1 0) f))) (λ f. rw f (omega (arith, once ∙ ap (λ c. cond c 1 0) f))))

-- ---- each target has a rank

-- each target of ranked groups
pub targets-∈ : (ranked : List ℕ) (gs : List Place) → ((p : Place) → p ∈ gs → p.rank < length ranked) → (t : ℕ) → t ∈ targets_of ranked gs → t ∈ ranked
targets-∈ ranked gs k t m = let r = map-∈ (λ (p : Place). get_or ranked p.rank 0) t gs m in rw r.2 (get_or-∈ 0 ranked r.0.rank (k r.0 r.1))

-- the target of a read with one group is one of its targets
pub single-∈ : (t : ℕ) (ts : List ℕ) → t ∈ single_targets ts → t ∈ ts
single-∈ t ts m = go (eqb (length ts) 1) m
  where
    go : (b : Bool) → t ∈ cond b ts [] → t ∈ ts
    go true n = n
    go false n = absurd n

-- and so are those of a read with several
pub multi-∈ : (t : ℕ) (ts : List ℕ) → t ∈ multi_targets ts → t ∈ ts
multi-∈ t ts m = go (ltb 1 (length ts)) m
  where
    go : (b : Bool) → t ∈ cond b (distinct ts) [] → t ∈ ts
    go true n = distinct-∈ t ts n
    go false n = absurd n
