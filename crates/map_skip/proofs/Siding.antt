-- The candidates of one side, passed over, are the smaller ones of two.
use mathlib.Core.Path.{◌≡◌, refl, ap, ◌∙◌}
use mathlib.Core.Bool.{Bool, true, false, cond, ◌||◌}
use mathlib.Core.List.{List}
use mathlib.Core.Logic.{◌⊎◌, inl, inr}
use Prim.Native.Nat.{ℕ, zero, suc, ◌<◌}
use native.Mathlib.Omega.{arith}
use Rattle.lists.proofs.Cases.{by_test, clash}
use Rattle.lists.proofs.Triple.{Before, before_test, test_before}
use Rattle.map_places.specs.Place.{place, triple, before, matches}
use Rattle.map_candidates.specs.Cursor.{plus_first}
use Rattle.map_candidates.specs.declared.cursor.Candidate.{Candidate}
use Rattle.map_candidates.specs.declared.sides.Sides.{Sides}
use Rattle.map_skip.specs.Passing.{place_of, Steps, PassedOne, PassedOver, SkippedOne, Skipped, Sooner}

-- steps of one kind as steps of another
steps_map : {A B : Type 0} (R : A → A → Type 0) (S : B → B → Type 0) (f : A → B) → ((a b : A) → R a b → S (f a) (f b)) → (k : ℕ) (a b : A) → Steps R k a b → Steps S k (f a) (f b)
steps_map R S f step zero a b e = ap f e
steps_map R S f step (suc k) a b (m, (before_m, last)) = (f m, (steps_map R S f step k a m before_m, step m b last))

-- what each step keeps, many keep
pub steps_fold : {A : Type 0} (R : A → A → Type 0) (P : ℕ → A → Type 0) → ((k : ℕ) (a b : A) → P k a → R a b → P (suc k) b) → (k : ℕ) (a b : A) → P 0 a → Steps R k a b → P k b
steps_fold R P step zero a b p e = rw e p
steps_fold R P step (suc k) a b p (m, (before_m, last)) = step k m b (steps_fold R P step k a m p before_m) last

-- ---- candidates before the one of the other side

module _ (rank limit : ℕ) (other : Candidate) (sooner : Sooner rank limit other) where
  module _ (c : Candidate) (waits : c.found ≡ true) (here : c.rank ≡ rank) (early : c.start < limit) where
    -- '+' is first
    plus_is_first : plus_first (record { plus = c; minus = other }) ≡ true
    plus_is_first = by_test other.found (λ g. rw (waits, g) (before_test (triple (place c.rank c.start 0)) (triple (place other.rank other.start 1)) (at (sooner c.start early g)))) (λ g. rw (waits, g))
      where
        at : (rank < other.rank) ⊎ ((rank ≡ other.rank) × (c.start < other.start)) → Before (triple (place c.rank c.start 0)) (triple (place other.rank other.start 1))
        at (inl h) = inl (omega arith)
        at (inr (e, h)) = inr (omega arith, inl h)

    -- '-' is
    minus_is_first : plus_first (record { plus = other; minus = c }) ≡ false
    minus_is_first = by_test other.found (λ g. rw (waits, g) (by_test (before (place other.rank other.start 0) (place c.rank c.start 1)) (λ t. absurd (not_both (sooner c.start early g) (test_before (triple (place other.rank other.start 0)) (triple (place c.rank c.start 1)) t))) (λ t. t))) (λ g. rw g)
      where
        not_both : (rank < other.rank) ⊎ ((rank ≡ other.rank) × (c.start < other.start)) → Before (triple (place other.rank other.start 0)) (triple (place c.rank c.start 1)) → ⊥
        not_both (inl h) (inl l) = omega arith
        not_both (inl h) (inr (e, _)) = omega arith
        not_both (inr (d, h)) (inl l) = omega arith
        not_both (inr (d, h)) (inr (e, inl l)) = omega arith
        not_both (inr (d, h)) (inr (e, inr (f, l))) = omega arith

  module _ (ss : List (List ℕ)) (read rs os : List ℕ) where
    plus_one : (c c' : Candidate) → SkippedOne ss read rs os rank limit c c' → PassedOne ss read rs os (record { plus = c; minus = other }) (record { plus = c'; minus = other })
    plus_one c c' s =
        let first = plus_is_first c s.waits s.here s.early in
        record {
          waits = rw s.waits;
          differs = ap (λ b. matches ss read (place_of (cond b c other))) first ∙ s.differs;
          moved = record { plus_taken = λ _. s.taken; minus_stays = λ _. refl; minus_taken = λ f. clash first f; plus_stays = λ f. clash first f };
        }

    minus_one : (c c' : Candidate) → SkippedOne ss read rs os rank limit c c' → PassedOne ss read rs os (record { plus = other; minus = c }) (record { plus = other; minus = c' })
    minus_one c c' s =
        let first = minus_is_first c s.waits s.here s.early in
        record {
          waits = or_right other.found s.waits;
          differs = ap (λ b. matches ss read (place_of (cond b other c))) first ∙ s.differs;
          moved = record { plus_taken = λ f. clash f first; minus_stays = λ f. clash f first; minus_taken = λ _. s.taken; plus_stays = λ _. refl };
        }
      where
        or_right : (b : Bool) → c.found ≡ true → (b || c.found) ≡ true
        or_right true e = refl
        or_right false e = e

    module _ (sides : Sides) (k : ℕ) (first c' : Candidate) (skipped : Skipped ss read rs os rank limit k first c') where
      pub passed_plus : first ≡ sides.plus → other ≡ sides.minus → PassedOver ss read rs os k sides (record { plus = c'; minus = other })
      passed_plus p m =
          let e : record { plus = first; minus = other } ≡ sides = λ i. record { plus = p i; minus = m i } in
          rw (← e) (steps_map (SkippedOne ss read rs os rank limit) (PassedOne ss read rs os) (λ (c : Candidate). record { plus = c; minus = other }) plus_one k first c' skipped)

      pub passed_minus : other ≡ sides.plus → first ≡ sides.minus → PassedOver ss read rs os k sides (record { plus = other; minus = c' })
      passed_minus p m =
          let e : record { plus = other; minus = first } ≡ sides = λ i. record { plus = p i; minus = m i } in
          rw (← e) (steps_map (SkippedOne ss read rs os rank limit) (PassedOne ss read rs os) (λ (c : Candidate). record { plus = other; minus = c }) minus_one k first c' skipped)
