-- An ascending part of an ascending list that holds every match: the same matches, and no longer a search.
use mathlib.Core.Path.{◌≡◌, refl, sym, ap, ◌∙◌}
use mathlib.Core.Bool.{Bool, true, false}
use mathlib.Core.Logic.{◌⊎◌, inl, inr, ⊎_elim}
use mathlib.Core.List.{List, [], ◌∷◌}
use Prim.Native.Nat.{ℕ, zero, suc, ◌≤◌}
use native.Mathlib.Omega.{arith}
use lib.ListN.{length}
use Rattle.lists.specs.Filter.{filter, cons_if}
use Rattle.lists.specs.Member.{◌∈◌}
use Rattle.lists.specs.Order.{StrictOrder, Ascending}
use Rattle.lists.specs.Limit.{go_on, stopped}
use Rattle.lists.proofs.Cases.{by_test, clash}
use Rattle.lists.proofs.Order.{asymmetric, later_differs}

-- cs is xs with some elements left out, none of which passes
pub data Thinned {A : Type 0} (p : A → Bool) : List A → List A → Type 0 where
  done : Thinned p [] []
  leave : {x : A} {cs xs : List A} → p x ≡ false → Thinned p cs xs → Thinned p cs (x ∷ xs)
  take : {x : A} {cs xs : List A} → Thinned p cs xs → Thinned p (x ∷ cs) (x ∷ xs)

module _ {A : Type 0} where
  pub thinned_filter : {p : A → Bool} {cs xs : List A} → Thinned p cs xs → filter p cs ≡ filter p xs
  thinned_filter done = refl
  thinned_filter (leave e t) = rw e (thinned_filter t)
  thinned_filter {p} (take {x = x} t) = ap (λ l. cons_if (p x) x l) (thinned_filter t)

  go_on_le : (b : Bool) (n : ℕ) (k l : ℕ → List A) → ((m : ℕ) → length (k m) ≤ length (l m)) → length (go_on b n k) ≤ length (go_on b n l)
  go_on_le false n k l h = h n
  go_on_le true zero k l h = omega arith
  go_on_le true (suc n) k l h = h n

  pub thinned_stopped : {p : A → Bool} {cs xs : List A} → Thinned p cs xs → (n : ℕ) → length (stopped p cs n) ≤ length (stopped p xs n)
  thinned_stopped done n = omega arith
  thinned_stopped (leave e t) n = rw e (omega (arith, thinned_stopped t n))
  thinned_stopped {p} (take {x = x} {cs = cs} {xs = xs} t) n =
      omega (arith, go_on_le (p x) n (λ m. stopped p cs m) (λ m. stopped p xs m) (λ m. thinned_stopped t m))

-- an ascending part that holds every match is the whole with failing elements left out
module _ {A : Type 0} (less : A → A → Bool) (o : StrictOrder less) (p : A → Bool) where
  pub part_thinned : (xs cs : List A) → Ascending less cs → Ascending less xs → ((z : A) → z ∈ cs → z ∈ xs) → ((z : A) → z ∈ xs → p z ≡ true → z ∈ cs) → Thinned p cs xs
  part_thinned [] [] a b f g = done
  part_thinned [] (c ∷ cs) a b f g = absurd (f c (inl refl))
  part_thinned (x ∷ xs) [] a b f g =
      leave (by_test (p x) (λ e. absurd (g x (inl refl) e)) (λ e. e)) (part_thinned xs [] a b.1 (λ z m. absurd m) (λ z m h. g z (inr m) h))
  part_thinned (x ∷ xs) (c ∷ cs) a b f g =
      go (λ a' f' g'. part_thinned xs cs a' b.1 f' g') (λ f' g'. part_thinned xs (c ∷ cs) a b.1 f' g') (f c (inl refl))
    where
      -- x stands before c, so it is left out, and so it fails
      fails : c ∈ xs → p x ≡ false
      fails m =
          by_test (p x)
          (λ e. absurd (⊎_elim (λ k. later_differs less o x c xs b m (sym k)) (λ k. asymmetric less o c x (a.0 x k) (b.0 c m)) (g x (inl refl) e)))
          (λ e. e)

      go : (Ascending less cs → ((z : A) → z ∈ cs → z ∈ xs) → ((z : A) → z ∈ xs → p z ≡ true → z ∈ cs) → Thinned p cs xs)
          → (((z : A) → z ∈ (c ∷ cs) → z ∈ xs) → ((z : A) → z ∈ xs → p z ≡ true → z ∈ (c ∷ cs)) → Thinned p (c ∷ cs) xs)
          → (c ≡ x) ⊎ (c ∈ xs) → Thinned p (c ∷ cs) (x ∷ xs)
      go both one (inl e) =
          rw e
          (take
          (both a.1
          (λ z m. ⊎_elim (λ k. absurd (later_differs less o c z cs a m (k ∙ sym e))) (λ k. k) (f z (inr m)))
          (λ z m h. ⊎_elim (λ k. absurd (later_differs less o x z xs b m (k ∙ e))) (λ k. k) (g z (inr m) h))))
      go both one (inr m) = leave (fails m) (one (λ z k. below z k (f z k)) (λ z k h. g z (inr k) h))
        where
          below : (z : A) → z ∈ (c ∷ cs) → (z ≡ x) ⊎ (z ∈ xs) → z ∈ xs
          below z k (inr l) = l
          below z (inl e) (inl e') = absurd (later_differs less o x c xs b m (sym e ∙ e'))
          below z (inr k) (inl e') = absurd (asymmetric less o c x (rw e' at (a.0 z k)) (b.0 c m))

  module _ (xs cs : List A) (a : Ascending less cs) (b : Ascending less xs) (within : (z : A) → z ∈ cs → z ∈ xs) (holds : (z : A) → z ∈ xs → p z ≡ true → z ∈ cs) where
    -- it has the same matches
    pub part_filter : filter p cs ≡ filter p xs
    part_filter = thinned_filter (part_thinned xs cs a b within holds)

    -- a search of it looks at no more
    pub part_stopped : (n : ℕ) → length (stopped p cs n) ≤ length (stopped p xs n)
    part_stopped n = thinned_stopped (part_thinned xs cs a b within holds) n

-- an ascending part is no longer than the whole, and one that is not shorter is the whole
module _ {A : Type 0} (less : A → A → Bool) (o : StrictOrder less) where
  shorter : {cs xs : List A} → Thinned (λ (z : A). false) cs xs → length cs ≤ length xs
  shorter done = omega arith
  shorter (leave e t) = omega (arith, shorter t)
  shorter (take t) = omega (arith, shorter t)

  none_left : {cs xs : List A} → Thinned (λ (z : A). false) cs xs → length xs ≤ length cs → cs ≡ xs
  none_left done h = refl
  none_left (leave e t) h = absurd (omega (arith, shorter t))
  none_left (take {x = x} t) h = ap (λ (l : List A). x ∷ l) (none_left t (omega arith))

  module _ (xs cs : List A) (a : Ascending less cs) (b : Ascending less xs) (within : (z : A) → z ∈ cs → z ∈ xs) where
    thinned : Thinned (λ (z : A). false) cs xs
    thinned = part_thinned less o (λ z. false) xs cs a b within (λ z m e. clash e refl)

    pub part_shorter : length cs ≤ length xs
    part_shorter = shorter thinned

    pub part_whole : length xs ≤ length cs → cs ≡ xs
    part_whole long = none_left thinned long
