-- Ascending lists: joined, filtered, mapped, by their places; two with the same members are one list.
use mathlib.Core.Path.{◌≡◌, refl, sym, ap₂, ◌∙◌}
use mathlib.Core.Bool.{Bool, true, false}
use mathlib.Core.Logic.{◌⊎◌, inl, inr, ⊎_elim}
use mathlib.Core.List.{List, [], ◌∷◌, ◌++◌, map}
use Prim.Native.Nat.{ℕ, zero, suc, ◌<◌}
use native.Mathlib.Omega.{arith}
use lib.ListN.{length, get_or}
use Rattle.lists.specs.Filter.{filter, cons_if}
use Rattle.lists.specs.Member.{◌∈◌, Distinct}
use Rattle.lists.specs.Order.{StrictOrder, Total, Apart, Ascending}
use Rattle.lists.proofs.Cases.{by_test, clash}
use Rattle.lists.proofs.Member.{append-∈, map-∈, get_or-∈}
use Rattle.lists.proofs.Filter.{filter-∈}

-- an order of what f gives of elements orders the elements
pub order_by : {A B : Type 0} {less : B → B → Bool} (f : A → B) → StrictOrder less → StrictOrder (λ (x y : A). less (f x) (f y))
order_by f o = record { irreflexive = λ x. o.irreflexive (f x); transitive = λ x y z h k. o.transitive (f x) (f y) (f z) h k }

module _ {A : Type 0} (less : A → A → Bool) where
  pub ascending_append : (xs ys : List A) → Ascending less xs → Ascending less ys → ((x y : A) → x ∈ xs → y ∈ ys → less x y ≡ true) → Ascending less (xs ++ ys)
  ascending_append [] ys a b h = b
  ascending_append (x ∷ xs) ys a b h =
      (λ y m. ⊎_elim (λ k. a.0 y k) (λ k. h x y (inl refl) k) (append-∈ y xs ys m), ascending_append xs ys a.1 b (λ u v k l. h u v (inr k) l))

  pub ascending_filter : (p : A → Bool) (xs : List A) → Ascending less xs → Ascending less (filter p xs)
  ascending_filter p [] a = tt
  ascending_filter p (x ∷ xs) a = go (p x) (ascending_filter p xs a.1)
    where
      go : (b : Bool) → Ascending less (filter p xs) → Ascending less (cons_if b x (filter p xs))
      go true k = (λ y m. a.0 y (filter-∈ p y xs m).0, k)
      go false k = k

  -- what ascends is apart, by whatever order that agrees
  pub ascending_apart : (other : A → A → Bool) → ((x y : A) → other x y ≡ true → (less x y ≡ true) ⊎ (less y x ≡ true)) → (xs : List A) → Ascending other xs → Apart less xs
  ascending_apart other h [] a = tt
  ascending_apart other h (x ∷ xs) a = (λ y m. h x y (a.0 y m), ascending_apart other h xs a.1)

  -- what passes a test of elements that are apart is apart
  pub apart_filter : (p : A → Bool) (xs : List A) → Apart less xs → Apart less (filter p xs)
  apart_filter p [] a = tt
  apart_filter p (x ∷ xs) a = go (p x) (apart_filter p xs a.1)
    where
      go : (b : Bool) → Apart less (filter p xs) → Apart less (cons_if b x (filter p xs))
      go true k = (λ y m. a.0 y (filter-∈ p y xs m).0, k)
      go false k = k

  -- different elements of a total order are apart
  pub distinct_apart : Total less → (xs : List A) → Distinct xs → Apart less xs
  distinct_apart total [] d = tt
  distinct_apart total (x ∷ xs) d =
      (λ y m. by_test (less x y) (λ e. inl e) (λ e. by_test (less y x) (λ f. inr f) (λ f. absurd (d.0 (rw (total x y e f) m)))), distinct_apart total xs d.1)

  -- an earlier place has the lesser element
  pub ascending_at : (d : A) (xs : List A) → Ascending less xs → (i j : ℕ) → i < j → j < length xs → less (get_or xs i d) (get_or xs j d) ≡ true
  ascending_at d [] a i j h k = absurd (omega arith)
  ascending_at d (x ∷ xs) a zero zero h k = absurd (omega arith)
  ascending_at d (x ∷ xs) a zero (suc j) h k = a.0 (get_or xs j d) (get_or-∈ d xs j (omega arith))
  ascending_at d (x ∷ xs) a (suc i) zero h k = absurd (omega arith)
  ascending_at d (x ∷ xs) a (suc i) (suc j) h k = ascending_at d xs a.1 i j (omega arith) (omega arith)

  module _ (o : StrictOrder less) where
    -- a list ascends if each element is less than the next
    pub steps_ascending : (d : A) (xs : List A) → ((i : ℕ) → suc i < length xs → less (get_or xs i d) (get_or xs (suc i) d) ≡ true) → Ascending less xs
    steps_ascending d [] f = tt
    steps_ascending d (x ∷ []) f = (λ y m. absurd m, tt)
    steps_ascending d (x ∷ y ∷ xs) f = first (steps_ascending d (y ∷ xs) (λ i h. f (suc i) (omega arith)))
      where
        first : Ascending less (y ∷ xs) → Ascending less (x ∷ y ∷ xs)
        first a = (λ z m. ⊎_elim (λ e. rw e (f 0 (omega arith))) (λ k. o.transitive x y z (f 0 (omega arith)) (a.0 z k)) m, a)

    -- an ascending list's later elements differ from its first
    pub later_differs : (x z : A) (xs : List A) → Ascending less (x ∷ xs) → z ∈ xs → z ≡ x → ⊥
    later_differs x z xs a m e = clash (rw e at (a.0 z m)) (o.irreflexive x)

    -- two elements are not each before the other
    pub asymmetric : (x y : A) → less x y ≡ true → less y x ≡ true → ⊥
    asymmetric x y h k = clash (o.transitive x y x h k) (o.irreflexive x)

    -- two ascending lists with the same members are equal
    pub ascending_unique : (xs ys : List A) → Ascending less xs → Ascending less ys → ((z : A) → z ∈ xs → z ∈ ys) → ((z : A) → z ∈ ys → z ∈ xs) → xs ≡ ys
    ascending_unique [] [] a b f g = refl
    ascending_unique [] (y ∷ ys) a b f g = absurd (g y (inl refl))
    ascending_unique (x ∷ xs) [] a b f g = absurd (f x (inl refl))
    ascending_unique (x ∷ xs) (y ∷ ys) a b f g =
        let e : x ≡ y = heads (f x (inl refl)) (g y (inl refl)) in
        let t : xs ≡ ys =
        ascending_unique xs ys a.1 b.1
        (λ z m. ⊎_elim (λ k. absurd (later_differs x z xs a m (k ∙ sym e))) (λ k. k) (f z (inr m)))
        (λ z m. ⊎_elim (λ k. absurd (later_differs y z ys b m (k ∙ e))) (λ k. k) (g z (inr m))) in
        ap₂ {C = List A} (λ u l. u ∷ l) e t
      where
        heads : (x ≡ y) ⊎ (x ∈ ys) → (y ≡ x) ⊎ (y ∈ xs) → x ≡ y
        heads (inl e) m = e
        heads (inr k) (inl e) = sym e
        heads (inr k) (inr l) = absurd (asymmetric x y (a.0 y l) (b.0 x k))

-- a map that keeps the order of a list's elements keeps it ascending
pub ascending_map : {A B : Type 0} (less : A → A → Bool) (below : B → B → Bool) (f : A → B) (xs : List A) → ((x y : A) → x ∈ xs → y ∈ xs → less x y ≡ true → below (f x) (f y) ≡ true) → Ascending less xs → Ascending below (map f xs)
ascending_map less below f [] h a = tt
ascending_map less below f (x ∷ xs) h a =
    (λ z m. let r = map-∈ f z xs m in rw r.2 (h x r.0 (inl refl) (inr r.1) (a.0 r.0 r.1)), ascending_map less below f xs (λ u v k l. h u v (inr k) (inr l)) a.1)
