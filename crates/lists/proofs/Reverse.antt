-- Reversed lists: by their places, mapped, and tested.
use mathlib.Core.Path.{◌≡◌, refl, sym, ap, ◌∙◌}
use mathlib.Core.Bool.{Bool, and-true, and_comm}
use mathlib.Core.Logic.{◌⊎◌, inl, inr}
use mathlib.Core.List.{List, [], ◌∷◌, ◌++◌, map, reverse, reverse_aux, reverse-cons}
use Prim.Native.Nat.{ℕ, suc, ◌-◌, ◌<◌}
use native.Mathlib.Omega.{arith}
use lib.ListN.{length, get_or, length-reverse, get_or-append}
use lib.Seq.{get_or_at}
use Rattle.lists.specs.Filter.{every}
use Rattle.lists.proofs.Cases.{compare}
use Rattle.lists.proofs.Every.{every_append}

pub get_or-reverse : {A : Type 0} (d : A) (l : List A) (i : ℕ) → i < length l → get_or (reverse l) i d ≡ get_or l (length l - suc i) d
get_or-reverse d [] i h = absurd (omega arith)
get_or-reverse {A} d (x ∷ xs) i h = rw reverse-cons (go (compare i (length xs)) (get_or-reverse d xs i))
  where
    -- the place counted from the other end
    place : (j : ℕ) → j ≡ suc (length xs) - suc i → get_or (x ∷ xs) j d ≡ get_or (x ∷ xs) (suc (length xs) - suc i) d
    place j e = ap (λ k. get_or (x ∷ xs) k d) e

    go : (i < length xs) ⊎ ((i ≡ length xs) ⊎ (length xs < i)) → (i < length xs → get_or (reverse xs) i d ≡ get_or xs (length xs - suc i) d) → get_or (reverse xs ++ (x ∷ [])) i d ≡ get_or (x ∷ xs) (suc (length xs) - suc i) d
    go (inl k) ih = get_or-append (reverse xs) (x ∷ []) d i (rw length-reverse k) ∙ ih k ∙ place (suc (length xs - suc i)) (omega arith)
    go (inr (inl e)) ih = get_or_at (reverse xs) x [] d i (length-reverse xs ∙ sym e) ∙ place 0 (omega arith)
    go (inr (inr k)) ih = absurd (omega arith)

pub map-reverse : {A B : Type 0} (f : A → B) (xs : List A) → map f (reverse xs) ≡ reverse (map f xs)
map-reverse {A} {B} f xs = go xs []
  where
    go : (l r : List A) → map f (reverse_aux l r) ≡ reverse_aux (map f l) (map f r)
    go [] r = refl
    go (x ∷ l) r = go l (x ∷ r)

pub every_reverse : {A : Type 0} (p : A → Bool) (xs : List A) → every p (reverse xs) ≡ every p xs
every_reverse p [] = refl
every_reverse p (x ∷ xs) = rw (reverse-cons, every_append, every_reverse p xs, and-true) (and_comm (every p xs) (p x))
