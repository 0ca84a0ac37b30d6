-- Numbers raised at some places: how many there are, what each becomes, and some places and then more.
use mathlib.Core.Path.{◌≡◌, refl, ◌∙◌}
use mathlib.Core.Bool.{Bool, true, false}
use mathlib.Core.Logic.{inl, inr}
use mathlib.Core.List.{List, [], ◌∷◌, ◌++◌}
use Prim.Native.Nat.{ℕ, suc, ◌+◌, ◌<◌}
use native.Mathlib.Omega.{arith}
use lib.ListN.{length, get_or, length-set}
use lib.Seq.{get_or-set_same, get_or-set_other}
use lib.Dec.{eqb}
use borrow.Author.Tests.{eqb-true, eqb-false}
use Rattle.lists.specs.Filter.{filter, cons_if}
use Rattle.lists.specs.Member.{◌∈◌}
use Rattle.lists.specs.Raised.{raised, raised_at}

-- how often a number stands in a list
abbrev pub times : ℕ → List ℕ → ℕ
times x ys = length (filter (eqb x) ys)

-- ---- how many

-- as many as before
pub length-raised : (at : ℕ) (ns : List ℕ) → length (raised at ns) ≡ length ns
length-raised at ns = length-set ns at (suc (get_or ns at 0))

-- and after any number of raises
pub length-raised_at : (xs ns : List ℕ) → length (raised_at xs ns) ≡ length ns
length-raised_at [] ns = refl
length-raised_at (x ∷ xs) ns = length-raised_at xs (raised x ns) ∙ length-raised x ns

-- ---- each number

-- the raised one
pub raised_here : (at : ℕ) (ns : List ℕ) (i : ℕ) → i < length ns → i ≡ at → get_or (raised at ns) i 0 ≡ suc (get_or ns i 0)
raised_here at ns i h e = rw (← e) (get_or-set_same ns i (suc (get_or ns i 0)) 0 h)

-- any other
pub raised_elsewhere : (at : ℕ) (ns : List ℕ) (i : ℕ) → (i ≡ at → ⊥) → get_or (raised at ns) i 0 ≡ get_or ns i 0
raised_elsewhere at ns i h = get_or-set_other ns at i (suc (get_or ns at 0)) 0 h

-- it is raised as often as its place is named
pub raised_at_times : (xs ns : List ℕ) (i : ℕ) → i < length ns → get_or (raised_at xs ns) i 0 ≡ get_or ns i 0 + times i xs
raised_at_times [] ns i h = omega arith
raised_at_times (x ∷ xs) ns i h = raised_at_times xs (raised x ns) i (omega (arith, length-raised x ns)) ∙ go (eqb i x) refl
  where
    go : (b : Bool) → eqb i x ≡ b → get_or (raised x ns) i 0 + times i xs ≡ get_or ns i 0 + length (cons_if b x (filter (eqb i) xs))
    go true e = omega (arith, raised_here x ns i h (eqb-true i x e))
    go false e = omega (arith, raised_elsewhere x ns i (eqb-false i x e))

-- it stays where its place is not named
pub raised_at_other : (xs ns : List ℕ) (i : ℕ) → (i ∈ xs → ⊥) → get_or (raised_at xs ns) i 0 ≡ get_or ns i 0
raised_at_other [] ns i h = refl
raised_at_other (x ∷ xs) ns i h = raised_at_other xs (raised x ns) i (λ m. h (inr m)) ∙ raised_elsewhere x ns i (λ e. h (inl e))

-- ---- some and then more

pub raised_at_append : (xs ys ns : List ℕ) → raised_at (xs ++ ys) ns ≡ raised_at ys (raised_at xs ns)
raised_at_append [] ys ns = refl
raised_at_append (x ∷ xs) ys ns = raised_at_append xs ys (raised x ns)
