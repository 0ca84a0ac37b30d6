-- Names and topologies compared place by place.
use mathlib.Core.Path.{◌≡◌, refl, sym, ap, ◌∙◌}
use mathlib.Core.Bool.{Bool, true, false, not, ◌&&◌}
use mathlib.Core.Bool as bools
use mathlib.Core.List.{List, [], ◌∷◌}
use Prim.Native.Nat.{ℕ, suc, ◌≤◌}
use native.Mathlib.Omega.{arith}
use lib.ListN.{length, drop}
use lib.Dec.{eqb}
use lib.Pointwise.{pointwise}
use borrow.Author.Tests.{eq-eqb}
use Rattle.std.specs.Prelude.{nat_eq}
use Rattle.lists.specs.Same.{same}
use Rattle.lists.specs.Cut.{cut}
use Rattle.lists.proofs.Cases.{by_test, clash, and-true}
use Rattle.lists.proofs.Cut.{length_cut}
use Rattle.audit_unitigs.specs.Rows.{names_alike, Named}

-- ---- one place

same_pointwise : (xs ys : List ℕ) → pointwise nat_eq xs ys ≡ same xs ys
same_pointwise [] [] = refl
same_pointwise [] (y ∷ ys) = refl
same_pointwise (x ∷ xs) [] = refl
same_pointwise (x ∷ xs) (y ∷ ys) = ap (λ b. nat_eq x y && b) (same_pointwise xs ys)

-- x and y are the names n and n', and r tells whether they are equal
pub names_told : (n n' x y : List ℕ) → x ≡ n → y ≡ n' → (r : Bool) → r ≡ pointwise nat_eq x y → (m m' : ℕ) → m ≡ m' → r ≡ (same n n' && eqb m m')
names_told n n' x y e f r told m m' g = rw (eq-eqb m m' g, bools.and-true (same n n'), ← e, ← f) (told ∙ same_pointwise x y)

-- ---- place by place

-- the answer for the places from i on is the answer for all
pub record Alike (ns : List (List ℕ)) (ms : List ℕ) (ns' : List (List ℕ)) (ms' : List ℕ) (i : ℕ) : Type 0 where
  pub inside : i ≤ length ns
  pub others : length ns' ≡ length ns
  pub marked : length ms ≡ length ns
  pub others_marked : length ms' ≡ length ns
  pub rest : names_alike ns ms ns' ms' ≡ names_alike (drop i ns) (drop i ms) (drop i ns') (drop i ms')

module _ (bytes ends ms bytes' ends' ms' : List ℕ) (named : Named bytes ends ms) (named' : Named bytes' ends' ms') where
  pub alike_start : length ends' ≡ length ends → Alike (cut ends bytes) ms (cut ends' bytes') ms' 0
  alike_start e =
      let l = length_cut 0 ends bytes in
      let l' = length_cut 0 ends' bytes' in
      record { inside = omega arith; others = omega arith; marked = omega (arith, named.marked); others_marked = omega (arith, named'.marked); rest = refl }

-- where they are alike, there are as many
pub alike_lengths : (ns : List (List ℕ)) (ms : List ℕ) (ns' : List (List ℕ)) (ms' : List ℕ) → names_alike ns ms ns' ms' ≡ true → length ns' ≡ length ns
alike_lengths [] ms [] ms' t = refl
alike_lengths [] ms (n ∷ ns') ms' t = clash t refl
alike_lengths (n ∷ ns) ms [] ms' t = clash t refl
alike_lengths (n ∷ ns) [] (n' ∷ ns') ms' t = clash t refl
alike_lengths (n ∷ ns) (m ∷ ms) (n' ∷ ns') [] t = clash t refl
alike_lengths (n ∷ ns) (m ∷ ms) (n' ∷ ns') (m' ∷ ms') t =
    ap suc (alike_lengths ns ms ns' ms' (and-true (same n n' && eqb m m') (names_alike ns ms ns' ms') t).1)

pub other_number : (bytes ends ms bytes' ends' ms' : List ℕ) → (length ends' ≡ length ends → ⊥) → false ≡ names_alike (cut ends bytes) ms (cut ends' bytes') ms'
other_number bytes ends ms bytes' ends' ms' h =
    by_test (names_alike (cut ends bytes) ms (cut ends' bytes') ms')
    (λ t. absurd (h (omega (arith, alike_lengths (cut ends bytes) ms (cut ends' bytes') ms' t, length_cut 0 ends bytes, length_cut 0 ends' bytes'))))
    sym
