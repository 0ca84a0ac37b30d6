-- The lexicographic order of three numbers is strict and total.
use mathlib.Core.Path.{◌≡◌, sym}
use mathlib.Core.Bool.{true, false}
use mathlib.Core.Logic.{◌⊎◌, inl, inr}
use Prim.Native.Nat.{◌<◌}
use native.Mathlib.Omega.{arith}
use lib.Dec.{ltb, eqb}
use borrow.Author.Tests.{ltb-true, eqb-true, lt-ltb, le-ltb, eq-eqb}
use Rattle.lists.specs.Order.{StrictOrder, Total}
use Rattle.lists.specs.Triple.{Triple, lexicographic}
use Rattle.lists.proofs.Cases.{by_test, clash, compare}

-- x stands before y
abbrev pub Before : Triple → Triple → Type 0
Before x y = (x.0 < y.0) ⊎ ((x.0 ≡ y.0) × ((x.1 < y.1) ⊎ ((x.1 ≡ y.1) × (x.2 < y.2))))

-- any two triples stand in one order or the other, or are equal
abbrev Compared : Triple → Triple → Type 0
Compared x y = Before x y ⊎ ((x ≡ y) ⊎ Before y x)

compared : (x y : Triple) → Compared x y
compared x y = first (compare x.0 y.0)
  where
    third : x.0 ≡ y.0 → x.1 ≡ y.1 → (x.2 < y.2) ⊎ ((x.2 ≡ y.2) ⊎ (y.2 < x.2)) → Compared x y
    third e f (inl h) = inl (inr (e, inr (f, h)))
    third e f (inr (inl g)) = inr (inl (λ i. (e i, f i, g i)))
    third e f (inr (inr h)) = inr (inr (inr (sym e, inr (sym f, h))))

    second : x.0 ≡ y.0 → (x.1 < y.1) ⊎ ((x.1 ≡ y.1) ⊎ (y.1 < x.1)) → Compared x y
    second e (inl h) = inl (inr (e, inl h))
    second e (inr (inl f)) = third e f (compare x.2 y.2)
    second e (inr (inr h)) = inr (inr (inr (sym e, inl h)))

    first : (x.0 < y.0) ⊎ ((x.0 ≡ y.0) ⊎ (y.0 < x.0)) → Compared x y
    first (inl h) = inl (inl h)
    first (inr (inl e)) = second e (compare x.1 y.1)
    first (inr (inr h)) = inr (inr (inl h))

-- the test passes where the statement holds
pub before_test : (x y : Triple) → Before x y → lexicographic x y ≡ true
before_test x y (inl h) = simp (lt-ltb x.0 y.0 h)
before_test x y (inr (e, inl h)) = simp (le-ltb x.0 y.0 (omega arith), eq-eqb x.0 y.0 e, lt-ltb x.1 y.1 h)
before_test x y (inr (e, inr (f, h))) =
    simp (le-ltb x.0 y.0 (omega arith), eq-eqb x.0 y.0 e, le-ltb x.1 y.1 (omega arith), eq-eqb x.1 y.1 f, lt-ltb x.2 y.2 h)

Before-transitive : (x y z : Triple) → Before x y → Before y z → Before x z
Before-transitive x y z (inl h) (inl k) = inl (omega arith)
Before-transitive x y z (inl h) (inr k) = inl (omega arith)
Before-transitive x y z (inr h) (inl k) = inl (omega arith)
Before-transitive x y z (inr (e, inl h)) (inr (f, inl k)) = inr (omega arith, inl (omega arith))
Before-transitive x y z (inr (e, inl h)) (inr (f, inr k)) = inr (omega arith, inl (omega arith))
Before-transitive x y z (inr (e, inr h)) (inr (f, inl k)) = inr (omega arith, inl (omega arith))
Before-transitive x y z (inr (e, inr h)) (inr (f, inr k)) = inr (omega arith, inr (omega arith))

Before-irreflexive : (x : Triple) → Before x x → ⊥
Before-irreflexive x (inl h) = omega arith
Before-irreflexive x (inr (e, inl h)) = omega arith
Before-irreflexive x (inr (e, inr h)) = omega arith

-- and nowhere else
pub test_before : (x y : Triple) → lexicographic x y ≡ true → Before x y
test_before x y t = by_test (ltb x.0 y.0) (λ e. inl (ltb-true x.0 y.0 e)) first
  where
    third : ltb x.0 y.0 ≡ false → eqb x.0 y.0 ≡ true → ltb x.1 y.1 ≡ false → eqb x.1 y.1 ≡ true → x.2 < y.2
    third e f g h = ltb-true x.2 y.2 (simp (e, f, g, h) at t)

    second : ltb x.0 y.0 ≡ false → eqb x.0 y.0 ≡ true → ltb x.1 y.1 ≡ false → Before x y
    second e f g =
        by_test (eqb x.1 y.1) (λ h. inr (eqb-true x.0 y.0 f, inr (eqb-true x.1 y.1 h, third e f g h))) (λ h. clash t (simp (e, f, g, h)))

    first : ltb x.0 y.0 ≡ false → Before x y
    first e =
        by_test (eqb x.0 y.0)
        (λ f. by_test (ltb x.1 y.1) (λ g. inr (eqb-true x.0 y.0 f, inl (ltb-true x.1 y.1 g))) (λ g. second e f g))
        (λ f. clash t (simp (e, f)))

pub lexicographic_order : StrictOrder lexicographic
lexicographic_order =
    record {
      irreflexive = λ x. by_test (lexicographic x x) (λ e. absurd (Before-irreflexive x (test_before x x e))) (λ e. e);
      transitive = λ x y z h k. before_test x z (Before-transitive x y z (test_before x y h) (test_before y z k));
    }

pub lexicographic_total : Total lexicographic
lexicographic_total x y h k = go (compared x y)
  where
    go : Compared x y → x ≡ y
    go (inl b) = clash (before_test x y b) h
    go (inr (inl e)) = e
    go (inr (inr b)) = clash (before_test y x b) k
