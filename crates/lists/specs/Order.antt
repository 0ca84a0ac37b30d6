-- Strict orders, given by a test, and lists that ascend by one.
use Rattle.std.specs.Prelude.{◌≡◌, Bool, true, false, ◌⊎◌, List, [], ◌∷◌}
use Rattle.lists.specs.Member.{◌∈◌}

-- the test `less` is a strict order
pub record StrictOrder {A : Type 0} (less : A → A → Bool) : Type 0 where
  pub irreflexive : (x : A) → less x x ≡ false
  pub transitive : (x y z : A) → less x y ≡ true → less y z ≡ true → less x z ≡ true

module _ {A : Type 0} (less : A → A → Bool) where
  -- of any two different elements one is less than the other
  abbrev pub Total : Type 0
  Total = (x y : A) → less x y ≡ false → less y x ≡ false → x ≡ y

  -- of any two elements of the list one is less than the other
  abbrev pub Apart : List A → Type 0
  Apart [] = Unit {0}
  Apart (x ∷ xs) = ((y : A) → y ∈ xs → (less x y ≡ true) ⊎ (less y x ≡ true)) × Apart xs

  -- each element is less than all that follow it: the list ascends, and no element stands in it twice
  abbrev pub Ascending : List A → Type 0
  Ascending [] = Unit {0}
  Ascending (x ∷ xs) = ((y : A) → y ∈ xs → less x y ≡ true) × Ascending xs
