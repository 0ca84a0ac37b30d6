-- The order of identifiers, and whether they all differ (REFERENCE.md, "Ranks").
use Rattle.std.specs.Prelude.{Bool, true, false, not, ◌&&◌, ◌||◌, List, [], ◌∷◌, ℕ, get_or, ltb, eqb}
use Rattle.lists.specs.Filter.{every}
use Rattle.lists.specs.Same.{same}

-- by the first byte that differs, as an unsigned number; a prefix before the longer
abbrev pub name_before : List ℕ → List ℕ → Bool
name_before xs [] = false
name_before [] (y ∷ ys) = true
name_before (x ∷ xs) (y ∷ ys) = ltb x y || (eqb x y && name_before xs ys)

-- the name at the one place is before that at the other
abbrev pub place_before : List (List ℕ) → ℕ → ℕ → Bool
place_before names i j = name_before (get_or names i []) (get_or names j [])

-- no name equals a later one
abbrev pub distinct_names : List (List ℕ) → Bool
distinct_names [] = true
distinct_names (x ∷ xs) = every (λ y. not (same x y)) xs && distinct_names xs
