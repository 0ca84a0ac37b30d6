-- A search that a limit stops: the part of a list that it looks at. Of the numbers 7, 20, 8, 30, 9, 40 let those above 10 match.
-- With limit 1 the search stops at the second match, with limit 3 it looks at all of them:
--   stopped (ltb 10) (7 ∷ 20 ∷ 8 ∷ 30 ∷ 9 ∷ 40 ∷ []) 1 ≡ 7 ∷ 20 ∷ 8 ∷ 30 ∷ []
--   stopped (ltb 10) (7 ∷ 20 ∷ 8 ∷ 30 ∷ 9 ∷ 40 ∷ []) 3 ≡ 7 ∷ 20 ∷ 8 ∷ 30 ∷ 9 ∷ 40 ∷ []
use Rattle.std.specs.Prelude.{Bool, true, false, List, [], ◌∷◌, ℕ, zero, suc}

module _ {A : Type 0} where
  -- how a search goes on behind an element where n matches are left: behind one that does not match as before; behind a match
  -- with one less, or not at all where none is left
  abbrev pub go_on : Bool → ℕ → (ℕ → List A) → List A
  go_on false n rest = rest n
  go_on true zero rest = []
  go_on true (suc n) rest = rest n

  -- the list up to and with the first match past the limit n; a match passes the test p
  abbrev pub stopped : (A → Bool) → List A → ℕ → List A
  stopped p [] n = []
  stopped p (x ∷ xs) n = x ∷ go_on (p x) n (λ m. stopped p xs m)
