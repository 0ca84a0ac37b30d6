-- Two lists of one length, whose elements stand to each other place by place.
use Rattle.std.specs.Prelude.{List, [], ◌∷◌, ℕ, suc}

-- from the place i on, each element of the first list stands to that of the second at its place
pub data Each {A B : Type 0} (R : ℕ → A → B → Type 0) : ℕ → List A → List B → Type 0 where
  no_more : (i : ℕ) → Each R i [] []
  both : (i : ℕ) (x : A) (y : B) (xs : List A) (ys : List B) → R i x y → Each R (suc i) xs ys → Each R i (x ∷ xs) (y ∷ ys)
