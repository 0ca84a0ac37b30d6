-- The lexicographic order of three numbers.
use Rattle.std.specs.Prelude.{Bool, ◌&&◌, ◌||◌, ℕ, ltb, eqb}

abbrev pub Triple : Type 0
Triple = ℕ × ℕ × ℕ

-- the first numbers decide; where they are equal the second; where these are equal the third
abbrev pub lexicographic : Triple → Triple → Bool
lexicographic x y = ltb x.0 y.0 || (eqb x.0 y.0 && (ltb x.1 y.1 || (eqb x.1 y.1 && ltb x.2 y.2)))
