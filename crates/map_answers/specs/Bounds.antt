-- The bounds of a read's length and of the limit (REFERENCE.md, "Mapping").
use Rattle.std.specs.Prelude.{Bool, ◌&&◌, List, ℕ, length, leb}
use Rattle.map_places.specs.Place.{max_read}

-- 7 where this fails
abbrev pub length_right : List ℕ → Bool
length_right read = leb (length read) max_read

abbrev pub max_limit : ℕ
max_limit = 10000000

-- 9 where this fails
abbrev pub limit_right : ℕ → Bool
limit_right limit = leb 1 limit && leb limit max_limit
