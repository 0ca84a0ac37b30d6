-- What a buffer holds after a part of it was written.
use Rattle.std.specs.Prelude.{List, ◌++◌, ℕ, ◌+◌, length, take, drop}

-- a buffer with a list in the place of what stood from `at` on
abbrev pub placed : ℕ → List ℕ → List ℕ → List ℕ
placed at xs buffer = take at buffer ++ xs ++ drop (at + length xs) buffer
