-- Bytes written behind those of an output (REFERENCE.md, "Lines").
use Rattle.std.specs.Prelude.{◌≡◌, List, ◌++◌, ℕ, ◌+◌, ◌≤◌, length, take}

-- bytes stand behind the first `at` of an output, which now has them up to `r`
pub record Adds (bytes out : List ℕ) (at : ℕ) (out' : List ℕ) (r : ℕ) : Type 0 where
  pub written : take r out' ≡ take at out ++ bytes
  pub end : r ≡ at + length bytes

-- no more than `most` bytes
pub record AddsAtMost (most : ℕ) (bytes out : List ℕ) (at : ℕ) (out' : List ℕ) (r : ℕ) : Type 0 where
  pub adds : Adds bytes out at out' r
  pub room : r ≤ at + most
