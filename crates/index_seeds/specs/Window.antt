-- Windows: consecutive bases of a sequence, from a start on (REFERENCE.md, "Postings").
use Rattle.std.specs.Prelude.{Bool, List, ℕ, suc, ◌+◌, ◌-◌, ◌≤◌, length, leb}
use Rattle.lists.specs.Cut.{window}

-- n bases of a sequence from a start on
abbrev pub window_of : List ℕ → ℕ → ℕ → List ℕ
window_of s start n = window s start n

-- a window of n bases at a start lies within the sequence
abbrev pub fits_in : ℕ → List ℕ → ℕ → Bool
fits_in n s start = leb (start + n) (length s)

-- the same as a statement
abbrev pub FitsIn : ℕ → List ℕ → ℕ → Type 0
FitsIn n s start = start + n ≤ length s

-- how many starts there are of a window of n bases
abbrev pub starts : ℕ → List ℕ → ℕ
starts n s = suc (length s) - n
