-- How many bases of a sequence and of a read agree.
use Rattle.std.specs.Prelude.{◌≡◌, Bool, true, ◌&&◌, List, ℕ, zero, suc, ◌+◌, ◌≤◌, length, get_or, eqb}
use Rattle.bases.specs.Base.{code_of}
use Rattle.bases.specs.Read.{capitals, letters}

-- n bases of two lists, from a place in each on, have the same codes
abbrev pub agreeing : ℕ → List ℕ → ℕ → List ℕ → ℕ → Bool
agreeing zero a i b j = true
agreeing (suc n) a i b j = agreeing n a i b j && eqb (code_of (get_or a (i + n) 0)) (code_of (get_or b (j + n) 0))

-- how many are compared at once
abbrev pub stretch : ℕ
stretch = 16

-- so many bases of a sequence and of a read are there
pub record Reach (s : List ℕ) (at : ℕ) (read : List ℕ) (from n : ℕ) : Type 0 where
  pub sequence : capitals s ≡ true
  pub read_right : letters read ≡ true
  pub in_sequence : at + n ≤ length s
  pub in_read : from + n ≤ length read

-- r bases agree, and no more are told than a bound
pub record Agreed (s : List ℕ) (at : ℕ) (b : List ℕ) (from most r : ℕ) : Type 0 where
  pub few : r ≤ most
  pub agree : agreeing r s at b from ≡ true
