-- The key of a seed, and which seeds there are (REFERENCE.md, "Postings").
use Rattle.std.specs.Prelude.{◌≡◌, true, List, [], ◌∷◌, ℕ, ◌+◌, ◌-◌, ◌*◌, ◌^◌, ◌≤◌, length}
use Rattle.bases.specs.Base.{code_of}
use Rattle.bases.specs.Read.{capitals}
use Rattle.index_seeds.specs.Window.{window_of, fits_in, FitsIn}

-- the codes of its bases as digits of base 4, the first base highest
unfoldable pub key_of : List ℕ → ℕ
key_of [] = 0
key_of (b ∷ bs) = code_of b * 4 ^ length bs + key_of bs

-- the longest seed: its key fits 64 bits
abbrev pub max_seed : ℕ
max_seed = 31

-- a seed length within its bound
pub record SeedLength (q : ℕ) : Type 0 where
  pub some : 1 ≤ q
  pub most : q ≤ max_seed

-- a seed of q bases at a start of a sequence
pub record SeedIn (s : List ℕ) (q start : ℕ) : Type 0 where
  pub size : SeedLength q
  pub inside : fits_in q s start ≡ true

-- the key of the first i of q bases at a start
pub record KeyBegun (s : List ℕ) (q start i key : ℕ) : Type 0 where
  pub inside : i ≤ q
  pub digits : key ≡ key_of (window_of s start i)

-- four bases at a place of a sequence of capitals
pub record CapitalsAt (s : List ℕ) (at : ℕ) : Type 0 where
  pub inside : FitsIn 4 s at
  pub letters : capitals s ≡ true

-- so many fours of bases within q bases of a sequence of capitals
pub record FoursIn (s : List ℕ) (q fours : ℕ) : Type 0 where
  pub inside : 4 * fours ≤ q
  pub letters : capitals s ≡ true

-- the key of the seed at a start, and what its first digit counts
pub record KeyHeld (s : List ℕ) (q start high key : ℕ) : Type 0 where
  pub first_digit : high ≡ 4 ^ (q - 1)
  pub key_is : key ≡ key_of (window_of s start q)
