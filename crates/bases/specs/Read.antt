-- Reads: bases with or without qualities, turned round, and as they lie on a strand (REFERENCE.md, "Reads").
use Rattle.std.specs.Prelude.{◌≡◌, Bool, true, false, List, map, reverse, ℕ, zero, suc, ◌<◌, length}
use Rattle.lists.specs.Filter.{every}
use Rattle.bases.specs.Base.{complement_of, upper_of, is_capital}

-- ---- bases

-- bases in upper case
abbrev pub folded : List ℕ → List ℕ
folded bs = map upper_of bs

-- every byte is one of the capitals A, C, G, T
abbrev pub capitals : List ℕ → Bool
capitals bs = every is_capital bs

-- every byte is a letter of ACGT in either case
abbrev pub letters : List ℕ → Bool
letters bs = capitals (folded bs)

-- bases turned round: complemented and reversed
unfoldable pub reverse_complement : List ℕ → List ℕ
reverse_complement bs = reverse (map complement_of bs)

-- bases as they lie on a strand: on '+', which is 0, as they are; on '-' turned round
abbrev pub oriented : ℕ → List ℕ → List ℕ
oriented zero bs = bs
oriented (suc s) bs = reverse_complement bs

-- a letter in either case beside base i of bases that are such letters
pub record LettersAt (letter : ℕ) (bs : List ℕ) (i : ℕ) : Type 0 where
  pub inside : i < length bs
  pub letter_right : is_capital (upper_of letter) ≡ true
  pub letters_right : letters bs ≡ true

-- ---- reads

-- the quality bytes of a read, or none; a given string may be empty
pub data Qualities : Type 0 where
  absent : Qualities
  given : List ℕ → Qualities

pub record Read : Type 0 where
  pub bases : List ℕ
  pub qualities : Qualities

-- qualities as they are lent: a string, and whether it is present
abbrev pub lent : Bool → List ℕ → Qualities
lent true qs = given qs
lent false qs = absent

-- a read as it is lent: bases, whether qualities are present, and the quality string
abbrev pub read_of : List ℕ → Bool → List ℕ → Read
read_of bs present qs = record { bases = bs; qualities = lent present qs }

abbrev pub reversed : Qualities → Qualities
reversed absent = absent
reversed (given qs) = given (reverse qs)

-- a read turned round
abbrev pub turned : Read → Read
turned r = record { bases = reverse_complement r.bases; qualities = reversed r.qualities }
