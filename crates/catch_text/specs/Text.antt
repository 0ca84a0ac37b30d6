-- Words and numbers as bytes (REFERENCE.md, "Lines").
use Rattle.std.specs.Prelude.{cond, List, [], ◌∷◌, ◌++◌, ℕ, zero, suc, ◌+◌, ◌/◌, ◌%◌, ltb}
use Prim.Native.Char.{code}
use Prim.Native.String.{String}
use Prim.Native.String as string

-- the bytes of a word
abbrev pub text : String → List ℕ
text string.[] = []
text (string.◌∷◌ c s) = code c ∷ text s

-- a digit
abbrev pub digit : ℕ → ℕ
digit n = 48 + n

-- a number in decimal, of no more digits than `most`: its last digit stands behind the digits of its tenth
unfoldable pub digits : ℕ → ℕ → List ℕ
digits zero n = []
digits (suc most) n = cond (ltb n 10) (digit n ∷ []) (digits most (n / 10) ++ digit (n % 10) ∷ [])

-- a number has no more digits than one more than itself
abbrev pub decimal : ℕ → List ℕ
decimal n = digits (suc n) n

-- fields, each behind a space
abbrev pub spaced : List (List ℕ) → List ℕ
spaced [] = []
spaced (f ∷ fs) = text " " ++ f ++ spaced fs

-- a line: a first field, others behind it, and LF
abbrev pub line : List (List ℕ) → List ℕ
line [] = text "\n"
line (f ∷ fs) = f ++ spaced fs ++ text "\n"
