-- Operands read from a stream of bytes (REFERENCE.md, "Stream").
use Rattle.std.specs.Prelude.{cond, List, [], ◌∷◌, ℕ, ◌+◌, ◌*◌, length, take, drop, leb}

-- what a stream begins with, and the bytes behind it; or it begins with something else; or the bytes end before it is whole
pub data Parsed (A : Type 0) : Type 0 where
  parsed : A → List ℕ → Parsed A
  wrong : Parsed A
  short : Parsed A

-- one thing read behind another
infixr 20 ◌followed_by◌
abbrev pub ◌followed_by◌ : {A B : Type 0} → Parsed A → (A → List ℕ → Parsed B) → Parsed B
parsed a bytes followed_by next = next a bytes
wrong followed_by next = wrong
short followed_by next = short

-- n bytes, where there are as many
abbrev pub bytes_in : ℕ → List ℕ → Parsed (List ℕ)
bytes_in n bytes = cond (leb n (length bytes)) (parsed (take n bytes) (drop n bytes)) short

-- the number that bytes stand for, the lowest first
abbrev pub little_endian : List ℕ → ℕ
little_endian [] = 0
little_endian (b ∷ bs) = b + 256 * little_endian bs
