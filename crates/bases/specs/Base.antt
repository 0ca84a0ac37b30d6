-- The four bases as ASCII bytes: letters, codes, complements (REFERENCE.md, "Bases").
use Rattle.std.specs.Prelude.{◌≡◌, Bool, cond, ◌&&◌, ◌||◌, List, [], ◌∷◌, ℕ, ◌+◌, ◌-◌, ◌*◌, ◌<◌, get_or, leb, eqb}

abbrev pub A : ℕ
A = 65

abbrev pub C : ℕ
C = 67

abbrev pub G : ℕ
G = 71

abbrev pub T : ℕ
T = 84

abbrev pub a : ℕ
a = 97

abbrev pub c : ℕ
c = 99

abbrev pub g : ℕ
g = 103

abbrev pub t : ℕ
t = 116

-- what stands beside the byte in a list of pairs, or `other` where the byte is not listed
abbrev pub beside : List (ℕ × ℕ) → ℕ → ℕ → ℕ
beside [] other b = other
beside (pair ∷ pairs) other b = cond (eqb b pair.0) pair.1 (beside pairs other b)

-- A, C, G, T have the codes 0 to 3, and a small letter has its capital's
abbrev pub codes : List (ℕ × ℕ)
codes = (A, 0) ∷ (C, 1) ∷ (G, 2) ∷ (T, 3) ∷ (a, 0) ∷ (c, 1) ∷ (g, 2) ∷ (t, 3) ∷ []

-- the code of a byte that is no letter of these
abbrev pub mark : ℕ
mark = 4

unfoldable pub code_of : ℕ → ℕ
code_of b = beside codes mark b

-- A complements T, and C complements G; the case is kept
abbrev pub complements : List (ℕ × ℕ)
complements = (A, T) ∷ (T, A) ∷ (C, G) ∷ (G, C) ∷ (a, t) ∷ (t, a) ∷ (c, g) ∷ (g, c) ∷ []

-- any other byte stays itself
unfoldable pub complement_of : ℕ → ℕ
complement_of b = beside complements b b

-- a table that holds of each byte its code times 256, plus its complement
pub record Table (table : List ℕ) : Type 0 where
  pub holds : (b : ℕ) → b < 256 → get_or table b 0 ≡ code_of b * 256 + complement_of b

-- the byte in upper case, as ASCII has it
unfoldable pub upper_of : ℕ → ℕ
upper_of b = cond (leb 97 b && leb b 122) (b - 32) b

-- the byte is one of the capitals A, C, G, T
unfoldable pub is_capital : ℕ → Bool
is_capital b = eqb b A || eqb b C || eqb b G || eqb b T
