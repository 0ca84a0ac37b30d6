-- Which reads are eligible, and which refusal a read meets (REFERENCE.md, "Eligibility").
use Rattle.std.specs.Prelude.{Bool, true, false, cond, ◌&&◌, List, [], ◌∷◌, ℕ, ◌-◌, length, ltb, leb, eqb, Result, Ok, Err}
use Rattle.promises.specs.declared.refusal.Refusal.{Refusal}
use Rattle.promises.specs.Refusal.{refusal_number}
use Rattle.bases.specs.Read.{Qualities, absent, given, Read, letters}

-- what is decided of a read: refused by a number, ineligible, or eligible
pub data Verdict : Type 0 where
  refused : ℕ → Verdict
  ineligible : Verdict
  eligible : Verdict

-- what each answer of the code stands for
abbrev pub verdict_of : Result Bool Refusal → Verdict
verdict_of (Err e) = refused (refusal_number e)
verdict_of (Ok false) = ineligible
verdict_of (Ok true) = eligible

infixr 25 ◌then◌
-- the first test decides, unless the read is eligible by it; then the second does
abbrev pub ◌then◌ : Verdict → Verdict → Verdict
refused n then v = refused n
ineligible then v = ineligible
eligible then v = v

-- 14: no bases
abbrev pub empty_test : List ℕ → Verdict
empty_test [] = refused 14
empty_test (b ∷ bs) = eligible

-- 15: as many qualities as bases
abbrev pub length_test : List ℕ → List ℕ → Verdict
length_test qs bs = cond (eqb (length qs) (length bs)) eligible (refused 15)

-- the greatest quality byte
abbrev pub last_quality : ℕ
last_quality = 126

-- 16: a byte outside the offset to the greatest; a byte less the offset below the floor makes the read ineligible
abbrev pub quality_test : ℕ → ℕ → ℕ → Verdict
quality_test floor offset q = cond (leb offset q && leb q last_quality) (cond (ltb (q - offset) floor) ineligible eligible) (refused 16)

-- the qualities from left to right
abbrev pub qualities_test : ℕ → ℕ → List ℕ → Verdict
qualities_test floor offset [] = eligible
qualities_test floor offset (q ∷ qs) = quality_test floor offset q then qualities_test floor offset qs

-- absent qualities are not tested
abbrev pub given_test : ℕ → ℕ → Qualities → List ℕ → Verdict
given_test floor offset absent bs = eligible
given_test floor offset (given qs) bs = length_test qs bs then qualities_test floor offset qs

-- each base is a letter of ACGT in either case
abbrev pub bases_test : List ℕ → Verdict
bases_test bs = cond (letters bs) eligible ineligible

-- the verdict on a read, for a quality floor and the offset of the quality bytes
unfoldable pub eligibility : ℕ → ℕ → Read → Verdict
eligibility floor offset r = empty_test r.bases then given_test floor offset r.qualities r.bases then bases_test r.bases
