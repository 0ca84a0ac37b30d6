-- Answers as numbers, and a buffer that they are written to (REFERENCE.md, "Exports").
use Rattle.std.specs.Prelude.{◌≡◌, List, [], ◌∷◌, ℕ}
use Rattle.promises.specs.Refusal.{Outcome, refused, accepted, number_of}
use Rattle.buffers.specs.Placed.{placed}
use Rattle.index_plan.specs.declared.Counts.{Counts}

-- ---- answers as numbers; all but the first are zero where the call is refused

-- refusal, mapped targets, postings
abbrev pub plan_numbers : Outcome Counts → List ℕ
plan_numbers (refused n) = n ∷ 0 ∷ 0 ∷ []
plan_numbers (accepted k) = 0 ∷ k.targets ∷ k.postings ∷ []

-- refusal, postings built
abbrev pub build_numbers : Outcome ℕ → List ℕ
build_numbers (refused n) = n ∷ 0 ∷ []
build_numbers (accepted k) = 0 ∷ k ∷ []

-- ---- the buffer of the answer

-- the numbers of an outcome are written at the front of a buffer with room for them, and its refusal is returned
pub record Put {A : Type 0} (numbers : Outcome A → List ℕ) (o : Outcome A) (r : ℕ) (answer answer' : List ℕ) : Type 0 where
  pub number : r ≡ number_of o
  pub written : answer' ≡ placed 0 (numbers o) answer
