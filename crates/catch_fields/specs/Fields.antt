-- The fields of lines (REFERENCE.md, "Lines").
use Rattle.std.specs.Prelude.{cond, List, [], ◌∷◌, ℕ, zero, suc, eqb, ltb, Option, Some, None}
use Rattle.audit_model.specs.declared.sheet.PlacementTotals.{PlacementTotals}
use Rattle.catch_text.specs.Text.{text, decimal}
use Rattle.map_answers.specs.Answer.{Row}

-- the role with a number
abbrev pub role_word : ℕ → List ℕ
role_word zero = text "S"
role_word (suc zero) = text "R1"
role_word (suc (suc n)) = text "R2"

-- the number of a read's groups; '-' for states 0 to 2
abbrev pub places_word : Row → List ℕ
places_word r = cond (ltb r.state 3) (text "-") (decimal r.groups)

abbrev pub strand_word : ℕ → List ℕ
strand_word strand = cond (eqb strand 0) (text "+") (text "-")

-- three totals, or '-' for each
abbrev pub total_words : Option PlacementTotals → List (List ℕ)
total_words None = text "-" ∷ text "-" ∷ text "-" ∷ []
total_words (Some t) = decimal t.placements ∷ decimal t.singles ∷ decimal t.multi ∷ []
