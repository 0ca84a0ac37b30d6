-- The lines of `catch` (REFERENCE.md, "Lines").
use Rattle.std.specs.Prelude.{List, [], ◌∷◌, ◌++◌, ℕ}
use Rattle.catch_text.specs.Text.{text, decimal, line}
use Rattle.map_answers.specs.Answer.{Row}
use Rattle.audit_model.specs.declared.sheet.Shown.{Shown}
use Rattle.audit_model.specs.Sheet.{status_word}
use Rattle.catch_fields.specs.Fields.{role_word, places_word, strand_word, total_words}

-- no line but for its identifier is longer
abbrev pub line_room : ℕ
line_room = 128

-- E number
abbrev pub refusal_line : ℕ → List ℕ
refusal_line n = line (text "E" ∷ decimal n ∷ [])

-- R ordinal, role, state, places
abbrev pub read_line : ℕ → ℕ → Row → List ℕ
read_line ordinal role r = line (text "R" ∷ decimal ordinal ∷ role_word role ∷ decimal r.state ∷ places_word r ∷ [])

-- G identifier, start, end, strand
abbrev pub group_line : List ℕ → ℕ → ℕ → ℕ → List ℕ
group_line name start end strand = line (text "G" ∷ name ∷ decimal start ∷ decimal end ∷ strand_word strand ∷ [])

-- S role, state, count
abbrev pub count_line : ℕ → ℕ → ℕ → List ℕ
count_line role state count = line (text "S" ∷ role_word role ∷ decimal state ∷ decimal count ∷ [])

-- T identifier, placements, singles, multi, status
abbrev pub target_line : List ℕ → Shown → List ℕ
target_line name shown = line (text "T" ∷ name ∷ total_words shown.totals ++ text (status_word shown.status) ∷ [])

-- A status and the three totals
abbrev pub run_line : Shown → List ℕ
run_line shown = line (text "A" ∷ text (status_word shown.status) ∷ total_words shown.totals)
