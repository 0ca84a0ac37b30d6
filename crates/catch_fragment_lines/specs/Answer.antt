-- The lines of a fragment's answer (REFERENCE.md, "Lines").
use Rattle.std.specs.Prelude.{List, ◌++◌, ℕ, ◌+◌, ◌*◌, ◌≤◌, length, drop, Result, Ok, Err}
use Rattle.promises.specs.declared.refusal.Refusal.{Refusal}
use Rattle.promises.specs.Refusal.{refusal_number}
use Rattle.map_answers.specs.declared.answer.Mapping.{Mapping}
use Rattle.audit_model.specs.declared.calls.FragmentRows.{FragmentRows}
use Rattle.audit_model.specs.declared.calls.FragmentRows.TheVariants as fragments
use Rattle.audit_model.specs.Calls.{mapping_row}
use Rattle.catch_lines.specs.Lines.{line_room, refusal_line}
use Rattle.catch_sheet_lines.specs.Lent.{named_room, read_told, EntriesLent}

-- its refusal by number, or the lines of each read, with the numbers of their roles; the groups of the second stand behind `width` numbers of the entries
abbrev pub lines_by : {E : Type 0} → (E → ℕ) → List (List ℕ) → ℕ → ℕ → ℕ → ℕ → Result FragmentRows E → List ℕ → List ℕ
lines_by number ns ordinal first second width (Err n) entries = refusal_line (number n)
lines_by number ns ordinal first second width (Ok (fragments.Single m)) entries = read_told ns ordinal first (mapping_row m) entries
lines_by number ns ordinal first second width (Ok (fragments.Paired m)) entries =
    read_told ns ordinal first (mapping_row m.first) entries ++ read_told ns ordinal second (mapping_row m.second) (drop width entries)

abbrev pub answer_lines : List (List ℕ) → ℕ → ℕ → ℕ → ℕ → Result FragmentRows Refusal → List ℕ → List ℕ
answer_lines = lines_by refusal_number

-- no lines of a read are longer
abbrev pub read_room : Mapping → ℕ
read_room m = line_room + m.groups * named_room

abbrev pub answer_room : {E : Type 0} → Result FragmentRows E → ℕ
answer_room (Err n) = line_room
answer_room (Ok (fragments.Single m)) = read_room m
answer_room (Ok (fragments.Paired m)) = read_room m.first + read_room m.second

-- the groups of each read stand in the entries, with targets that have names
abbrev pub AnswerLent : {E : Type 0} → List ℕ → List ℕ → List ℕ → ℕ → Result FragmentRows E → Type 0
AnswerLent identifiers ends entries width (Err n) = Unit {0}
AnswerLent identifiers ends entries width (Ok (fragments.Single m)) = EntriesLent identifiers ends entries m.groups
AnswerLent identifiers ends entries width (Ok (fragments.Paired m)) =
    EntriesLent identifiers ends entries m.first.groups × EntriesLent identifiers ends (drop width entries) m.second.groups × (width ≤ length entries)
