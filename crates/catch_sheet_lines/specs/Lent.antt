-- What the slices of a call hold where the lines of groups, counts and targets are written (REFERENCE.md, "Lines").
use Rattle.std.specs.Prelude.{List, [], ◌++◌, ℕ, zero, suc, ◌+◌, ◌*◌, ◌≤◌, ◌<◌, length, get_or, drop, eqb}
use Rattle.lists.specs.Cut.{cut}
use Rattle.identifiers.specs.Lent.{EndsRight}
use Rattle.catalogue.specs.Catalogue.{max_identifier}
use Rattle.map_answers.specs.Answer.{Row}
use Rattle.audit_ledger.specs.Booking.{Counters}
use Rattle.audit_model.specs.declared.sheet.Status.{Status}
use Rattle.audit_model.specs.declared.sheet.Sheet.{Sheet}
use Rattle.audit_model.specs.Sheet.{totals_of, row_shown, counts_shown}
use Rattle.catch_lines.specs.Lines.{line_room, read_line, group_line, target_line, run_line}
use Rattle.catch_sheet_lines.specs.Sheets.{count_lines}

-- no line is longer
abbrev pub named_room : ℕ
named_room = 383

-- no counts of a role are longer than five lines, nor those of two roles than ten
abbrev pub role_room : ℕ
role_room = 640

abbrev pub counts_room : ℕ
counts_room = 1280

-- names, none longer than an identifier may be
pub record ShortNames (identifiers ends : List ℕ) : Type 0 where
  pub right : EndsRight identifiers ends
  pub short : (i : ℕ) → length (get_or (cut ends identifiers) i []) ≤ max_identifier

-- ---- groups

-- G for the entry with a number: four numbers, the place of a target, start, end and strand
abbrev pub entry_line : List (List ℕ) → List ℕ → ℕ → List ℕ
entry_line names entries i = group_line (get_or names (get_or entries (i * 4) 0) []) (get_or entries (i * 4 + 1) 0) (get_or entries (i * 4 + 2) 0) (get_or entries (i * 4 + 3) 0)

-- those of the first n
abbrev pub entry_lines : List (List ℕ) → ℕ → List ℕ → List ℕ
entry_lines names zero entries = []
entry_lines names (suc n) entries = entry_line names entries 0 ++ entry_lines names n (drop 4 entries)

-- R for a read with the number of its role, and G for its groups, which stand at the front of the entries
abbrev pub read_told : List (List ℕ) → ℕ → ℕ → Row → List ℕ → List ℕ
read_told names ordinal role r entries = read_line ordinal role r ++ entry_lines names r.groups entries

-- the entry is there, and its target has a name
pub record EntryLent (identifiers ends entries : List ℕ) (i : ℕ) : Type 0 where
  pub named : ShortNames identifiers ends
  pub listed : i * 4 + 4 ≤ length entries
  pub placed : get_or entries (i * 4) 0 < length ends

-- and so are the first n
pub record EntriesLent (identifiers ends entries : List ℕ) (n : ℕ) : Type 0 where
  pub named : ShortNames identifiers ends
  pub listed : n * 4 ≤ length entries
  pub placed : (i : ℕ) → i < n → get_or entries (i * 4) 0 < length ends

-- ---- targets

-- T for the target at a place, with a status of the run
abbrev pub place_line : Status → Counters → List (List ℕ) → List ℕ → ℕ → List ℕ
place_line status k names marks i =
    target_line (get_or names i []) (row_shown status (eqb (get_or marks i 0) 0) (totals_of (get_or k.placements i 0) (get_or k.singles i 0) (get_or k.multi i 0)))

-- those of the first n
abbrev pub place_lines : Status → Counters → List (List ℕ) → List ℕ → ℕ → List ℕ
place_lines status k names marks zero = []
place_lines status k names marks (suc n) = place_lines status k names marks n ++ place_line status k names marks n

-- each of n targets has a name, a mark and counters
pub record TargetsLent (identifiers ends marks placements singles multi : List ℕ) (n : ℕ) : Type 0 where
  pub named : ShortNames identifiers ends
  pub ended : n ≤ length ends
  pub marked : n ≤ length marks
  pub placed : n ≤ length placements
  pub single : n ≤ length singles
  pub several : n ≤ length multi

-- ---- a sheet

-- no sheet of n targets is longer
abbrev pub sheet_room : ℕ → ℕ
sheet_room n = counts_room + n * named_room + line_room

-- S, T and A, with n targets
abbrev pub sheet_told : Sheet → Counters → List (List ℕ) → List ℕ → ℕ → List ℕ
sheet_told sheet k names marks n = count_lines (counts_shown sheet) ++ place_lines sheet.run.status k names marks n ++ run_line sheet.run
