-- The lines of a finish's answer (REFERENCE.md, "Lines").
use Rattle.std.specs.Prelude.{List, ℕ, Result, Ok, Err}
use Rattle.promises.specs.declared.refusal.Refusal.{Refusal}
use Rattle.promises.specs.Refusal.{refusal_number}
use Rattle.audit_ledger.specs.Booking.{Counters}
use Rattle.audit_model.specs.declared.calls.Finish.{Finish}
use Rattle.audit_model.specs.declared.sheet.Sheet.{Sheet}
use Rattle.catch_lines.specs.Lines.{refusal_line}
use Rattle.catch_sheet_lines.specs.Lent.{sheet_told}

-- its refusal, or the lines of its sheet, by the numbers of refusals
abbrev pub told_by : {E : Type 0} → (E → ℕ) → Result (Unit {0}) E → Sheet → Counters → List (List ℕ) → List ℕ → ℕ → List ℕ
told_by number (Err refusal) sheet k names marks n = refusal_line (number refusal)
told_by number (Ok u) sheet k names marks n = sheet_told sheet k names marks n

abbrev pub answer_told : Result (Unit {0}) Refusal → Sheet → Counters → List (List ℕ) → List ℕ → ℕ → List ℕ
answer_told = told_by refusal_number

abbrev pub finish_lines : Finish → Counters → List (List ℕ) → List ℕ → ℕ → List ℕ
finish_lines r = answer_told r.answer r.sheet
