-- What the answers of the code stand for, and what the calls of an audit leave (REFERENCE.md, "Audit").
use Rattle.std.specs.Prelude.{◌≡◌, Bool, true, false, List, [], ◌∷◌, ℕ, zero, suc, replicate, Result, Ok, Err}
use Rattle.promises.specs.declared.refusal.Refusal.{Refusal}
use Rattle.promises.specs.Refusal.{Outcome, refused, accepted, outcome, if_passed, outcome_by, refusal_number}
use Rattle.bases.specs.Read.{read_of}
use Rattle.catalogue.specs.Catalogue.{Catalogue}
use Rattle.map_every_start.specs.Entries.{entry_count}
use Rattle.map_answers.specs.Answer.{Row, row, state_number}
use Rattle.map_answers.specs.declared.answer.Mapping.{Mapping}
use Rattle.audit_ledger.specs.Booking.{Counters, counters_of, lent_counters}
use Rattle.audit_model.specs.declared.calls.Opening.{Opening}
use Rattle.audit_model.specs.declared.calls.FragmentRows.{FragmentRows}
use Rattle.audit_model.specs.declared.calls.FragmentRows.TheVariants as fragments
use Rattle.audit_model.specs.declared.calls.FragmentAudit.{FragmentAudit}
use Rattle.audit_model.specs.declared.calls.Finish.{Finish}
use Rattle.audit_model.specs.declared.settings.AuditState.{AuditState}
use Rattle.audit_model.specs.declared.settings.MateRole.{MateRole}
use Rattle.audit_model.specs.declared.settings.Settings.{Settings}
use Rattle.audit_model.specs.declared.sheet.Sheet.{Sheet}
use Rattle.audit_model.specs.Settings.{Held, zero_state}
use Rattle.audit_model.specs.Opening.{IndexLent, columns, none, opening_refusal, opening_held}
use Rattle.audit_model.specs.Observing.{MateRead}
use Rattle.audit_model.specs.Fragment.{Fragment, fragment_answer, fragment_held, fragment_entries}
use Rattle.audit_model.specs.Sheet.{sheet_of, finish_refusal}

-- ---- what is lent

abbrev pub held_of : AuditState → List ℕ → List ℕ → List ℕ → Held
held_of state placements singles multi = record { state = state; counters = counters_of placements singles multi }

-- three columns, which are an index where it is said so
abbrev pub index_if : Bool → List ℕ → List ℕ → List ℕ → IndexLent
index_if true ks rs os = columns ks rs os
index_if false ks rs os = none

-- a read with its role, as it is lent
abbrev pub mate_of : MateRole → List ℕ → Bool → List ℕ → MateRead
mate_of role bases present qualities = record { role = role; read = read_of bases present qualities }

-- n reads of which two are lent: the second stands for all further ones, which are refused 13 whatever they are
abbrev pub fragment_reads : ℕ → MateRead → MateRead → List MateRead
fragment_reads zero first second = []
fragment_reads (suc n) first second = first ∷ replicate n second

abbrev pub fragment_of : ℕ → ℕ → MateRead → MateRead → Fragment
fragment_of ordinal count first second = record { ordinal = ordinal; reads = fragment_reads count first second }

-- ---- the same, as the slices of a call hold it when the call is made

abbrev pub lent_held : AuditState → List ℕ → List ℕ → List ℕ → Held
lent_held state placements singles multi = record { state = state; counters = lent_counters placements singles multi }

abbrev pub lent_index : Bool → List ℕ → List ℕ → List ℕ → IndexLent
lent_index indexed ks rs os = index_if indexed ks rs os

abbrev pub lent_mate : MateRole → List ℕ → Bool → List ℕ → MateRead
lent_mate role bases present qualities = mate_of role bases present qualities

-- ---- what each answer stands for

abbrev pub call_outcome : Result (Unit {0}) Refusal → Outcome (Unit {0})
call_outcome (Err n) = refused (refusal_number n)
call_outcome (Ok u) = accepted tt

-- `finish`: a refusal, or its sheet
abbrev pub sheet_by : {E : Type 0} → (E → ℕ) → Result (Unit {0}) E → Sheet → Outcome Sheet
sheet_by number answer s = outcome_by number (λ (u : Unit {0}). s) answer

abbrev pub sheet_outcome : Result (Unit {0}) Refusal → Sheet → Outcome Sheet
sheet_outcome = sheet_by refusal_number

abbrev pub finish_outcome : Finish → Outcome Sheet
finish_outcome f = sheet_outcome f.answer f.sheet

abbrev pub mapping_row : Mapping → Row
mapping_row m = row (state_number m.state) m.groups m.work

abbrev pub rows_of : FragmentRows → List Row
rows_of (fragments.Single m) = mapping_row m ∷ []
rows_of (fragments.Paired m) = mapping_row m.first ∷ mapping_row m.second ∷ []

abbrev pub fragment_by : {E : Type 0} → (E → ℕ) → Result FragmentRows E → Outcome (List Row)
fragment_by number = outcome_by number rows_of

abbrev pub fragment_outcome : Result FragmentRows Refusal → Outcome (List Row)
fragment_outcome = fragment_by refusal_number

-- ---- what the calls promise

-- an opening
pub record Opens (q offset : ℕ) (c : Catalogue) (lent : IndexLent) (s : Settings) (k : Counters) (r : Opening) (k' : Counters) : Type 0 where
  pub answer : call_outcome r.answer ≡ outcome (opening_refusal q offset c lent s k) tt
  pub held : record { state = r.state; counters = k' } ≡ opening_held q offset c lent s k

-- a fragment call
pub record Audits (q offset : ℕ) (c : Catalogue) (lent : IndexLent) (h : Held) (f : Fragment) (entries : List ℕ) (r : FragmentAudit) (k' : Counters) (entries' : List ℕ) : Type 0 where
  pub answer : fragment_outcome r.answer ≡ fragment_answer q offset c lent h f (entry_count entries)
  pub held : record { state = r.state; counters = k' } ≡ fragment_held q offset c lent h f (entry_count entries)
  pub left : entries' ≡ fragment_entries q offset c lent h f entries

-- the sheet of nothing
abbrev pub zero_sheet : Sheet
zero_sheet = sheet_of (record { state = zero_state; counters = counters_of [] [] [] })

-- `finish`
pub record Finishes (q offset : ℕ) (c : Catalogue) (lent : IndexLent) (h : Held) (r : Finish) : Type 0 where
  pub answer : call_outcome r.answer ≡ outcome (finish_refusal q offset c lent h) tt
  pub sheet : r.sheet ≡ if_passed (finish_refusal q offset c lent h) (sheet_of h) zero_sheet
