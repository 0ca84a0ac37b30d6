-- The lines of a finish, answer by answer, and that they are what `catch` writes at its end.
use Rattle.std.specs.Prelude.{Result, Ok, Err}
use Rattle.promises.specs.declared.refusal.Refusal.{Refusal}
use mathlib.Core.Path.{◌≡◌, sym, ap, ◌∙◌}
use mathlib.Core.Bool.{true}
use mathlib.Core.List.{List, [], ◌∷◌}
use Prim.Native.Nat.{ℕ}
use native.Mathlib.Omega.{arith}
use lib.ListN.{length}
use Rattle.promises.specs.Refusal.{refusal_number, ◌or_else◌, outcome, if_passed}
use Rattle.promises.proofs.Refusing.{outcome_accepted, outcome_number}
use Rattle.catalogue.specs.Catalogue.{Catalogue, names, in_bounds}
use Rattle.audit_ledger.specs.Booking.{Counters}
use Rattle.audit_model.specs.declared.calls.Finish.{Finish}
use Rattle.audit_model.specs.declared.sheet.Sheet.{Sheet}
use Rattle.audit_model.specs.Settings.{Held, audit_seed, audit_offset}
use Rattle.audit_model.specs.Opening.{opening_refusal}
use Rattle.audit_model.specs.Sheet.{sheet_of, books_refusal, finish_refusal}
use Rattle.audit_model.specs.Calls.{call_outcome, zero_sheet}
use Rattle.audit_finish.specs.Tested.{FinishesTested}
use Rattle.catch_text.specs.Writing.{AddsAtMost}
use Rattle.catch_lines.specs.Lines.{line_room, refusal_line}
use Rattle.catch_sheet_lines.specs.Lent.{sheet_room, sheet_told}
use Rattle.catch_sheet_lines.proofs.Targeting.{sheet_told_lem}
use Rattle.catch_model.specs.Job.{lent_of, running, still}
use Rattle.catch_model.proofs.Steps.{finish_accepts, finish_refuses}
use Rattle.catch_finish_lines.specs.Finish.{told_by, answer_told, finish_lines}

-- ---- answer by answer

module _ {E : Type 0} (number : E → ℕ) (sheet : Sheet) (k : Counters) (ns : List (List ℕ)) (ms : List ℕ) (n : ℕ) (out : List ℕ) (at : ℕ) (out' : List ℕ) (r : ℕ) (a : Result (Unit {0}) E) where
  -- a refusal, which takes no more room than a sheet
  pub refusal_added : (e : E) → a ≡ Err e → AddsAtMost line_room (refusal_line (number e)) out at out' r → AddsAtMost (sheet_room n) (told_by number a sheet k ns ms n) out at out' r
  refusal_added e told h = rw told (record { adds = h.adds; room = omega arith })

  -- the lines of a sheet
  pub sheet_added : a ≡ Ok tt → (at' : ℕ) (k' : Counters) → AddsAtMost (sheet_room n) (sheet_told sheet k' ns ms n) out at' out' r → at' ≡ at → k' ≡ k → AddsAtMost (sheet_room n) (told_by number a sheet k ns ms n) out at out' r
  sheet_added e at' k' h here same = rw (e, sym here, sym same) h

-- ---- the end of a run

module _ (c : Catalogue) (within : in_bounds c ≡ true) (h : Held) (opened : opening_refusal audit_seed audit_offset c (lent_of c) h.state.settings h.counters ≡ 0) where
  -- where the checks pass, the books decide
  books_decide : finish_refusal audit_seed audit_offset c (lent_of c) h ≡ books_refusal h
  unfolding finish_refusal
  books_decide = ap (λ m. m or_else books_refusal h) opened

  told : (a : Result (Unit {0}) Refusal) (sheet : Sheet) → call_outcome a ≡ outcome (books_refusal h) tt → sheet ≡ if_passed (books_refusal h) (sheet_of h) zero_sheet → answer_told a sheet h.counters (names c) c.marks (length c.identifier_ends) ≡ still (running c h) (5 ∷ [])
  told (Err n) sheet e f =
      let w = outcome_number (books_refusal h) (refusal_number n) tt (sym e) in
      sym (finish_refuses c h (refusal_number n) (books_decide ∙ w.0) w.1)
  told (Ok u) sheet e f =
      let w = outcome_accepted (books_refusal h) tt tt (sym e) in
      let g : sheet ≡ sheet_of h = f ∙ ap (λ m. if_passed m (sheet_of h) zero_sheet) w.0 in
      ap (λ s. sheet_told s h.counters (names c) c.marks (length c.identifier_ends)) g ∙ sym (sheet_told_lem c within h) ∙ sym (finish_accepts c h (books_decide ∙ w.0))

  -- the lines of a finish are what `catch` writes
  pub finish_told : (r : Finish) → FinishesTested h r → finish_lines r h.counters (names c) c.marks (length c.identifier_ends) ≡ still (running c h) (5 ∷ [])
  finish_told r t = told r.answer r.sheet t.answer t.sheet
