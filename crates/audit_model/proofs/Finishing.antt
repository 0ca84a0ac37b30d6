-- What `finish` answers by its promise.
use Rattle.std.specs.Prelude.{Result, Ok, Err}
use Rattle.promises.specs.declared.refusal.Refusal.{Refusal}
use mathlib.Core.Path.{◌≡◌, ap}
use Prim.Native.Nat.{ℕ, zero, suc}
use native.Mathlib.Omega.{arith}
use Rattle.promises.specs.Refusal.{refusal_number, refused, accepted, outcome, if_passed}
use Rattle.catalogue.specs.Catalogue.{Catalogue}
use Rattle.audit_model.specs.declared.calls.Finish.{Finish}
use Rattle.audit_model.specs.declared.sheet.Sheet.{Sheet}
use Rattle.audit_model.specs.Settings.{Held}
use Rattle.audit_model.specs.Opening.{IndexLent}
use Rattle.audit_model.specs.Sheet.{sheet_of, finish_refusal, finish_answer}
use Rattle.audit_model.specs.Calls.{call_outcome, sheet_outcome, finish_outcome, Finishes, zero_sheet}

-- by its refusal
by_refusal : (a : Result (Unit {0}) Refusal) (n : ℕ) (s : Sheet) (h : Held) → call_outcome a ≡ outcome n tt → s ≡ if_passed n (sheet_of h) zero_sheet → sheet_outcome a s ≡ outcome n (sheet_of h)
by_refusal (Err m) zero s h e f = absurd (let z : ◌≡◌ {A = ℕ} 0 1 = cc in omega arith)
by_refusal (Err m) (suc n) s h e f = let g : refusal_number m ≡ suc n = cc in ap refused g
by_refusal (Ok u) zero s h e f = ap accepted f
by_refusal (Ok u) (suc n) s h e f = absurd (let z : ◌≡◌ {A = ℕ} 0 1 = cc in omega arith)

-- its refusal, or the sheet
pub finish_outcome_lem : (q offset : ℕ) (c : Catalogue) (lent : IndexLent) (h : Held) (f : Finish) → Finishes q offset c lent h f → finish_outcome f ≡ finish_answer q offset c lent h
finish_outcome_lem q offset c lent h f p = by_refusal f.answer (finish_refusal q offset c lent h) f.sheet h p.answer p.sheet
