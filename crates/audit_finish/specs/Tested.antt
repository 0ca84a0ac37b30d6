-- A finish behind the opening's checks (REFERENCE.md, "Finish").
use Rattle.std.specs.Prelude.{◌≡◌}
use Rattle.promises.specs.Refusal.{outcome, if_passed}
use Rattle.audit_model.specs.declared.calls.Finish.{Finish}
use Rattle.audit_model.specs.Settings.{Held}
use Rattle.audit_model.specs.Sheet.{books_refusal, sheet_of}
use Rattle.audit_model.specs.Calls.{call_outcome, zero_sheet}

-- 18 or its sheet
pub record FinishesTested (h : Held) (r : Finish) : Type 0 where
  pub answer : call_outcome r.answer ≡ outcome (books_refusal h) tt
  pub sheet : r.sheet ≡ if_passed (books_refusal h) (sheet_of h) zero_sheet
