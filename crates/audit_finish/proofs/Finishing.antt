-- What a finish answers: a refusal with the sheet of nothing, or the sheet of its state.
use Rattle.std.specs.Prelude.{Result, Ok, Err}
use Rattle.promises.specs.declared.refusal.Refusal.{Refusal}
use Rattle.promises.specs.declared.refusal.Refusal.TheVariants as refusals
use mathlib.Core.Path.{◌≡◌, refl, sym, ap, ◌∙◌}
use mathlib.Core.Bool.{Bool, true, false}
use mathlib.Core.List.{List, []}
use Prim.Native.Nat.{ℕ, zero, suc}
use native.Mathlib.Omega.{arith}
use lib.ListN.{length}
use Rattle.promises.specs.Refusal.{refusal_number, unless, ◌or_else◌, outcome, if_passed}
use Rattle.promises.proofs.Refusing.{stands, outcome_refused, outcome_accepted, outcome_number}
use Rattle.catalogue.specs.Catalogue.{Catalogue, mapped}
use Rattle.catalogue.specs.Ranking.{ranking_outcome}
use Rattle.audit_ledger.specs.Booking.{counters_of}
use Rattle.audit_model.specs.declared.settings.AuditState.{AuditState}
use Rattle.audit_model.specs.declared.sheet.Sheet.{Sheet}
use Rattle.audit_model.specs.declared.calls.Finish.{Finish}
use Rattle.audit_model.specs.Settings.{Held, zero_state}
use Rattle.audit_model.specs.Opening.{IndexLent, opening_refusal}
use Rattle.audit_model.specs.Sheet.{sheet_of, books_refusal, finish_refusal}
use Rattle.audit_model.specs.Calls.{held_of, zero_sheet, call_outcome, Finishes}
use Rattle.audit_checks.specs.Opens.{OpeningRanked}
use Rattle.audit_sheet.specs.Agreeing.{books_agree}
use Rattle.audit_finish.specs.Tested.{FinishesTested}

-- ---- a refusal

-- is told by its number
number_told : (m : ℕ) (refusal : Refusal) → m ≡ refusal_number refusal → (refusal_number refusal ≡ 0 → ⊥) → call_outcome (Err refusal) ≡ outcome m tt
number_told m refusal e ne = rw e (outcome_refused (refusal_number refusal) tt ne)

-- beside the sheet of the all-zero state
none_shown : (m n : ℕ) → m ≡ n → (n ≡ 0 → ⊥) → (h : Held) (empty : AuditState) → empty ≡ zero_state → (sheet : Sheet) → sheet ≡ sheet_of (held_of empty [] [] []) → sheet ≡ if_passed m (sheet_of h) zero_sheet
none_shown m n e ne h empty is_empty sheet of_empty = of_empty ∙ ap (λ s. sheet_of (held_of s [] [] [])) is_empty ∙ rw e (go n ne)
  where
    go : (n : ℕ) → (n ≡ 0 → ⊥) → zero_sheet ≡ if_passed n (sheet_of h) zero_sheet
    go zero z = absurd (z refl)
    go (suc n) z = refl

module _ (state : AuditState) (ps ss ms : List ℕ) where
  -- ---- behind the checks

  abbrev agreed : Bool
  agreed = books_agree state.settings.mode state.settings.remap state.ledger ps ss ms

  -- b is what the test of the books answered
  module _ (b : Bool) (answered : b ≡ agreed) where
    -- refused by the books
    pub tested_unbalanced : b ≡ false → (empty : AuditState) → empty ≡ zero_state → (nothing : Sheet) → nothing ≡ sheet_of (held_of empty [] [] [])
        → FinishesTested (held_of state ps ss ms) (record { answer = Err refusals.BooksApart; sheet = nothing })
    tested_unbalanced e empty is_empty nothing of_empty =
        let f : books_refusal (held_of state ps ss ms) ≡ 18 = ap (λ t. unless t 18) (sym answered ∙ e) in
        let ne : ◌≡◌ {A = ℕ} 18 0 → ⊥ = λ z. omega arith in
        record { answer = number_told _ refusals.BooksApart f ne; sheet = none_shown _ 18 f ne (held_of state ps ss ms) empty is_empty nothing of_empty }

    -- accepted, with the sheet of the state: a sheet reads no counters
    pub tested_done : b ≡ true → (sheet : Sheet) → sheet ≡ sheet_of (held_of state [] [] []) → FinishesTested (held_of state ps ss ms) (record { answer = Ok tt; sheet = sheet })
    tested_done e sheet shown =
        let f : books_refusal (held_of state ps ss ms) ≡ 0 = ap (λ t. unless t 18) (sym answered ∙ e) in
        record { answer = rw f; sheet = rw f shown }

  -- ---- the checks

  module _ (q offset : ℕ) (c : Catalogue) (lent : IndexLent) where
    abbrev checks : ℕ
    checks = opening_refusal q offset c lent state.settings (counters_of ps ss ms)

    -- the books are tested behind them
    refusal_is : finish_refusal q offset c lent (held_of state ps ss ms) ≡ (checks or_else books_refusal (held_of state ps ss ms))
    unfolding finish_refusal
    refusal_is = refl

    module _ (r : Result ℕ Refusal) (buffer : List ℕ) (h : OpeningRanked q offset c lent state.settings (counters_of ps ss ms) r buffer) where
      -- refused by the checks
      pub finish_refused : (refusal : Refusal) → r ≡ Err refusal → (empty : AuditState) → empty ≡ zero_state → (nothing : Sheet) → nothing ≡ sheet_of (held_of empty [] [] [])
          → Finishes q offset c lent (held_of state ps ss ms) (record { answer = Err refusal; sheet = nothing })
      finish_refused refusal told empty is_empty nothing of_empty =
          let n : ℕ = refusal_number refusal in
          let w = outcome_number checks n (length (mapped c)) (sym h.answer ∙ ap ranking_outcome told) in
          let e = refusal_is ∙ stands n checks (books_refusal (held_of state ps ss ms)) w.1 w.0 in
          record { answer = number_told _ refusal e w.1; sheet = none_shown _ n e w.1 (held_of state ps ss ms) empty is_empty nothing of_empty }

      -- passed: the answer is that behind the checks
      pub finish_behind : (k : ℕ) → r ≡ Ok k → (f : Finish) → FinishesTested (held_of state ps ss ms) f → Finishes q offset c lent (held_of state ps ss ms) f
      finish_behind k told f t =
          let w = outcome_accepted checks (length (mapped c)) k (sym h.answer ∙ ap ranking_outcome told) in
          let e : finish_refusal q offset c lent (held_of state ps ss ms) ≡ books_refusal (held_of state ps ss ms) = refusal_is ∙ ap (λ m. m or_else books_refusal (held_of state ps ss ms)) w.0 in
          record { answer = rw e t.answer; sheet = rw e t.sheet }
