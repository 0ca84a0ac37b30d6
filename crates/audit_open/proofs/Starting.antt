-- What an opening leaves: its answer, the state and the counters.
use Rattle.std.specs.Prelude.{Result, Ok, Err}
use Rattle.promises.specs.declared.refusal.Refusal.{Refusal}
use mathlib.Core.Path.{◌≡◌, refl, sym, ap, ap₂, ◌∙◌}
use mathlib.Core.List.{List, ◌++◌, append-nil}
use Prim.Native.Nat.{ℕ, zero, suc, ◌+◌}
use native.Mathlib.Omega.{arith}
use lib.ListN.{length, drop, replicate, length-replicate}
use lib.Seq.{drop-length}
use Rattle.promises.specs.Refusal.{refusal_number, if_passed}
use Rattle.promises.proofs.Refusing.{outcome_refused, outcome_accepted, outcome_number}
use Rattle.catalogue.specs.Catalogue.{Catalogue, targets, mapped}
use Rattle.catalogue.specs.Ranking.{ranking_outcome}
use Rattle.buffers.specs.Placed.{placed}
use Rattle.audit_ledger.specs.Booking.{Counters, empty_counters, counters_of}
use Rattle.audit_model.specs.declared.settings.Settings.{Settings}
use Rattle.audit_model.specs.declared.settings.AuditState.{AuditState}
use Rattle.audit_model.specs.Settings.{Held, fresh_state, zero_state}
use Rattle.audit_model.specs.Opening.{IndexLent, opening_refusal, unopened, started}
use Rattle.audit_model.specs.Calls.{Opens}
use Rattle.audit_model.proofs.Opening.{opening_passed}
use Rattle.audit_checks.specs.Opens.{OpeningRanked}
use Rattle.audit_ledger.proofs.Booking.{each_counter}

-- ---- what an opening leaves

abbrev held : AuditState → Counters → Held
held state k = record { state = state; counters = k }

module _ (q offset : ℕ) (c : Catalogue) (lent : IndexLent) (s : Settings) (k : Counters) where
  module _ (r : Result ℕ Refusal) (buffer : List ℕ) (h : OpeningRanked q offset c lent s k r buffer) where
    pub opening_refused : (refusal : Refusal) → r ≡ Err refusal → (state : AuditState) → state ≡ zero_state → (k' : Counters) → k' ≡ k → Opens q offset c lent s k (record { answer = Err refusal; state = state }) k'
    opening_refused refusal told state e k' f =
        let n : ℕ = refusal_number refusal in
        let w = outcome_number (opening_refusal q offset c lent s k) n (length (mapped c)) (sym h.answer ∙ ap ranking_outcome told) in
        record {
          answer = rw w.0 (outcome_refused n tt w.1);
          held = ap₂ (λ x y. held x y) e f ∙ go n w.1 ∙ ap (λ m. if_passed m (started c s) (unopened k)) (sym w.0);
        }
      where
        go : (m : ℕ) → (m ≡ 0 → ⊥) → held zero_state k ≡ if_passed m (started c s) (unopened k)
        go zero ne = absurd (ne refl)
        go (suc m) ne = refl

    pub opening_done : (j : ℕ) → r ≡ Ok j → (state : AuditState) → state ≡ fresh_state s → (ps ss ms : List ℕ)
        → ps ≡ replicate (length k.placements) 0 → ss ≡ replicate (length k.singles) 0 → ms ≡ replicate (length k.multi) 0
        → Opens q offset c lent s k (record { answer = Ok tt; state = state }) (counters_of ps ss ms)
    opening_done j told state e ps ss ms zp zs zm =
        let w = outcome_accepted (opening_refusal q offset c lent s k) (length (mapped c)) j (sym h.answer ∙ ap ranking_outcome told) in
        let n = each_counter (length (targets c)) k (opening_passed q offset c lent s k w.0).counters in
        record {
          answer = rw w.0;
          held =
              ap₂ (λ x y. held x y) e (zeros (length (targets c)) n.placements n.singles n.multi) ∙ ap (λ m. if_passed m (started c s) (unopened k)) (sym w.0);
        }
      where
        zeros : (n : ℕ) → length k.placements ≡ n → length k.singles ≡ n → length k.multi ≡ n → counters_of ps ss ms ≡ empty_counters n
        zeros n np ns nm = cc

-- ---- numbers set to zero

-- numbers of which as many are zero as there are
pub all_zero : (b : List ℕ) → placed 0 (replicate (length b) 0) b ≡ replicate (length b) 0
all_zero b = ap (λ m. replicate (length b) 0 ++ drop m b) whole ∙ ap (λ l. replicate (length b) 0 ++ l) (drop-length b) ∙ append-nil (replicate (length b) 0)
  where
    whole : 0 + length (replicate {A = ℕ} (length b) 0) ≡ length b
    whole = omega (arith, length-replicate {A = ℕ} (length b) 0)
