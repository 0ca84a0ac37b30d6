-- What the call returns and writes, from what the call behind it answers.
use mathlib.Core.Path.{◌≡◌, refl, ap, ◌∙◌}
use mathlib.Core.Bool.{true, false}
use mathlib.Core.List.{List}
use Prim.Native.Nat.{ℕ}
use Rattle.promises.specs.Refusal.{number_of, test_number}
use Rattle.promises.proofs.Refusing.{number_is}
use Rattle.catalogue.specs.Catalogue.{Catalogue}
use Rattle.audit_ledger.specs.Booking.{Counters}
use Rattle.audit_model.specs.declared.settings.AuditState.{AuditState}
use Rattle.audit_model.specs.Settings.{Held, audit_seed, audit_offset}
use Rattle.audit_model.specs.Opening.{IndexLent}
use Rattle.audit_model.specs.Calls.{call_outcome}
use Rattle.batch_lists.specs.declared.FragmentsAudit.{FragmentsAudit}
use Rattle.batch_lists.specs.Lists.{FragmentLists}
use Rattle.batch_lists.specs.Listed.{AuditsList}
use Rattle.c_state.specs.Layout.{state_numbers, state_in, is_state}
use Rattle.c_calls.specs.Calls.{held_in, AuditsListNumbers}
use Rattle.c_calls.proofs.Telling.{call_number}

module _ (c : Catalogue) (lent : IndexLent) (k : Counters) (l : FragmentLists) (ns rows entries : List ℕ) where
  pub no_state : is_state ns ≡ false → AuditsListNumbers c lent k l ns rows entries 26 k ns rows entries
  unfolding AuditsListNumbers
  no_state t = rw t (record { number = refl; state = refl; counters = refl; told = refl; left = refl })

  pub list_told : is_state ns ≡ true → (s : AuditState) → s ≡ state_in ns → (a : FragmentsAudit) (k' : Counters) (rows' entries' : List ℕ)
      → AuditsList audit_seed audit_offset c lent (record { state = s; counters = k }) l a k' rows entries rows' entries'
      → (ns' : List ℕ) → ns' ≡ state_numbers a.state → (r : ℕ) → r ≡ test_number a.answer → AuditsListNumbers c lent k l ns rows entries r k' ns' rows' entries'
  unfolding AuditsListNumbers
  list_told t s e a k' rows' entries' g ns' w r n =
      let b : AuditsList audit_seed audit_offset c lent (held_in ns k) l a k' rows entries rows' entries' = rw e at g in
      rw t
      (record {
        number = n ∙ call_number a.answer ∙ ap number_of b.answer ∙ number_is _ tt;
        state = w ∙ ap (λ (h : Held). state_numbers h.state) b.held;
        counters = ap (λ (h : Held). h.counters) b.held;
        told = b.told;
        left = b.left;
      })
