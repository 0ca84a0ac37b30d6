-- The reads of a fragment as they are lent: two stand for all.
use mathlib.Core.Path.{◌≡◌, refl, sym, ap, ◌∙◌}
use mathlib.Core.Bool.{Bool, true, false}
use mathlib.Core.List.{List, map}
use Prim.Native.Nat.{ℕ, zero, suc, ◌+◌, ◌≤◌}
use native.Mathlib.Omega.{arith}
use native.Mathlib.Numerals.{add-one}
use lib.ListN.{length, length-map, length-replicate}
use Rattle.lists.proofs.Cases.{by_test}
use Rattle.lists.proofs.Same.{same_true}
use Rattle.promises.specs.Refusal.{unless, ◌or_else◌, outcome, if_passed}
use Rattle.promises.proofs.Refusing.{outcome_refused}
use Rattle.map_every_start.specs.Entries.{entry_count}
use Rattle.map_by_index.specs.Work.{Way}
use Rattle.audit_ledger.specs.Booking.{Counters}
use Rattle.audit_model.specs.declared.calls.FragmentAudit.{FragmentAudit}
use Rattle.audit_model.specs.declared.settings.AuditInputMode.{AuditInputMode}
use Rattle.audit_model.specs.declared.settings.AuditInputMode.TheVariants as modes
use Rattle.audit_model.specs.Settings.{Held, role_number, roles_of}
use Rattle.audit_model.specs.Observing.{MateRead}
use Rattle.audit_model.specs.Fragment.{Fragment, in_order, roles_right, entries_left, tested_refusal, tested_rows, tested_accepted, tested_written}
use Rattle.audit_model.specs.Calls.{fragment_reads, fragment_of}
use Rattle.audit_model.proofs.Booked.{refused_holds}
use Rattle.audit_tested.specs.Tested.{TestedAudited}
use Rattle.audit_tested.proofs.Chain.{untouched}
use Rattle.batch_lists.specs.Lists.{ReadLists, read_at, reads_from}

pub length_reads : (l : ReadLists) (at n : ℕ) → length (reads_from l at n) ≡ n
length_reads l at zero = refl
length_reads l at (suc n) = ap suc (length_reads l (suc at) n)

length-lent : (n : ℕ) (first second : MateRead) → length (fragment_reads n first second) ≡ n
length-lent zero first second = refl
length-lent (suc n) first second = ap suc (length-replicate n second)

-- ---- more reads than two are refused, whatever they are

-- no mode has so many
too_many : (mode : AuditInputMode) (reads : List MateRead) → 3 ≤ length reads → roles_right mode reads ≡ false
too_many mode reads h =
    by_test (roles_right mode reads)
    (λ t. absurd (most mode (sym (length-map reads (λ (r : MateRead). role_number r.role)) ∙ ap length (same_true (map (λ (r : MateRead). role_number r.role) reads) (roles_of mode) t))))
    (λ f. f)
  where
    most : (m : AuditInputMode) → length reads ≡ length (roles_of m) → ⊥
    most modes.SingleEnd e = omega arith
    most modes.PairedEnd e = omega arith

-- 12, else 13
abbrev crowd_refusal : Held → ℕ → ℕ
crowd_refusal h ordinal = unless (in_order h.state.last ordinal) 12 or_else 13

crowd_number : (h : Held) (ordinal : ℕ) → (crowd_refusal h ordinal ≡ 0 → ⊥) × (crowd_refusal h ordinal ≡ 10 → ⊥) × (crowd_refusal h ordinal ≡ 17 → ⊥)
crowd_number h ordinal = go (in_order h.state.last ordinal)
  where
    go : (b : Bool) → ((unless b 12 or_else 13) ≡ 0 → ⊥) × ((unless b 12 or_else 13) ≡ 10 → ⊥) × ((unless b 12 or_else 13) ≡ 17 → ⊥)
    go true = (λ e. omega arith, λ e. omega arith, λ e. omega arith)
    go false = (λ e. omega arith, λ e. omega arith, λ e. omega arith)

module _ (offset : ℕ) (ss : List (List ℕ)) (way : Way) (ranked : List ℕ) (h : Held) where
  crowd_refused : (f : Fragment) → 3 ≤ length f.reads → (entries : ℕ) → tested_refusal offset ss ranked h f entries ≡ crowd_refusal h f.ordinal
  unfolding tested_refusal
  crowd_refused f many entries = rw (too_many h.state.settings.mode f.reads many)

  -- what a refusal answers and leaves, whatever the reads are
  module _ (f f' : Fragment) (r : FragmentAudit) (k : Counters) (b b' : List ℕ) (n : ℕ) (nonzero : n ≡ 0 → ⊥) (other : (n ≡ 10 → ⊥) × (n ≡ 17 → ⊥))
      (e : tested_refusal offset ss ranked h f (entry_count b) ≡ n) (e' : tested_refusal offset ss ranked h f' (entry_count b) ≡ n) where
    refused_alike : TestedAudited offset ss way ranked h f r k b b' → TestedAudited offset ss way ranked h f' r k b b'
    refused_alike t =
        record {
          observed =
              record {
                answer =
                    t.observed.answer ∙ ap (λ z. outcome z (tested_rows offset ss ranked h f way)) e ∙ sym (outcome_refused n (tested_rows offset ss ranked h f way) nonzero)
                    ∙ outcome_refused n (tested_rows offset ss ranked h f' way) nonzero ∙ ap (λ z. outcome z (tested_rows offset ss ranked h f' way)) (sym e');
                left =
                    t.observed.left ∙ ap (λ z. entries_left z (tested_written offset ss ranked h f b) b) e ∙ untouched n nonzero other.0 other.1 (tested_written offset ss ranked h f b) b
                    ∙ sym (untouched n nonzero other.0 other.1 (tested_written offset ss ranked h f' b) b) ∙ ap (λ z. entries_left z (tested_written offset ss ranked h f' b) b) (sym e');
              };
          held =
              t.held ∙ ap (λ z. if_passed z (tested_accepted offset ss ranked h f) h) e ∙ refused_holds n nonzero (tested_accepted offset ss ranked h f) h
              ∙ sym (refused_holds n nonzero (tested_accepted offset ss ranked h f') h) ∙ ap (λ z. if_passed z (tested_accepted offset ss ranked h f') h) (sym e');
        }

  -- ---- so the first two of a list stand for its reads

  pub two_stand : (l : ReadLists) (ordinal at n : ℕ) (r : FragmentAudit) (k : Counters) (b b' : List ℕ)
      → TestedAudited offset ss way ranked h (fragment_of ordinal n (read_at l at) (read_at l (at + 1))) r k b b'
      → TestedAudited offset ss way ranked h (record { ordinal = ordinal; reads = reads_from l at n }) r k b b'
  two_stand l ordinal at zero r k b b' t = t
  two_stand l ordinal at (suc zero) r k b b' t = t
  two_stand l ordinal at (suc (suc zero)) r k b b' t = rw (← add-one at) t
  two_stand l ordinal at (suc (suc (suc n))) r k b b' t =
      let lent = fragment_of ordinal (suc (suc (suc n))) (read_at l at) (read_at l (at + 1)) in
      let listed : Fragment = record { ordinal = ordinal; reads = reads_from l at (suc (suc (suc n))) } in
      let c = crowd_number h ordinal in
      refused_alike lent listed r k b b' (crowd_refusal h ordinal) c.0 (c.1, c.2)
      (crowd_refused lent (omega (arith, length-lent (suc (suc (suc n))) (read_at l at) (read_at l (at + 1)))) (entry_count b))
      (crowd_refused listed (omega (arith, length_reads l at (suc (suc (suc n))))) (entry_count b)) t
