-- The reads of a fragment, from their checks to what is observed of them.
use Rattle.std.specs.Prelude.{Result, Ok, Err}
use Rattle.promises.specs.declared.refusal.Refusal.{Refusal}
use mathlib.Core.Path.{◌≡◌, refl, sym, ap, subst, ◌∙◌}
use mathlib.Core.Bool.{Bool, true, false, cond, ◌&&◌, true≢false}
use mathlib.Core.List.{List, map}
use Prim.Native.Nat.{ℕ}
use native.Mathlib.Omega.{arith}
use lib.ListN.{length}
use borrow.Author.Tests.{leb-true}
use Rattle.lists.proofs.Cases.{by_test, and-true}
use Rattle.promises.specs.Refusal.{refusal_number, unless, outcome}
use Rattle.promises.proofs.Refusing.{none_first, none_second, passed, outcome_accepted, outcome_number}
use Rattle.bases.specs.Read.{Read, letters}
use Rattle.bases.specs.Eligibility.{Verdict, ineligible, eligible, ◌then◌, empty_test, given_test, bases_test, eligibility}
use Rattle.bases.specs.Eligibility as judged
use Rattle.map_places.specs.Place.{max_read}
use Rattle.map_every_start.specs.Entries.{entry_count}
use Rattle.map_by_index.specs.Work.{Way}
use Rattle.map_answers.specs.Bounds.{length_right}
use Rattle.audit_ledger.specs.Booking.{Counters}
use Rattle.audit_ledger.specs.declared.Ledger.{Ledger}
use Rattle.audit_model.specs.declared.calls.FragmentRows.{FragmentRows}
use Rattle.audit_model.specs.declared.settings.AuditInputMode.{AuditInputMode}
use Rattle.audit_model.specs.declared.settings.AuditInputMode.TheVariants as modes
use Rattle.audit_model.specs.declared.settings.Settings.{Settings}
use Rattle.audit_model.specs.Settings.{Held, role_number}
use Rattle.audit_model.specs.Observing.{MateRead, is_eligible, observed_row, mate_refusal, is_searched}
use Rattle.audit_model.specs.Fragment.{first_refusal}
use Rattle.audit_model.specs.Calls.{fragment_of}
use Rattle.audit_read_checks.specs.Checks.{by_mode, if_paired, checks_outcome}
use Rattle.audit_read_checks.specs.declared.SearchedReads.{SearchedReads}
use Rattle.audit_observe_read.specs.Observed.{way_if, ReadPassed, as_observed}
use Rattle.audit_roles.specs.Order.{order_refusal}
use Rattle.audit_observe_fragment.specs.Observe.{observed_refusal, RankedLent, RankedObserved}
use Rattle.audit_tested.specs.Tested.{Tested, TestedObserved}
use Rattle.audit_tested.proofs.Joining.{by_reads, by_ranked}

-- ---- a read that passed its checks

then_eligible : (v w : Verdict) → is_eligible (v then w) ≡ true → is_eligible w ≡ true
then_eligible (judged.refused n) w e = absurd (true≢false (sym e))
then_eligible ineligible w e = absurd (true≢false (sym e))
then_eligible eligible w e = e

eligible_letters : (floor offset : ℕ) (r : Read) → is_eligible (eligibility floor offset r) ≡ true → letters r.bases ≡ true
unfolding eligibility
eligible_letters floor offset r e = go (letters r.bases) (then_eligible (given_test floor offset r.qualities r.bases) (bases_test r.bases) (then_eligible (empty_test r.bases) _ e))
  where
    go : (b : Bool) → is_eligible (cond b eligible ineligible) ≡ true → b ≡ true
    go true f = refl
    go false f = f

-- a read that is searched has letters only, and is within its bound
mate_passed : (offset : ℕ) (s : Settings) (m : MateRead) (b : Bool) → (b ≡ true → is_searched offset s m ≡ true) → (b ≡ true → mate_refusal offset s m ≡ 0) → ReadPassed b m.read.bases
mate_passed offset s m b told unrefused =
    record {
      letters_right = λ e. eligible_letters s.floor offset m.read (and-true s.remap _ (told e)).1;
      short = λ e. leb-true (length m.read.bases) max_read (passed (length_right m.read.bases) 7 (λ z. omega arith) (none_first (unless (length_right m.read.bases) 7) _ (unrefused e)));
    }

-- both reads, where no read of the mode is refused
module _ (offset : ℕ) (s : Settings) (m m' : MateRead) where
  first_passed : (mode : AuditInputMode) → first_refusal (mate_refusal offset s) (by_mode mode m m') ≡ 0 → (b : Bool) → is_searched offset s m ≡ b → ReadPassed b m.read.bases
  first_passed modes.SingleEnd z b e = mate_passed offset s m b (λ t. e ∙ t) (λ t. none_first (mate_refusal offset s m) _ z)
  first_passed modes.PairedEnd z b e = mate_passed offset s m b (λ t. e ∙ t) (λ t. none_first (mate_refusal offset s m) _ z)

  second_passed : (mode : AuditInputMode) → first_refusal (mate_refusal offset s) (by_mode mode m m') ≡ 0 → (b : Bool) → if_paired mode (is_searched offset s m') ≡ b → ReadPassed b m'.read.bases
  second_passed modes.SingleEnd z b e = mate_passed offset s m' b (λ t. absurd (true≢false (sym (e ∙ t)))) (λ t. absurd (true≢false (sym (e ∙ t))))
  second_passed modes.PairedEnd z b e = mate_passed offset s m' b (λ t. e ∙ t) (λ t. none_first (mate_refusal offset s m') _ (none_second (mate_refusal offset s m) _ z))

-- ---- the way of searching, where no read is searched

-- two reads that are not searched are observed alike either way
unsearched : (s : Settings) (ss : List (List ℕ)) (way way' : Way) (ranked : List ℕ) (a b : ℕ) (first second : List ℕ) (l : Ledger) (k : Counters) (r : Result FragmentRows Refusal) (buffer buffer' : List ℕ)
    → RankedObserved s ss way ranked a b (as_observed false first) (as_observed false second) l k r buffer buffer' → RankedObserved s ss way' ranked a b (as_observed false first) (as_observed false second) l k r buffer buffer'
unsearched s ss way way' ranked a b first second l k r buffer buffer' seen = record { answer = seen.answer ∙ ap (λ z. outcome (observed_refusal s ss way ranked a b (as_observed false first) (as_observed false second) l k (entry_count buffer)) z) (rows s.mode); entries = seen.entries }
  where
    rows : (mode : AuditInputMode) → map (observed_row s ss way) (by_mode mode (as_observed false first) (as_observed false second)) ≡ map (observed_row s ss way') (by_mode mode (as_observed false first) (as_observed false second))
    rows modes.SingleEnd = refl
    rows modes.PairedEnd = refl

not_paired : (mode : AuditInputMode) → if_paired mode false ≡ false
not_paired modes.SingleEnd = refl
not_paired modes.PairedEnd = refl

-- ---- a fragment whose order and roles are right

module _ (offset : ℕ) (ss : List (List ℕ)) (indexed : Bool) (q : ℕ) (ranked : List ℕ) (h : Held) (ordinal count : ℕ) (m m' : MateRead) (buffer : List ℕ) where
  abbrev s : Settings
  s = h.state.settings

  abbrev Seen : Result FragmentRows Refusal → List ℕ → Type 0
  Seen r b = TestedObserved offset ss (way_if indexed q) ranked h (fragment_of ordinal count m m') r buffer b

  module _ (r : Result SearchedReads Refusal)
      (checks : checks_outcome r ≡ outcome (first_refusal (mate_refusal offset s) (by_mode s.mode m m')) (is_searched offset s m, if_paired s.mode (is_searched offset s m'))) where
    -- a read is refused
    pub reads_refused : order_refusal h.state.last ordinal s.mode count (role_number m.role) (role_number m'.role) ≡ 0 → (refusal : Refusal) → r ≡ Err refusal → Seen (Err refusal) buffer
    reads_refused ordered refusal told =
        let w = outcome_number (first_refusal (mate_refusal offset s) (by_mode s.mode m m')) (refusal_number refusal) _ (sym checks ∙ ap checks_outcome told) in
        by_reads offset ss (way_if indexed q) ranked h ordinal count m m' buffer ordered refusal w.0

    module _ (p : SearchedReads) (told : r ≡ Ok p) where
      reads_passed : (first_refusal (mate_refusal offset s) (by_mode s.mode m m') ≡ 0) × (◌≡◌ {A = Bool × Bool} (is_searched offset s m, if_paired s.mode (is_searched offset s m')) (p.first, p.second))
      reads_passed = outcome_accepted (first_refusal (mate_refusal offset s) (by_mode s.mode m m')) _ (p.first, p.second) (sym checks ∙ ap checks_outcome told)

      first_is : is_searched offset s m ≡ p.first
      first_is = ap (λ (z : Bool × Bool). z.0) reads_passed.1

      second_is : if_paired s.mode (is_searched offset s m') ≡ p.second
      second_is = ap (λ (z : Bool × Bool). z.1) reads_passed.1

      -- what they are observed in
      pub ranked_lent : (bases ends ks rs os : List ℕ) → Tested indexed q bases ends ranked ks rs os s h.counters → (searchable : Bool) → searchable ≡ (indexed && s.remap)
          → RankedLent searchable q bases ends ranked ks rs os m.read.bases m'.read.bases p s h.counters
      ranked_lent bases ends ks rs os t searchable e =
          record {
            observable = rw e t.observable;
            first_passed = first_passed offset s m m' s.mode reads_passed.0 p.first first_is;
            second_passed = second_passed offset s m m' s.mode reads_passed.0 p.second second_is;
            limit = t.limit;
            counters = t.counters;
            places = t.places;
          }

      abbrev Ranked : Way → SearchedReads → Result FragmentRows Refusal → List ℕ → Type 0
      Ranked way p a b = RankedObserved s ss way ranked (role_number m.role) (role_number m'.role) (as_observed p.first m.read.bases) (as_observed p.second m'.read.bases) h.state.ledger h.counters a buffer b

      -- by the index or not, as if it had been tested
      either_way : (a : Result FragmentRows Refusal) (b : List ℕ) → Ranked (way_if (indexed && s.remap) q) p a b → Ranked (way_if indexed q) p a b
      either_way a b = by_test s.remap on off
        where
          on : s.remap ≡ true → Ranked (way_if (indexed && s.remap) q) p a b → Ranked (way_if indexed q) p a b
          on e seen = subst (λ way. Ranked way p a b) (ap (λ t. way_if (indexed && t) q) e ∙ ap (λ t. way_if t q) (and_on indexed)) seen
            where
              and_on : (t : Bool) → (t && true) ≡ t
              and_on true = refl
              and_on false = refl

          off : s.remap ≡ false → Ranked (way_if (indexed && s.remap) q) p a b → Ranked (way_if indexed q) p a b
          off e seen =
              let x : p.first ≡ false = sym first_is ∙ ap (λ t. t && is_eligible (eligibility s.floor offset m.read)) e in
              let y : p.second ≡ false = sym second_is ∙ ap (λ t. if_paired s.mode (t && is_eligible (eligibility s.floor offset m'.read))) e ∙ not_paired s.mode in
              rw (x, y) (unsearched s ss (way_if (indexed && s.remap) q) (way_if indexed q) ranked (role_number m.role) (role_number m'.role) m.read.bases m'.read.bases h.state.ledger h.counters a buffer b (rw (x, y) at seen))

      -- observed
      pub reads_observed : order_refusal h.state.last ordinal s.mode count (role_number m.role) (role_number m'.role) ≡ 0 → (searchable : Bool) → searchable ≡ (indexed && s.remap)
          → (a : Result FragmentRows Refusal) (b : List ℕ) → Ranked (way_if searchable q) p a b → Seen a b
      reads_observed ordered searchable e a b seen =
          by_ranked offset ss (way_if indexed q) ranked h ordinal count m m' buffer ordered reads_passed.0 (as_observed p.first m.read.bases) (as_observed p.second m'.read.bases)
          (ap (λ t. as_observed t m.read.bases) (sym first_is)) (λ z. ap (λ t. as_observed t m'.read.bases) (sym second_is ∙ ap (λ mode. if_paired mode (is_searched offset s m')) z))
          a b (either_way a b (rw e at seen))
