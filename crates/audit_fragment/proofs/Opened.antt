-- A fragment call, from the opening's checks on.
use Rattle.std.specs.Prelude.{Result, Ok, Err}
use Rattle.promises.specs.declared.refusal.Refusal.{Refusal}
use mathlib.Core.Path.{◌≡◌, refl, sym, ap, subst, subst₂, ◌∙◌}
use mathlib.Core.Bool.{Bool, true, false, ◌&&◌}
use mathlib.Core.List.{List}
use Prim.Native.Nat.{ℕ, ◌≤◌}
use native.Mathlib.Omega.{arith}
use lib.ListN.{length, take}
use Rattle.lists.proofs.Cases.{and-true}
use Rattle.promises.specs.Refusal.{refusal_number, ◌or_else◌, outcome, if_passed}
use Rattle.promises.proofs.Refusing.{stands, outcome_refused, outcome_number}
use Rattle.catalogue.specs.Catalogue.{Catalogue, targets, mapped, supplied_places, max_targets}
use Rattle.catalogue.specs.Ranking.{ranking_outcome}
use Rattle.catalogue.proofs.Checks.{bounded}
use Rattle.catalogue.proofs.Mapped.{target_count}
use Rattle.index_seeds.specs.Key.{SeedLength}
use Rattle.index_model.specs.Index.{ranked_sequences, mapped_sequences, index, columns_of, Lent, Indexed}
use Rattle.index_plan.specs.Answers.{PlanRanked}
use Rattle.index_plan.proofs.Planning.{within_buffer, prefix_length, ranked_mapped, lent}
use Rattle.map_every_start.specs.Entries.{entry_count}
use Rattle.indexed_mapper.proofs.Mapping.{mappable}
use Rattle.audit_ledger.specs.Booking.{Counters, CountersFor}
use Rattle.audit_ledger.specs.Counting as counting
use Rattle.audit_model.specs.declared.calls.FragmentAudit.{FragmentAudit}
use Rattle.audit_model.specs.declared.settings.Settings.{Settings}
use Rattle.audit_model.specs.Settings.{Held}
use Rattle.audit_model.specs.Opening.{IndexLent, way_of, index_right, opening_refusal}
use Rattle.audit_model.specs.Fragment.{Fragment, entries_left, tested_refusal, tested_rows, fragment_refusal, fragment_accepted, fragment_written}
use Rattle.audit_model.specs.Calls.{index_if, Audits}
use Rattle.audit_model.proofs.Opening.{OpeningNumber, Passed, opening_passed, opening_number}
use Rattle.audit_model.proofs.Catalogues.{places_ranked}
use Rattle.audit_model.proofs.Booked.{refused_holds}
use Rattle.audit_checks.specs.Opens.{OpeningRanked}
use Rattle.audit_ledger.proofs.Booking.{each_counter}
use Rattle.audit_checks.proofs.Ranked.{unrefused, planned}
use Rattle.audit_observe_read.specs.Observed.{way_if}
use Rattle.audit_tested.specs.Tested.{Tested, TestedAudited}
use Rattle.audit_tested.proofs.Chain.{untouched}

-- ---- the targets ranked

module _ (q offset : ℕ) (c : Catalogue) (indexed : Bool) (ks rs os : List ℕ) (s : Settings) (k : Counters) (r : Result ℕ Refusal) (buffer : List ℕ)
    (p : OpeningRanked q offset c (index_if indexed ks rs os) s k r buffer) (seed : SeedLength q) (n : ℕ) (told : r ≡ Ok n) where
  abbrev all_passed : Passed q offset c (index_if indexed ks rs os) s k
  all_passed = opening_passed q offset c (index_if indexed ks rs os) s k (unrefused q offset c (index_if indexed ks rs os) s k r buffer p n told)

  abbrev plan : PlanRanked q c r buffer
  plan = planned q offset c (index_if indexed ks rs os) s k r buffer p n told seed

  -- what a fragment is lent
  pub tested : length buffer ≤ max_targets → Tested indexed q c.bases c.base_ends (take n buffer) ks rs os s k
  tested few =
      record {
        observable = record { lent = rows; seed = seed; index = λ on. held on };
        limit = all_passed.limit;
        counters = record { few = omega (arith, count.placements, length_few); each = subst (λ m. CountersFor m k) (sym count.placements) count };
        places = subst₂ (λ m l. counting.Ranked m l) (sym count.placements) (sym (p.ranks n told)) (places_ranked c all_passed.catalogue);
      }
    where
      rows : Lent c.bases c.base_ends (take n buffer)
      rows = lent q c r buffer plan n told few

      held : (indexed && s.remap) ≡ true → Indexed q (ranked_sequences c.bases c.base_ends (take n buffer)) ks rs os
      held on =
          let b = and-true indexed s.remap on in
          let t : index_right q c (index_if indexed ks rs os) ≡ true = rw b.1 at all_passed.index_right_lem in
          let u : columns_of (index q c) ks rs os ≡ true = rw b.0 at t in
          (mappable q c.bases c.base_ends (take n buffer) ks rs os rows seed (rw (ranked_mapped q c r buffer plan n told) u)).indexed

      count : CountersFor (length (targets c)) k
      count = each_counter (length (targets c)) k all_passed.counters

      length_few : length (targets c) ≤ 4096
      length_few = let b = bounded c all_passed.catalogue.bounds in omega (arith, target_count c all_passed.catalogue.bounds, b.marked, b.few)

-- ---- the call

pub way_lent : (indexed : Bool) (q : ℕ) (ks rs os : List ℕ) → way_if indexed q ≡ way_of q (index_if indexed ks rs os)
way_lent true q ks rs os = refl
way_lent false q ks rs os = refl

module _ (q offset : ℕ) (c : Catalogue) (lent : IndexLent) (h : Held) (f : Fragment) (entries : List ℕ) where
  abbrev opening : ℕ
  opening = opening_refusal q offset c lent h.state.settings h.counters

  abbrev own : ℕ
  own = tested_refusal offset (mapped_sequences c) (supplied_places c) h f (entry_count entries)

  chain : fragment_refusal q offset c lent h f (entry_count entries) ≡ (opening or_else own)
  unfolding fragment_refusal
  chain = refl

  -- the opening's checks refuse
  pub call_refused : (refusal : Refusal) → opening ≡ refusal_number refusal → (refusal_number refusal ≡ 0 → ⊥) → Audits q offset c lent h f entries (record { answer = Err refusal; state = h.state }) h.counters entries
  call_refused refusal e ne =
      let n : ℕ = refusal_number refusal in
      record {
        answer = outcome_refused n _ ne ∙ ap (λ z. outcome z (tested_rows offset (mapped_sequences c) (supplied_places c) h f (way_of q lent))) (sym all);
        held = sym (ap (λ z. if_passed z (fragment_accepted offset c h f) h) all ∙ refused_holds n ne (fragment_accepted offset c h f) h);
        left = sym (ap (λ z. entries_left z (fragment_written offset c h f entries) entries) all ∙ untouched n ne (λ z. number.1 (e ∙ z)) (λ z. omega (arith, number.0, e, z)) (fragment_written offset c h f entries) entries);
      }
    where
      number : OpeningNumber opening
      number = opening_number q offset c lent h.state.settings h.counters

      all : fragment_refusal q offset c lent h f (entry_count entries) ≡ refusal_number refusal
      all = chain ∙ stands (refusal_number refusal) opening own ne e

  -- they pass: the rest is the fragment's own
  pub call-done : opening ≡ 0 → (r : FragmentAudit) (k : Counters) (entries' : List ℕ) → TestedAudited offset (mapped_sequences c) (way_of q lent) (supplied_places c) h f r k entries entries' → Audits q offset c lent h f entries r k entries'
  call-done e r k entries' t =
      record {
        answer = t.observed.answer ∙ ap (λ z. outcome z (tested_rows offset (mapped_sequences c) (supplied_places c) h f (way_of q lent))) (sym all);
        held = t.held ∙ ap (λ z. if_passed z (fragment_accepted offset c h f) h) (sym all);
        left = t.observed.left ∙ ap (λ z. entries_left z (fragment_written offset c h f entries) entries) (sym all);
      }
    where
      all : fragment_refusal q offset c lent h f (entry_count entries) ≡ own
      all = chain ∙ ap (λ z. z or_else own) e

-- ---- as the function has it

module _ (q offset : ℕ) (c : Catalogue) (indexed : Bool) (ks rs os : List ℕ) (h : Held) (f : Fragment) (entries : List ℕ) (r : Result ℕ Refusal) (buffer : List ℕ)
    (p : OpeningRanked q offset c (index_if indexed ks rs os) h.state.settings h.counters r buffer) where
  pub opening_stands : (refusal : Refusal) → r ≡ Err refusal → Audits q offset c (index_if indexed ks rs os) h f entries (record { answer = Err refusal; state = h.state }) h.counters entries
  opening_stands refusal told =
      let w = outcome_number (opening_refusal q offset c (index_if indexed ks rs os) h.state.settings h.counters) (refusal_number refusal) (length (mapped c)) (sym p.answer ∙ ap ranking_outcome told) in
      call_refused q offset c (index_if indexed ks rs os) h f entries refusal w.0 w.1

  module _ (seed : SeedLength q) (n : ℕ) (told : r ≡ Ok n) where
    pub within : n ≤ length buffer
    within = within_buffer q c r buffer (planned q offset c (index_if indexed ks rs os) h.state.settings h.counters r buffer p n told seed) n told

    pub prefix : n ≡ length (take n buffer)
    prefix = prefix_length q c r buffer (planned q offset c (index_if indexed ks rs os) h.state.settings h.counters r buffer p n told seed) n told

    pub opening_passes : (a : FragmentAudit) (k : Counters) (entries' : List ℕ)
        → TestedAudited offset (ranked_sequences c.bases c.base_ends (take n buffer)) (way_if indexed q) (take n buffer) h f a k entries entries' → Audits q offset c (index_if indexed ks rs os) h f entries a k entries'
    opening_passes a k entries' t =
        call-done q offset c (index_if indexed ks rs os) h f entries (unrefused q offset c (index_if indexed ks rs os) h.state.settings h.counters r buffer p n told) a k entries'
        (rw (← ranked_mapped q c r buffer (planned q offset c (index_if indexed ks rs os) h.state.settings h.counters r buffer p n told seed) n told, ← p.ranks n told, ← way_lent indexed q ks rs os) t)
