-- Where the opening's checks pass, a fragment is lent what it needs, and they pass behind it.
use Rattle.std.specs.Prelude.{Ok}
use mathlib.Core.Path.{◌≡◌, refl, sym, ap, subst, ◌∙◌}
use mathlib.Core.Bool.{true}
use mathlib.Core.List.{List}
use Prim.Native.Nat.{ℕ, ◌≤◌}
use native.Mathlib.Omega.{arith}
use lib.ListN.{length, take, length-map}
use lib.Seq.{take-length}
use Rattle.lists.specs.Filter.{filter}
use Rattle.lists.specs.Sort.{sort}
use Rattle.lists.proofs.Filter.{length_filter}
use Rattle.lists.proofs.Sort.{length_sort}
use Rattle.catalogue.specs.Catalogue.{Catalogue, Target, targets, is_mapped, by_name, mapped, supplied_places, max_targets, in_bounds}
use Rattle.catalogue.proofs.Checks.{bounded}
use Rattle.catalogue.proofs.Mapped.{target_count}
use Rattle.index_seeds.specs.Key.{SeedLength}
use Rattle.index_model.specs.Index.{ranked_sequences}
use Rattle.map_by_index.specs.Work.{by_index}
use Rattle.audit_ledger.specs.Booking.{Counters}
use Rattle.audit_ledger.proofs.Booking.{booked_lengths}
use Rattle.audit_model.specs.declared.calls.FragmentAudit.{FragmentAudit}
use Rattle.audit_model.specs.Settings.{Held, audit_seed, audit_offset, held_books}
use Rattle.audit_model.specs.Opening.{columns, opening_refusal}
use Rattle.audit_model.specs.Fragment.{Fragment, fragment_booked, fragment_accepted}
use Rattle.audit_model.specs.Calls.{Audits}
use Rattle.audit_model.proofs.Opening.{Passed, opening_passed}
use Rattle.audit_checks.specs.Opens.{OpeningRanked}
use Rattle.audit_ledger.proofs.Booking.{each_counter}
use Rattle.audit_tested.specs.Tested.{Tested, TestedAudited}
use Rattle.audit_fragment.proofs.Opened.{tested, opening_passes}
use Rattle.catch_sheet_lines.specs.Lent.{ShortNames}
use Rattle.catch_sheet_lines.proofs.Bounding.{names-lent}
use Rattle.catch_model.specs.Job.{lent_of}
use Rattle.catch_run.specs.Running.{Passes, Runs}

audit_seed_lem : SeedLength audit_seed
audit_seed_lem = record { some = omega arith; most = omega arith }

-- ---- what has passed

module _ (c : Catalogue) (h : Held) (passes : Passes c h) where
  all_passed : Passed audit_seed audit_offset c (lent_of c) h.state.settings h.counters
  all_passed = opening_passed audit_seed audit_offset c (lent_of c) h.state.settings h.counters passes

  pub within_bounds : in_bounds c ≡ true
  within_bounds = all_passed.catalogue.bounds

  pub named : ShortNames c.identifiers c.identifier_ends
  named = names-lent c within_bounds

  -- each target has a counter of each kind
  count_is : length (targets c) ≡ length c.identifier_ends
  count_is = target_count c within_bounds ∙ (bounded c within_bounds).marked

  pub each_counted : (length h.counters.placements ≡ length c.identifier_ends) × (length h.counters.singles ≡ length c.identifier_ends) × (length h.counters.multi ≡ length c.identifier_ends)
  each_counted =
      let e = each_counter (length (targets c)) h.counters all_passed.counters in
      (e.placements ∙ count_is, e.singles ∙ count_is, e.multi ∙ count_is)

  -- the checks look at settings, and at how many counters there are
  pub passes_alike : (h' : Held) → h'.state.settings ≡ h.state.settings → length h'.counters.placements ≡ length h.counters.placements
      → length h'.counters.singles ≡ length h.counters.singles → length h'.counters.multi ≡ length h.counters.multi → Passes c h'
  unfolding opening_refusal
  passes_alike h' s p t m = rw (s, p, t, m) passes

  -- so they pass behind an accepted fragment
  pub accepted_passes : (f : Fragment) → Passes c (fragment_accepted audit_offset c h f)
  accepted_passes f =
      let l = booked_lengths (supplied_places c) (fragment_booked audit_offset c h f) (held_books h) in
      passes_alike (fragment_accepted audit_offset c h f) refl l.placements l.singles l.multi

-- ---- what a fragment is lent

module _ (c : Catalogue) (ranked ks rs os : List ℕ) (h : Held) (entries : List ℕ) (lent : Runs c ranked ks rs os h entries) where
  abbrev many : ℕ
  many = length ranked

  whole : take many ranked ≡ ranked
  whole = take-length ranked

  opening_ranked : OpeningRanked audit_seed audit_offset c (columns ks rs os) h.state.settings h.counters (Ok many) ranked
  opening_ranked =
      let none : opening_refusal audit_seed audit_offset c (columns ks rs os) h.state.settings h.counters ≡ 0 = rw lent.index lent.passes in
      let n : many ≡ length (mapped c) = ap length lent.places ∙ length-map (mapped c) (λ (t : Target). t.place) in
      record { answer = rw (none, n); ranks = λ k e. (let z : many ≡ k = cc in rw (← z) (whole ∙ lent.places)) }

  few_ranked : many ≤ max_targets
  unfolding mapped
  few_ranked =
      let m = length-map (sort by_name (filter is_mapped (targets c))) (λ (t : Target). t.place) in
      omega (arith, ap length lent.places, m, length_sort by_name (filter is_mapped (targets c)), length_filter is_mapped (targets c), count_is c h lent.passes, lent.few)

  pub lent_tested : Tested true audit_seed c.bases c.base_ends ranked ks rs os h.state.settings h.counters
  lent_tested = subst (λ l. Tested true audit_seed c.bases c.base_ends l ks rs os h.state.settings h.counters) whole (tested audit_seed audit_offset c true ks rs os h.state.settings h.counters (Ok many) ranked opening_ranked audit_seed_lem many refl few_ranked)

  -- and what it leaves is what a fragment call leaves
  pub lent-audited : (f : Fragment) (a : FragmentAudit) (k' : Counters) (entries' : List ℕ) → TestedAudited audit_offset (ranked_sequences c.bases c.base_ends ranked) (by_index audit_seed) ranked h f a k' entries entries'
      → Audits audit_seed audit_offset c (lent_of c) h f entries a k' entries'
  lent-audited f a k' entries' t =
      subst (λ i. Audits audit_seed audit_offset c i h f entries a k' entries') lent.index
      (opening_passes audit_seed audit_offset c true ks rs os h f entries (Ok many) ranked opening_ranked audit_seed_lem many refl a k' entries'
      (subst (λ l. TestedAudited audit_offset (ranked_sequences c.bases c.base_ends l) (by_index audit_seed) l h f a k' entries entries') (sym whole) t))
