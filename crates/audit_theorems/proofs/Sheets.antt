-- What a run behind an accepted opening has counted, and what `finish` shows of it.
use mathlib.Core.Path.{◌≡◌, refl, sym, ap, ap₂, subst, ◌∙◌}
use mathlib.Core.Bool.{Bool, true, false, not}
use mathlib.Core.Logic.{◌↔◌, inl, inr}
use mathlib.Core.List.{List, [], ◌∷◌, map}
use Prim.Native.Nat.{ℕ, zero, suc, ◌+◌, ◌≤◌, ◌<◌}
use native.Mathlib.Omega.{arith}
use lib.ListN.{length, replicate}
use lib.Dec.{eqb, leb}
use borrow.Author.Tests.{eq-eqb, not-true}
use Rattle.lists.specs.Filter.{every}
use Rattle.lists.specs.Member.{◌∈◌, Distinct}
use Rattle.lists.specs.Sum.{sum}
use Rattle.lists.proofs.Cases.{clash}
use Rattle.lists.proofs.Every.{every-∈, every_append}
use Rattle.lists.specs.Triple.{Triple}
use Rattle.promises.specs.Refusal.{accepted, if_passed, is_refused}
use Rattle.promises.proofs.Refusing.{or_none, outcome_accepted}
use Rattle.catalogue.specs.Catalogue.{Catalogue, Target, Valid, targets, is_mapped, supplied_places}
use Rattle.index_model.specs.Index.{mapped_sequences}
use Rattle.audit_ledger.specs.Booking.{Booked, Counters, booked_all, empty_ledger, empty_counters, max_counter, countable}
use Rattle.audit_ledger.specs.Balance.{count_of, balanced}
use Rattle.audit_ledger.specs.Counting.{reads_in_state, reads_of, any_indeterminate, placements_on, singles_on, multi_on, Bookable, Counts}
use Rattle.audit_ledger.proofs.Booking.{booked_lengths}
use Rattle.audit_ledger.proofs.Counting.{booked_counts}
use Rattle.audit_ledger.proofs.Balancing.{states_sum, counts-balanced}
use Rattle.audit_model.specs.declared.settings.AuditInputMode.{AuditInputMode}
use Rattle.audit_model.specs.declared.settings.AuditInputMode.TheVariants as modes
use Rattle.audit_model.specs.declared.settings.Settings.{Settings}
use Rattle.audit_model.specs.declared.sheet.Status.{Status}
use Rattle.audit_model.specs.declared.sheet.Status.TheVariants as statuses
use Rattle.audit_model.specs.declared.sheet.PlacementTotals.{PlacementTotals}
use Rattle.audit_model.specs.declared.sheet.Sheet.{Sheet}
use Rattle.audit_model.specs.Settings.{Held, held_books, roles_of, states_shown}
use Rattle.audit_model.specs.Opening.{IndexLent, started, opening_refusal, opening_held, unopened}
use Rattle.audit_model.specs.Sheet.{shown, totals_of, run_status, sheet_of, role_shown, target_shown, finish_refusal, finish_answer}
use Rattle.audit_model.specs.Run.{Call, after, history}
use Rattle.audit_model.proofs.Opening.{opening_passed, opening_number}
use Rattle.audit_model.proofs.Catalogues.{places_ranked, target_inside}
use Rattle.audit_theorems.specs.Meaning.{SheetMeans}
use Rattle.audit_theorems.proofs.Accepting.{not_refused}
use Rattle.audit_theorems.proofs.Booking.{shown_few, state_shown, mate_bookable, settings_after, history_all}
use Rattle.audit_theorems.proofs.Running.{after_books, after_countable}

-- ---- roles, states, statuses

shown_roles : (mode : AuditInputMode) (role : ℕ) → role ∈ roles_of mode → role < 3
shown_roles modes.SingleEnd role (inr x'') = elim x'' [ ]
shown_roles modes.PairedEnd role (inr (inr x4)) = elim x4 [ ]
shown_roles modes.SingleEnd role (inl e) = omega arith
shown_roles modes.PairedEnd role (inl e) = omega arith
shown_roles modes.PairedEnd role (inr (inl e)) = omega arith

-- a number that differs from each of a list does not stand in it
not_in : (x : ℕ) (ys : List ℕ) → every (λ y. not (eqb x y)) ys ≡ true → x ∈ ys → ⊥
not_in x ys t m = clash (eq-eqb x x refl) (not-true (eqb x x) (every-∈ (λ y. not (eqb x y)) ys t x m))

distinct_states : (remap : Bool) → Distinct (states_shown remap)
distinct_states true = (not_in 1 (2 ∷ 3 ∷ 4 ∷ 5 ∷ []) refl, (not_in 2 (3 ∷ 4 ∷ 5 ∷ []) refl, (not_in 3 (4 ∷ 5 ∷ []) refl, (not_in 4 (5 ∷ []) refl, (not_in 5 [] refl, tt)))))
distinct_states false = (not_in 0 [] refl, tt)

status_shown : (status : Status) (t : PlacementTotals) → (shown status t).status ≡ status
status_shown statuses.Complete t = refl
status_shown statuses.CandidateLimit t = refl
status_shown statuses.RemapDisabled t = refl
status_shown statuses.ClosedUnsupported t = refl

totals_are : {p p' i i' m m' : ℕ} → p ≡ p' → i ≡ i' → m ≡ m' → totals_of p i m ≡ totals_of p' i' m'
totals_are a b d = λ j. totals_of (a j) (b j) (d j)

-- nothing booked
empty_countable : (n : ℕ) → countable (record { ledger = empty_ledger; counters = empty_counters n }) ≡ true
unfolding countable
empty_countable n = simp (every_append, zeros)
  where
    zeros : (m : ℕ) → every (λ x. leb x max_counter) (replicate m 0) ≡ true
    zeros zero = refl
    zeros (suc m) = zeros m

module _ (q offset : ℕ) (c : Catalogue) (lent : IndexLent) (s : Settings) (k : Counters) (begun : opening_refusal q offset c lent s k ≡ 0) (xs : List Call) where
  abbrev start : Held
  start = opening_held q offset c lent s k

  abbrev end : Held
  end = after q offset c start xs

  abbrev booked : List Booked
  booked = history q offset c start xs

  start_is : start ≡ started c s
  start_is = ap (λ n. if_passed n (started c s) (unopened k)) begun

  bookable : (b : Booked) → b ∈ booked → Bookable (length (supplied_places c)) b
  bookable = history_all q offset c s (Bookable (length (supplied_places c)))
      (mate_bookable c offset s) start (ap (λ (h : Held). h.state.settings) start_is) xs

  -- what the state and the counters count
  pub run-counts : Counts (length (targets c)) (supplied_places c) booked (held_books end)
  run-counts =
      subst (Counts (length (targets c)) (supplied_places c) booked) (sym (after_books q offset c start xs ∙ ap (λ h. booked_all (supplied_places c) booked (held_books h)) start_is))
      (booked_counts (length (targets c)) (supplied_places c) (places_ranked c (opening_passed q offset c lent s k begun).catalogue) booked bookable)

  settings_end : end.state.settings ≡ s
  settings_end = settings_after q offset c start xs ∙ ap (λ (h : Held). h.state.settings) start_is

  -- ---- what `finish` shows

  pub sheet_means : (lent' : IndexLent) (sheet : Sheet) → finish_answer q offset c lent' end ≡ accepted sheet → SheetMeans c s booked sheet end.counters
  sheet_means lent' sheet e = subst (λ (x : Sheet). SheetMeans c s booked x end.counters) (outcome_accepted (finish_refusal q offset c lent' end) (sheet_of end) sheet e).1 means
    where
      n : Counts (length (targets c)) (supplied_places c) booked (held_books end)
      n = run-counts

      right : Valid c
      right = (opening_passed q offset c lent s k begun).catalogue

      status : Status
      status = run_status s.remap (any_indeterminate booked)

      status_is : run_status end.state.settings.remap end.state.ledger.indeterminate ≡ status
      status_is = ap₂ run_status (ap (λ (x : Settings). x.remap) settings_end) n.indeterminate

      linear : (t : Target) → t ∈ targets c → is_mapped t ≡ true
          → target_shown (sheet_of end) end.counters t
          ≡ shown status (totals_of (placements_on (supplied_places c) t.place booked) (singles_on (supplied_places c) t.place booked) (multi_on (supplied_places c) t.place booked))
      linear t m on =
          let i = target_inside c right t m in
          rw (on, status_shown) (ap₂ shown status_is (totals_are (n.placements t.place i) (n.singles t.place i) (n.multi t.place i)))

      means : SheetMeans c s booked (sheet_of end) end.counters
      means =
          record {
            states = n.states;
            linear = linear;
            closed = λ t m off. rw off;
            run = ap₂ shown status_is (totals_are n.total_placements n.total_singles n.total_multi);
          }

  -- ---- the books agree

  shown_states : (b : Booked) → b ∈ booked → b.state ∈ states_shown s.remap
  shown_states = history_all q offset c s (λ b. b.state ∈ states_shown s.remap) (state_shown offset s (mapped_sequences c)) start (ap (λ (h : Held). h.state.settings) start_is) xs

  start_countable : countable (held_books (started c s)) ≡ true
  start_countable = empty_countable (length (targets c))

  end_countable : countable (held_books end) ≡ true
  end_countable = after_countable q offset c start (rw start_is start_countable) xs

  end_reads : 3 ≤ length (held_books end).ledger.reads
  end_reads = rw (after_books q offset c start xs) (omega (arith, (booked_lengths (supplied_places c) booked (held_books start)).reads, ap (λ (h : Held). length h.state.ledger.reads) start_is))

  end_balanced : balanced (roles_of s.mode) (states_shown s.remap) (held_books end) ≡ true
  end_balanced =
      counts-balanced (length (targets c)) (supplied_places c) booked (held_books end) run-counts end_countable (roles_of s.mode) (states_shown s.remap)
      (shown_roles s.mode) (distinct_states s.remap) (shown_few s.remap) shown_states end_reads

  -- `finish` makes the opening's checks, and no more can refuse it
  pub finish_opens : (lent' : IndexLent) → finish_refusal q offset c lent' end ≡ opening_refusal q offset c lent' s end.counters
  unfolding finish_refusal
  finish_opens lent' = rw (settings_end, end_balanced) (or_none (opening_refusal q offset c lent' s end.counters))

  -- so it is never refused 18
  pub never_apart : (lent' : IndexLent) → finish_refusal q offset c lent' end ≡ 18 → ⊥
  never_apart lent' e = omega (arith, (opening_number q offset c lent' s end.counters).0, sym (finish_opens lent') ∙ e)

  -- it is accepted exactly where they pass
  pub finish_accepted : (lent' : IndexLent) → (opening_refusal q offset c lent' s end.counters ≡ 0) ↔ (is_refused (finish_answer q offset c lent' end) ≡ false)
  finish_accepted lent' =
      let o = not_refused (finish_refusal q offset c lent' end) (sheet_of end) in
      (λ e. o.0 (finish_opens lent' ∙ e), λ e. sym (finish_opens lent') ∙ o.1 e)

  -- an accepted one shows as many reads of a role, over its states, as were booked
  pub role_shown_lem : (lent' : IndexLent) (sheet : Sheet) → finish_answer q offset c lent' end ≡ accepted sheet → (role : ℕ) → role ∈ roles_of sheet.mode
      → sum (map (λ (x : Triple). x.2) (role_shown sheet role)) ≡ reads_of role booked
  role_shown_lem lent' sheet e role m =
      let is : sheet_of end ≡ sheet = (outcome_accepted (finish_refusal q offset c lent' end) (sheet_of end) sheet e).1 in
      subst (λ (x : Sheet). role ∈ roles_of x.mode → sum (map (λ (x : Triple). x.2) (role_shown x role)) ≡ reads_of role booked) is of_end m
    where
      counted : (states : List ℕ) → ((x : ℕ) → x ∈ states → x < 6) → role < 3 → sum (map (λ (x : Triple). x.2) (map (λ state. (role, state, count_of end.state.ledger.table role state)) states)) ≡ sum (map (λ x. reads_in_state role x booked) states)
      counted [] few h = refl
      counted (x ∷ states) few h = ap₂ ◌+◌ (run-counts.states role x h (few x (inl refl))) (counted states (λ y m. few y (inr m)) h)

      of_end : role ∈ roles_of end.state.settings.mode → sum (map (λ (x : Triple). x.2) (role_shown (sheet_of end) role)) ≡ reads_of role booked
      of_end i =
          counted (states_shown end.state.settings.remap) (shown_few end.state.settings.remap) (shown_roles end.state.settings.mode role i)
          ∙ states_sum role (states_shown end.state.settings.remap) (distinct_states end.state.settings.remap) booked (λ b i. rw settings_end (shown_states b i))
