-- Two audits of one list of calls agree, call by call and in the sheet.
use Rattle.std.specs.Prelude.{Some}
use mathlib.Core.Path.{◌≡◌, refl, sym, ap, subst, ◌∙◌}
use mathlib.Core.Bool.{true≢false}
use mathlib.Core.List.{List, [], ◌∷◌, map, map-map, head-eq_of_cons-eq, tail-eq_of_cons-eq}
use Prim.Native.Nat.{ℕ, zero, suc, ◌*◌, ◌≤◌}
use native.Mathlib.Nat.{mul-zero}
use Rattle.audit_model.specs.Observing.{observe, observed_row, MateRead}
use Rattle.promises.specs.Refusal.{accepted, outcome, if_passed, is_refused}
use Rattle.promises.proofs.Refusing.{outcome_accepted}
use Rattle.catalogue.specs.Catalogue.{Catalogue, Valid, supplied_places}
use Rattle.index_model.specs.Index.{mapped_sequences}
use Rattle.map_every_start.specs.Entries.{entry_count}
use Rattle.map_by_index.specs.Work.{by_index, plain}
use Rattle.audit_ledger.specs.Booking.{Books}
use Rattle.audit_model.specs.declared.settings.Settings.{Settings}
use Rattle.audit_model.specs.declared.sheet.Sheet.{Sheet}
use Rattle.audit_model.specs.Settings.{Held, held_books}
use Rattle.audit_model.specs.Opening.{IndexLent, columns, none, started}
use Rattle.audit_model.specs.Fragment.{Fragment, share_of, entries_left, fragment_refusal, fragment_accepted, fragment_written}
use Rattle.audit_model.specs.Sheet.{sheet_of, targets_shown, finish_refusal, finish_answer}
use Rattle.audit_model.specs.Run.{Answer, answer_to, next, answers, after}
use Rattle.audit_model.proofs.Checking.{fragment_checked}
use Rattle.audit_model.proofs.Parts.{reads_in_parts}
use Rattle.lists.specs.Each.{Each, no_more, both}
use Rattle.audit_theorems.specs.Twins.{TwinRead, TwinCall, plain_mate, indexed_call, plain_call, TwinRow, ReadsAgree, RowsAgree, TwinAnswer, refusals, RefusedTogether, RunsAgree}
use Rattle.audit_theorems.proofs.Fragments.{all_booked, twin_row, all_agree}

module _ (q offset : ℕ) (some : 1 ≤ q) (c : Catalogue) (right : Valid c) where
  -- ---- one call

  module _ (h : Held) (x : TwinCall) where
    abbrev s : Settings
    s = h.state.settings

    abbrev lent : IndexLent
    lent = columns x.keys x.ranks x.positions

    abbrev fragment : Fragment
    fragment = (indexed_call x).fragment

    abbrev plain_fragment : Fragment
    plain_fragment = (plain_call x).fragment

    module _ (z : fragment_refusal q offset c lent h fragment (entry_count x.entries) ≡ 0) (z' : fragment_refusal q offset c none h plain_fragment (entry_count x.plain_entries) ≡ 0) where
      -- both accept it: every read agrees
      fragment_agrees : ReadsAgree c (4 * share_of s.mode (entry_count x.entries)) (4 * share_of s.mode (entry_count x.plain_entries)) x.reads
          (map (λ (r : MateRead). observed_row s (mapped_sequences c) (by_index q) (observe offset s r)) fragment.reads) (map (λ (r : MateRead). observed_row s (mapped_sequences c) plain (observe offset s r)) plain_fragment.reads)
          (fragment_written offset c h fragment x.entries) (fragment_written offset c h plain_fragment x.plain_entries)
      fragment_agrees =
          let a = (fragment_checked q offset c lent h fragment (entry_count x.entries) z).own in
          let b = (fragment_checked q offset c none h plain_fragment (entry_count x.plain_entries) z').own in
          record {
            rows = map (twin_row q offset some c right s) x.reads;
            firsts_are = map-map (λ (y : TwinRow). y.first) (twin_row q offset some c right s) x.reads ∙ sym (map-map (λ (r : MateRead). observed_row s (mapped_sequences c) (by_index q) (observe offset s r)) (λ (t : TwinRead). t.mate) x.reads);
            seconds_are = map-map (λ (y : TwinRow). y.second) (twin_row q offset some c right s) x.reads ∙ sym (map-map (λ (r : MateRead). observed_row s (mapped_sequences c) plain (observe offset s r)) plain_mate x.reads);
            each =
                all_agree q offset some c right s x.reads a.reads b.reads (4 * share_of s.mode (entry_count x.entries)) (4 * share_of s.mode (entry_count x.plain_entries)) 0
                x.entries (fragment_written offset c h fragment x.entries) x.plain_entries (fragment_written offset c h plain_fragment x.plain_entries)
                (rw mul-zero (reads_in_parts offset s (mapped_sequences c) (supplied_places c) fragment.reads x.entries a.roles a.rooms))
                (rw mul-zero (reads_in_parts offset s (mapped_sequences c) (supplied_places c) plain_fragment.reads x.plain_entries b.roles b.rooms));
          }

      -- and both hold the same
      held_same : fragment_accepted offset c h fragment ≡ fragment_accepted offset c h plain_fragment
      held_same =
          let a = (fragment_checked q offset c lent h fragment (entry_count x.entries) z).own in
          let b = (fragment_checked q offset c none h plain_fragment (entry_count x.plain_entries) z').own in
          ap (λ (k : Books). record { state = record { settings = s; last = Some x.ordinal; ledger = k.ledger }; counters = k.counters })
          (all_booked q offset some c right s x.reads a.reads b.reads (held_books h))

  -- ---- calls one after the other

  -- what both answer, from what each holds
  abbrev twin_answers : Held → Held → List TwinCall → List TwinAnswer
  twin_answers h h' [] = []
  twin_answers h h' (x ∷ xs) =
      record { first = answer_to q offset c h (indexed_call x); second = answer_to q offset c h' (plain_call x) }
      ∷ twin_answers (next q offset c h (indexed_call x)) (next q offset c h' (plain_call x)) xs

  firsts_are : (h h' : Held) (xs : List TwinCall) → map (λ (a : TwinAnswer). a.first) (twin_answers h h' xs) ≡ answers q offset c h (map indexed_call xs)
  firsts_are h h' [] = refl
  firsts_are h h' (x ∷ xs) = ap {B = List Answer} (λ l. answer_to q offset c h (indexed_call x) ∷ l) (firsts_are (next q offset c h (indexed_call x)) (next q offset c h' (plain_call x)) xs)

  seconds_are : (h h' : Held) (xs : List TwinCall) → map (λ (a : TwinAnswer). a.second) (twin_answers h h' xs) ≡ answers q offset c h' (map plain_call xs)
  seconds_are h h' [] = refl
  seconds_are h h' (x ∷ xs) = ap {B = List Answer} (λ l. answer_to q offset c h' (plain_call x) ∷ l) (seconds_are (next q offset c h (indexed_call x)) (next q offset c h' (plain_call x)) xs)

  abbrev Agrees : Settings → ℕ → TwinCall → TwinAnswer → Type 0
  Agrees s i x a = RowsAgree s c x a.first.rows a.second.rows a.first.entries a.second.entries

  -- from one state on: calls that are refused by both or by none agree, and end in one state
  abbrev CallsEnd : Settings → ℕ → List TwinCall → Held → Held → Type 0
  CallsEnd s i xs h h' = Each (Agrees s) i xs (twin_answers h h' xs) × (after q offset c h (map indexed_call xs) ≡ after q offset c h' (map plain_call xs))

  abbrev Together : List TwinCall → Held → Held → Type 0
  Together xs h h' = RefusedTogether (answers q offset c h (map indexed_call xs)) (answers q offset c h' (map plain_call xs))

  calls_agree : (xs : List TwinCall) (h : Held) (i : ℕ) → Together xs h h → CallsEnd h.state.settings i xs h h
  calls_agree [] h i e = (no_more i, refl)
  calls_agree (x ∷ xs) h i e =
      go (fragment_refusal q offset c (lent h x) h (fragment h x) (entry_count x.entries)) (fragment_refusal q offset c none h (plain_fragment h x) (entry_count x.plain_entries)) refl refl
      (λ g. calls_agree xs g (suc i)) (head-eq_of_cons-eq e) (tail-eq_of_cons-eq e)
    where
      first : ℕ → Answer
      first k = record { rows = outcome k (map (λ (r : MateRead). observed_row h.state.settings (mapped_sequences c) (by_index q) (observe offset h.state.settings r)) (fragment h x).reads); entries = entries_left k (fragment_written offset c h (fragment h x) x.entries) x.entries }

      second : ℕ → Answer
      second k = record { rows = outcome k (map (λ (r : MateRead). observed_row h.state.settings (mapped_sequences c) plain (observe offset h.state.settings r)) (plain_fragment h x).reads); entries = entries_left k (fragment_written offset c h (plain_fragment h x) x.plain_entries) x.plain_entries }

      pair : ℕ → ℕ → TwinAnswer
      pair k k' = record { first = first k; second = second k' }

      held : ℕ → Held
      held k = if_passed k (fragment_accepted offset c h (fragment h x)) h

      held' : ℕ → Held
      held' k = if_passed k (fragment_accepted offset c h (plain_fragment h x)) h

      join : (y y' : Held) → y ≡ y' → ((g : Held) → Together xs g g → CallsEnd g.state.settings (suc i) xs g g) → Together xs y y' → CallsEnd y.state.settings (suc i) xs y y'
      join y y' e ih t = subst (λ (g : Held). CallsEnd y.state.settings (suc i) xs y g) e (ih y (t ∙ ap (λ (g : Held). refusals (answers q offset c g (map plain_call xs))) (sym e)))

      go : (k k' : ℕ) → fragment_refusal q offset c (lent h x) h (fragment h x) (entry_count x.entries) ≡ k → fragment_refusal q offset c none h (plain_fragment h x) (entry_count x.plain_entries) ≡ k'
          → ((g : Held) → Together xs g g → CallsEnd g.state.settings (suc i) xs g g)
          → is_refused (first k).rows ≡ is_refused (second k').rows → Together xs (held k) (held' k')
          → Each (Agrees h.state.settings) i (x ∷ xs) (pair k k' ∷ twin_answers (held k) (held' k') xs)
          × (after q offset c (held k) (map indexed_call xs) ≡ after q offset c (held' k') (map plain_call xs))
      go zero zero z z' ih v t =
          let r = join (fragment_accepted offset c h (fragment h x)) (fragment_accepted offset c h (plain_fragment h x)) (held_same h x z z') ih t in
          (both i x (pair 0 0) xs _ (fragment_agrees h x z z') r.0, r.1)
      go zero (suc k') z z' ih v t = absurd (true≢false (sym v))
      go (suc k) zero z z' ih v t = absurd (true≢false v)
      go (suc k) (suc k') z z' ih v t = let r = ih h t in (both i x (pair (suc k) (suc k')) xs _ tt r.0, r.1)

  -- ---- the sheet

  -- two audits in one state have one sheet
  sheets_same : (lent lent' : IndexLent) (h h' : Held) → h ≡ h' → (a b : Sheet) → finish_answer q offset c lent h ≡ accepted a → finish_answer q offset c lent' h' ≡ accepted b
      → (a ≡ b) × (targets_shown a h.counters c ≡ targets_shown b h'.counters c)
  sheets_same lent lent' h h' e a b f g =
      let x = (outcome_accepted (finish_refusal q offset c lent h) (sheet_of h) a f).1 in
      let y = (outcome_accepted (finish_refusal q offset c lent' h') (sheet_of h') b g).1 in
      let same : a ≡ b = sym x ∙ ap sheet_of e ∙ y in
      (same, λ i. targets_shown (same i) (e i).counters c)

  from_one : (h : Held) (xs : List TwinCall) (lent : IndexLent) → Together xs h h
      → RunsAgree h.state.settings c xs (answers q offset c h (map indexed_call xs)) (answers q offset c h (map plain_call xs)) (after q offset c h (map indexed_call xs)) (after q offset c h (map plain_call xs))
      (finish_answer q offset c lent (after q offset c h (map indexed_call xs))) (finish_answer q offset c none (after q offset c h (map plain_call xs)))
  from_one h xs lent t =
      let r = calls_agree xs h 0 t in
      record {
        calls = record { answered = twin_answers h h xs; firsts_are = firsts_are h h xs; seconds_are = seconds_are h h xs; each = r.0 };
        sheets = sheets_same lent none (after q offset c h (map indexed_call xs)) (after q offset c h (map plain_call xs)) r.1;
      }

-- ---- from two openings

-- two audits that start alike, one by an index and one at every start, agree on one list of calls in which the second gets some reads turned
-- round, where no call is refused by one alone
pub runs_agree : (q offset : ℕ) → 1 ≤ q → (c : Catalogue) → Valid c → (s : Settings) (h h' : Held) → h ≡ started c s → h' ≡ started c s → (xs : List TwinCall) (lent : IndexLent)
    → RefusedTogether (answers q offset c h (map indexed_call xs)) (answers q offset c h' (map plain_call xs))
    → RunsAgree s c xs (answers q offset c h (map indexed_call xs)) (answers q offset c h' (map plain_call xs)) (after q offset c h (map indexed_call xs)) (after q offset c h' (map plain_call xs))
    (finish_answer q offset c lent (after q offset c h (map indexed_call xs))) (finish_answer q offset c none (after q offset c h' (map plain_call xs)))
runs_agree q offset some c right s h h' e e' xs lent = rw (e, e') (from_one q offset some c right (started c s) xs lent)
