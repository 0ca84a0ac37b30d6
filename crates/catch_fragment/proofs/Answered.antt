-- The answer of an audited fragment: its groups stand in the entries, and its lines have room.
use Rattle.std.specs.Prelude.{Result, Ok, Err}
use Rattle.promises.specs.declared.refusal.Refusal.{Refusal}
use mathlib.Core.Path.{◌≡◌, refl, sym, ap, subst, ◌∙◌}
use mathlib.Core.List.{List, [], ◌∷◌, map, head-eq_of_cons-eq}
use Prim.Native.Nat.{ℕ, ◌+◌, ◌*◌, ◌≤◌, ◌<◌, ◌/◌}
use native.Mathlib.Omega.{arith}
use native.Mathlib.Nat.{mul_comm}
use lib.ListN.{length, get_or, drop, length-map, length-drop}
use Rattle.lists.specs.Cut.{cut}
use Rattle.promises.specs.Refusal.{accepted}
use Rattle.promises.proofs.Refusing.{none_first, outcome_accepted}
use Rattle.index_model.specs.Index.{ranked_sequences}
use Rattle.map_every_start.specs.Entries.{entry_count}
use Rattle.map_by_index.specs.Work.{Way}
use Rattle.map_answers.specs.Answer.{Row}
use Rattle.map_search.proofs.Parts.{listed-room}
use Rattle.audit_ledger.specs.Booking.{Counters}
use Rattle.audit_counters.specs.Targets.{Targeted}
use Rattle.audit_model.specs.declared.calls.FragmentRows.{FragmentRows}
use Rattle.audit_model.specs.declared.calls.FragmentRows.TheVariants as fragments
use Rattle.audit_model.specs.declared.settings.Settings.{Settings}
use Rattle.audit_model.specs.Settings.{Held, role_number}
use Rattle.audit_model.specs.Observing.{MateRead, observe, observed_groups, observed_room, observed_row}
use Rattle.audit_model.specs.Fragment.{Fragment, first_refusal, share_of, tested_refusal, tested_rows}
use Rattle.audit_model.specs.Calls.{mapping_row, fragment_outcome, fragment_of}
use Rattle.audit_model.proofs.Checking.{tested_checked}
use Rattle.audit_book_answer.specs.Answers.{AnswerPostable}
use Rattle.audit_tested.specs.Tested.{TestedObserved}
use Rattle.audit_tested.proofs.Booked.{raisable}
use Rattle.catch_text.specs.Writing.{AddsAtMost}
use Rattle.catch_sheet_lines.specs.Lent.{ShortNames, EntriesLent}
use Rattle.catch_fragment_lines.specs.Answer.{answer_lines, answer_room, AnswerLent}
use Rattle.catch_fragments.specs.declared.FragmentHead.{FragmentHead}
use Rattle.catch_model.specs.Job.{stream_entries}
use Rattle.catch_advance.specs.Advancing.{step_room}
use Rattle.catch_advance.proofs.Advancing.{roomier}
use Rattle.catch_fragment.specs.Told.{TellLent}

-- ---- the groups of an answer

-- targets that have counters have names, where there are as many
module _ (ids ends : List ℕ) (named : ShortNames ids ends) (targets : ℕ) (each : targets ≡ length ends) where
  entries-lent : (entries : List ℕ) (n : ℕ) → Targeted n entries targets → EntriesLent ids ends entries n
  entries-lent entries n t =
      record {
        named = named;
        listed = omega (arith, t.room);
        placed = λ i h. subst (λ k. get_or entries (i * 4) 0 < k) each (subst (λ j. get_or entries j 0 < targets) (mul_comm 4 i) (t.inside i h));
      }

module _ (ids ends : List ℕ) (named : ShortNames ids ends) (k : Counters) (each : length k.placements ≡ length ends) (first second width : ℕ) (entries : List ℕ) where
  answer_named : (a : Result FragmentRows Refusal) → AnswerPostable a first second width entries k → AnswerLent ids ends entries width a
  answer_named (Err n) p = tt
  answer_named (Ok (fragments.Single m)) p = entries-lent ids ends named (length k.placements) each entries m.groups p.first_postable.targeted
  answer_named (Ok (fragments.Paired m)) p = (
    entries-lent ids ends named (length k.placements) each entries m.first.groups p.first_postable.targeted,
    entries-lent ids ends named (length k.placements) each (drop width entries) m.second.groups (p.second_postable refl).targeted,
    p.within,
  )

-- ---- the room of its lines

-- the first of two reads has no more groups than its share
abbrev FirstFew : ℕ → Result FragmentRows Refusal → Type 0
FirstFew share (Err n) = Unit {0}
FirstFew share (Ok (fragments.Single m)) = Unit {0}
FirstFew share (Ok (fragments.Paired m)) = m.first.groups ≤ share

-- the entries have 256 groups, however they are shared
answer_room_lem : (ids ends entries : List ℕ) (share : ℕ) → length entries ≡ 4 * stream_entries → (a : Result FragmentRows Refusal) → AnswerLent ids ends entries (4 * share) a → FirstFew share a → answer_room a ≤ step_room
answer_room_lem ids ends entries share whole (Err n) l f = omega arith
answer_room_lem ids ends entries share whole (Ok (fragments.Single m)) l f = omega (arith, whole, l.listed)
answer_room_lem ids ends entries share whole (Ok (fragments.Paired m)) l f = omega (arith, whole, f, l.1.listed, l.2, length-drop (4 * share) entries)

module _ (offset : ℕ) (s : Settings) (ss : List (List ℕ)) (way : Way) (share : ℕ) where
  -- a read has no more than its share
  mate_few : (r : MateRead) → observed_room s ss share (observe offset s r) ≡ 0 → (observed_row s ss way (observe offset s r)).groups ≤ share
  mate_few r z = omega (arith, listed-room share s.limit (observed_groups s ss (observe offset s r)) z)

  first_few : (reads : List MateRead) (x : Row) (xs : List Row) → map (λ (r : MateRead). observed_row s ss way (observe offset s r)) reads ≡ x ∷ xs → first_refusal (λ (r : MateRead). observed_room s ss share (observe offset s r)) reads ≡ 0 → x.groups ≤ share
  first_few [] x xs e z = absurd (omega (arith, ap length e))
  first_few (r ∷ rs) x xs e z = subst (λ (y : Row). y.groups ≤ share) (head-eq_of_cons-eq e) (mate_few r (none_first (observed_room s ss share (observe offset s r)) (first_refusal (λ (r : MateRead). observed_room s ss share (observe offset s r)) rs) z))

-- ---- an audited fragment, whatever was audited

module _ (bases base_ends ranked ks rs os ids ends bytes : List ℕ) (head : FragmentHead) (h : Held) (entries out : List ℕ) (at : ℕ)
    (lent : TellLent bases base_ends ranked ks rs os ids ends bytes head h.state.settings h.counters entries out at) (share : ℕ) (shared : share ≡ share_of h.state.settings.mode (entry_count entries))
    (entries' : List ℕ) (same : length entries' ≡ length entries) (offset : ℕ) (way : Way) where
  abbrev ss : List (List ℕ)
  ss = ranked_sequences bases base_ends ranked

  abbrev Seen : Fragment → Result FragmentRows Refusal → Type 0
  Seen f r = TestedObserved offset ss way ranked h f r entries entries'

  -- accepted, it is not refused, and each read has a row
  module _ (f : Fragment) (r : Result FragmentRows Refusal) (rows : List Row) (seen : Seen f r) (told : fragment_outcome r ≡ accepted rows) where
    unrefused : (tested_refusal offset ss ranked h f (entry_count entries) ≡ 0) × (tested_rows offset ss ranked h f way ≡ rows)
    unrefused = outcome_accepted (tested_refusal offset ss ranked h f (entry_count entries)) (tested_rows offset ss ranked h f way) rows (sym seen.answer ∙ told)

    as_many : length f.reads ≡ length rows
    as_many = sym (length-map f.reads (λ (r : MateRead). observed_row h.state.settings ss way (observe offset h.state.settings r))) ∙ ap length unrefused.1

  -- accepted, as its reads were lent
  accepted_lent : (ordinal count : ℕ) (m m' : MateRead) (rows : FragmentRows) → Seen (fragment_of ordinal count m m') (Ok rows) → AnswerLent {E = Refusal} ids ends entries' (4 * share) (Ok rows)
  accepted_lent ordinal count m m' rows seen =
      answer_named ids ends lent.named h.counters lent.each (role_number m.role) (role_number m'.role) (4 * share) entries' (Ok rows)
      (raisable offset ss way ranked h ordinal count m m' entries entries' (Ok rows) seen rows refl
      lent.tested.limit lent.tested.counters lent.tested.places (sym (length-map ranked (λ p. get_or (cut base_ends bases) p []))) share shared).postable

  -- with whatever reads: there are as many as are told
  reads_lent : (ordinal : ℕ) (reads : List MateRead) (r : Result FragmentRows Refusal) → Seen (record { ordinal = ordinal; reads = reads }) r → AnswerLent ids ends entries' (4 * share) r
  reads_lent ordinal reads (Err n) seen = tt
  reads_lent ordinal [] (Ok (fragments.Single a)) seen = absurd (omega (arith, as_many _ (Ok (fragments.Single a)) (mapping_row a ∷ []) seen refl))
  reads_lent ordinal (m ∷ []) (Ok (fragments.Single a)) seen = accepted_lent ordinal 1 m m (fragments.Single a) seen
  reads_lent ordinal (m ∷ m' ∷ ms) (Ok (fragments.Single a)) seen = absurd (omega (arith, as_many _ (Ok (fragments.Single a)) (mapping_row a ∷ []) seen refl))
  reads_lent ordinal [] (Ok (fragments.Paired a)) seen = absurd (omega (arith, as_many _ (Ok (fragments.Paired a)) (mapping_row a.first ∷ mapping_row a.second ∷ []) seen refl))
  reads_lent ordinal (m ∷ []) (Ok (fragments.Paired a)) seen = absurd (omega (arith, as_many _ (Ok (fragments.Paired a)) (mapping_row a.first ∷ mapping_row a.second ∷ []) seen refl))
  reads_lent ordinal (m ∷ m' ∷ []) (Ok (fragments.Paired a)) seen = accepted_lent ordinal 2 m m' (fragments.Paired a) seen
  reads_lent ordinal (m ∷ m' ∷ m'' ∷ ms) (Ok (fragments.Paired a)) seen = absurd (omega (arith, as_many _ (Ok (fragments.Paired a)) (mapping_row a.first ∷ mapping_row a.second ∷ []) seen refl))

  few : (f : Fragment) (r : Result FragmentRows Refusal) → Seen f r → FirstFew share r
  few f (Err n) seen = tt
  few f (Ok (fragments.Single a)) seen = tt
  few f (Ok (fragments.Paired a)) seen =
      let o = unrefused f (Ok (fragments.Paired a)) (mapping_row a.first ∷ mapping_row a.second ∷ []) seen refl in
      let z = (tested_checked offset ss way ranked h f (entry_count entries) o.0).rooms in
      first_few offset h.state.settings ss way share f.reads (mapping_row a.first) (mapping_row a.second ∷ []) o.1 (rw shared z)

  module _ (f : Fragment) (r : Result FragmentRows Refusal) (seen : Seen f r) where
    short : answer_room r ≤ step_room
    short = answer_room_lem ids ends entries' share (same ∙ lent.whole) r (reads_lent f.ordinal f.reads r seen) (few f r seen)

    -- its groups stand in the entries, and its lines have room
    pub answer_lent : AnswerLent ids ends entries' (4 * share) r × (at + answer_room r ≤ length out)
    answer_lent = (reads_lent f.ordinal f.reads r seen, omega (arith, lent.room, short))

    abbrev Written : ℕ → ℕ → List ℕ → ℕ → Type 0
    Written room width out' end = AddsAtMost room (answer_lines (cut ends ids) head.ordinal (role_number head.first.role) (role_number head.second.role) width r entries') out at out' end

    -- they are written for parts of a stream's entries
    pub answer_written : (out' : List ℕ) (end : ℕ) → Written (answer_room r) (4 * share) out' end → Written step_room (4 * share_of h.state.settings.mode stream_entries) out' end
    answer_written out' end a =
        subst (λ w. Written step_room (4 * w) out' end) (shared ∙ ap (λ n. share_of h.state.settings.mode (n / 4)) lent.whole)
        (roomier (answer_room r) step_room _ out at out' end short a)
