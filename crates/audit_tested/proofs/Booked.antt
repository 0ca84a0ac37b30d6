-- An observed fragment booked.
use Rattle.std.specs.Prelude.{Result, Ok, Err, Some}
use Rattle.promises.specs.declared.refusal.Refusal.{Refusal}
use mathlib.Core.Path.{◌≡◌, refl, sym, ap, ap₂, ◌∙◌}
use mathlib.Core.Bool.{true}
use mathlib.Core.List.{List, map}
use Prim.Native.Nat.{ℕ, ◌*◌}
use lib.ListN.{length}
use Rattle.promises.specs.Refusal.{refusal_number, outcome, if_passed}
use Rattle.promises.proofs.Refusing.{outcome_number}
use Rattle.map_every_start.specs.Entries.{entry_count, cleared}
use Rattle.map_by_index.specs.Work.{Way}
use Rattle.map_answers.specs.Bounds.{limit_right}
use Rattle.audit_ledger.specs.Booking.{Books, Counters, booked_all}
use Rattle.audit_ledger.specs.Counting.{Ranked}
use Rattle.audit_book_fragment.specs.Books.{CountersLent, posted_all, books_small}
use Rattle.audit_model.specs.declared.calls.FragmentRows.{FragmentRows}
use Rattle.audit_model.specs.declared.settings.AuditState.{AuditState}
use Rattle.audit_model.specs.declared.settings.Settings.{Settings}
use Rattle.audit_model.specs.Settings.{Held, held_books, role_number}
use Rattle.audit_model.specs.Observing.{MateRead, Observed, observe, observed_room, observed_entries, observed_row, mate_booked, observed_booked}
use Rattle.audit_model.specs.Fragment.{Fragment, first_refusal, share_of, in_parts, entries_left, tested_books, tested_refusal, tested_rows, tested_accepted}
use Rattle.audit_model.specs.Calls.{fragment_outcome, fragment_reads, fragment_of}
use Rattle.audit_model.proofs.Checking.{TestedChecked, tested_checked}
use Rattle.audit_model.proofs.Booked.{few_roles, refused_holds}
use Rattle.audit_read_checks.specs.Checks.{by_mode}
use Rattle.audit_observe_reads.specs.Reads.{rooms_refusal, ReadsObserved}
use Rattle.audit_observe_reads.proofs.Fragment.{not_refused}
use Rattle.audit_book_answer.specs.Answers.{answer_reads, answer_booked, AnswerRaisable}
use Rattle.audit_book_answer.proofs.Posted.{posted_all_lem, books_countable}
use Rattle.audit_observe_fragment.proofs.Observed.{AnswerTold, told}
use Rattle.audit_tested.specs.Tested.{TestedObserved, TestedAudited}
use Rattle.audit_tested.proofs.Chain.{roles_same, reads_by_mode}
use Rattle.audit_tested.proofs.Joining.{by_mates, rooms_same, booked_same}

module _ (offset : ℕ) (ss : List (List ℕ)) (way : Way) (ranked : List ℕ) (h : Held) (ordinal count : ℕ) (m m' : MateRead) (buffer entries : List ℕ) (r : Result FragmentRows Refusal)
    (seen : TestedObserved offset ss way ranked h (fragment_of ordinal count m m') r buffer entries) where
  abbrev s : Settings
  s = h.state.settings

  abbrev f : Fragment
  f = fragment_of ordinal count m m'

  abbrev refusal : ℕ
  refusal = tested_refusal offset ss ranked h f (entry_count buffer)

  -- refused, everything is held as it was
  pub audit_refused : (e : Refusal) → r ≡ Err e → (k : Counters) → k ≡ h.counters → TestedAudited offset ss way ranked h f (record { answer = r; state = h.state }) k buffer entries
  audit_refused e told k same =
      let w = outcome_number refusal (refusal_number e) (tested_rows offset ss ranked h f way) (sym seen.answer ∙ ap fragment_outcome told) in
      record {
        observed = seen;
        held = ap {B = Held} (λ z. record { state = h.state; counters = z }) same ∙ sym (refused_holds refusal (λ z. w.1 (sym w.0 ∙ z)) (tested_accepted offset ss ranked h f) h);
      }

  -- accepted
  module _ (rows : FragmentRows) (is : r ≡ Ok rows) where
    accepted : (e : Refusal) → r ≡ Err e → ⊥
    accepted e told = cc

    unrefused : refusal ≡ 0
    unrefused = not_refused rows refusal (tested_rows offset ss ranked h f way) (ap fragment_outcome (sym is) ∙ seen.answer)

    checked : TestedChecked offset ss way ranked h f (entry_count buffer)
    checked = tested_checked offset ss way ranked h f (entry_count buffer) unrefused

    reads_are : fragment_reads count m m' ≡ by_mode s.mode m m'
    reads_are = reads_by_mode s.mode count m m' (sym (roles_same s.mode count m m') ∙ checked.roles)

    abbrev one : Observed
    one = observe offset s m

    abbrev two : Observed
    two = observe offset s m'

    abbrev rooms : ℕ
    rooms = rooms_refusal s ss way ranked (by_mode s.mode one two) (entry_count buffer)

    rooms_pass : rooms ≡ 0
    rooms_pass = rooms_same offset s m m' one two refl (λ e. refl) (observed_room s ss (share_of s.mode (entry_count buffer))) ∙ ap (first_refusal _) (sym reads_are) ∙ checked.rooms

    -- its reads were observed
    reads_seen : ReadsObserved s ss way ranked (by_mode s.mode one two) r buffer entries
    reads_seen =
        record {
          answer = seen.answer ∙ ap₂ outcome (unrefused ∙ sym rooms_pass) (ap (map (λ (r : MateRead). observed_row s ss way (observe offset s r))) reads_are ∙ sym (by_mates offset s m m' one two refl (λ e. refl) (observed_row s ss way)));
          entries =
              seen.left
              ∙ ap₂ (λ n l. entries_left n (in_parts (4 * share_of s.mode (entry_count buffer)) 0 l (cleared buffer)) buffer) (unrefused ∙ sym rooms_pass)
              (ap (map (λ (r : MateRead). observed_entries s ss ranked (observe offset s r))) reads_are ∙ sym (by_mates offset s m m' one two refl (λ e. refl) (observed_entries s ss ranked)));
        }

    module _ (limit : limit_right s.limit ≡ true) (counters : CountersLent (length h.counters.placements) h.counters) (places : Ranked (length h.counters.placements) ranked)
        (many : length ranked ≡ length ss) (w : ℕ) (share : w ≡ share_of s.mode (entry_count buffer)) where
      of_answer : AnswerTold s ss way ranked (role_number m.role) (role_number m'.role) one two buffer entries (length h.counters.placements) places many limit (few_roles m.role, few_roles m'.role) s.mode h.counters r
      of_answer =
          told s ss way ranked (role_number m.role) (role_number m'.role) one two buffer entries (length h.counters.placements) places many limit (few_roles m.role, few_roles m'.role)
          h.counters refl counters r reads_seen

      -- what is posted are the books with its reads
      posted_is : posted_all (answer_reads r (role_number m.role) (role_number m'.role) (4 * w) entries) (held_books h) ≡ tested_books offset ss ranked h f
      posted_is =
          ap (λ z. posted_all (answer_reads r (role_number m.role) (role_number m'.role) (4 * z) entries) (held_books h)) share
          ∙ posted_all_lem ranked (answer_reads r (role_number m.role) (role_number m'.role) (4 * share_of s.mode (entry_count buffer)) entries) (by_mode s.mode (observed_booked s ss (role_number m.role) one) (observed_booked s ss (role_number m'.role) two)) (of_answer.posts accepted) (held_books h)
          ∙ ap (λ l. booked_all ranked l (held_books h)) (booked_same offset s m m' one two refl (λ e. refl) ss way ∙ ap (map (mate_booked offset s ss)) (sym reads_are))

      -- there is room for them
      pub raisable : AnswerRaisable r (role_number m.role) (role_number m'.role) (4 * w) entries h
      raisable =
          record {
            accepted = accepted;
            postable = rw share of_answer.postable;
            fits = ap books_small posted_is ∙ sym (books_countable (tested_books offset ss ranked h f)) ∙ checked.counts;
          }

      -- booked
      pub audit_booked : (state : AuditState) (k : Counters) → ◌≡◌ {A = Held} (record { state = state; counters = k }) (answer_booked ordinal (answer_reads r (role_number m.role) (role_number m'.role) (4 * w) entries) h)
          → TestedAudited offset ss way ranked h f (record { answer = r; state = state }) k buffer entries
      audit_booked state k e =
          record {
            observed = seen;
            held = e ∙ ap {B = Held} (λ (b : Books). record { state = record { settings = s; last = Some ordinal; ledger = b.ledger }; counters = b.counters }) posted_is ∙ ap (λ n. if_passed n (tested_accepted offset ss ranked h f) h) (sym unrefused);
          }
