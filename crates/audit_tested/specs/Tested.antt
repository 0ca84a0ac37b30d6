-- A fragment in a catalogue that was tested (REFERENCE.md, "Fragment").
use Rattle.std.specs.Prelude.{◌≡◌, Bool, true, ◌&&◌, List, ℕ, length, Result}
use Rattle.promises.specs.declared.refusal.Refusal.{Refusal}
use Rattle.promises.specs.Refusal.{outcome, if_passed}
use Rattle.map_every_start.specs.Entries.{entry_count}
use Rattle.map_by_index.specs.Work.{Way}
use Rattle.map_answers.specs.Bounds.{limit_right}
use Rattle.audit_ledger.specs.Booking.{Counters}
use Rattle.audit_ledger.specs.Counting.{Ranked}
use Rattle.audit_book_fragment.specs.Books.{CountersLent}
use Rattle.audit_model.specs.declared.calls.FragmentRows.{FragmentRows}
use Rattle.audit_model.specs.declared.calls.FragmentAudit.{FragmentAudit}
use Rattle.audit_model.specs.declared.settings.Settings.{Settings}
use Rattle.audit_model.specs.Settings.{Held}
use Rattle.audit_model.specs.Fragment.{Fragment, entries_left, tested_refusal, tested_rows, tested_accepted, tested_written}
use Rattle.audit_model.specs.Calls.{fragment_outcome}
use Rattle.audit_observe_read.specs.Observed.{Observable}

-- what it is lent: ranked sequences, with their index where reads are searched by it; a limit within its bounds; counters for the targets
pub record Tested (indexed : Bool) (q : ℕ) (bases ends ranked ks rs os : List ℕ) (s : Settings) (k : Counters) : Type 0 where
  pub observable : Observable (indexed && s.remap) q bases ends ranked ks rs os
  pub limit : limit_right s.limit ≡ true
  pub counters : CountersLent (length k.placements) k
  pub places : Ranked (length k.placements) ranked

module _ (offset : ℕ) (ss : List (List ℕ)) (way : Way) (ranked : List ℕ) (h : Held) (f : Fragment) where
  -- observed: its answer, and the entries
  pub record TestedObserved (r : Result FragmentRows Refusal) (buffer buffer' : List ℕ) : Type 0 where
    pub answer : fragment_outcome r ≡ outcome (tested_refusal offset ss ranked h f (entry_count buffer)) (tested_rows offset ss ranked h f way)
    pub left : buffer' ≡ entries_left (tested_refusal offset ss ranked h f (entry_count buffer)) (tested_written offset ss ranked h f buffer) buffer

  -- observed, and booked where it is not refused
  pub record TestedAudited (r : FragmentAudit) (k' : Counters) (buffer buffer' : List ℕ) : Type 0 where
    pub observed : TestedObserved r.answer buffer buffer'
    pub held : record { state = r.state; counters = k' } ≡ if_passed (tested_refusal offset ss ranked h f (entry_count buffer)) (tested_accepted offset ss ranked h f) h
