-- A fragment observed, step by step (REFERENCE.md, "Fragment").
use Rattle.std.specs.Prelude.{◌≡◌, Bool, true, List, map, ℕ, ◌*◌, length, Result}
use Rattle.promises.specs.declared.refusal.Refusal.{Refusal}
use Rattle.promises.specs.Refusal.{unless, ◌or_else◌, outcome}
use Rattle.map_every_start.specs.Entries.{entry_count, cleared}
use Rattle.map_by_index.specs.Work.{Way}
use Rattle.map_answers.specs.Bounds.{limit_right}
use Rattle.audit_ledger.specs.Booking.{Counters, booked_all, countable}
use Rattle.audit_ledger.specs.Counting.{Ranked}
use Rattle.audit_ledger.specs.declared.Ledger.{Ledger}
use Rattle.audit_book_fragment.specs.Books.{CountersLent}
use Rattle.audit_model.specs.declared.calls.FragmentRows.{FragmentRows}
use Rattle.audit_model.specs.declared.settings.Settings.{Settings}
use Rattle.audit_model.specs.Observing.{Observed, observed_entries, observed_row, observed_booked}
use Rattle.audit_model.specs.Fragment.{share_of, in_parts, entries_left}
use Rattle.audit_model.specs.Calls.{fragment_outcome}
use Rattle.audit_read_checks.specs.declared.SearchedReads.{SearchedReads}
use Rattle.audit_read_checks.specs.Checks.{by_mode}
use Rattle.audit_observe_read.specs.Observed.{Observable, ReadPassed}
use Rattle.audit_observe_reads.specs.Reads.{rooms_refusal}

-- what a checked fragment is observed in: ranked sequences, reads that passed, a limit within its bounds, and counters for the targets
pub record RankedLent (indexed : Bool) (q : ℕ) (bases ends ranked ks rs os first second : List ℕ) (searched : SearchedReads) (s : Settings) (k : Counters) : Type 0 where
  pub observable : Observable indexed q bases ends ranked ks rs os
  pub first_passed : ReadPassed searched.first first
  pub second_passed : ReadPassed searched.second second
  pub limit : limit_right s.limit ≡ true
  pub counters : CountersLent (length k.placements) k
  pub places : Ranked (length k.placements) ranked

module _ (s : Settings) (ss : List (List ℕ)) (way : Way) (ranked : List ℕ) (first second : ℕ) (one two : Observed) (l : Ledger) (k : Counters) where
  -- 10 of each read, then 17
  abbrev pub observed_refusal : ℕ → ℕ
  observed_refusal entries =
      rooms_refusal s ss way ranked (by_mode s.mode one two) entries
      or_else unless (countable (booked_all ranked (by_mode s.mode (observed_booked s ss first one) (observed_booked s ss second two)) (record { ledger = l; counters = k }))) 17

  pub record RankedObserved (r : Result FragmentRows Refusal) (buffer buffer' : List ℕ) : Type 0 where
    pub answer : fragment_outcome r ≡ outcome (observed_refusal (entry_count buffer)) (map (observed_row s ss way) (by_mode s.mode one two))
    pub entries :
        buffer' ≡ entries_left (observed_refusal (entry_count buffer))
        (in_parts (4 * share_of s.mode (entry_count buffer)) 0 (map (observed_entries s ss ranked) (by_mode s.mode one two)) (cleared buffer)) buffer
