-- The reads of an answer as they are booked (REFERENCE.md, "Booking").
use Rattle.std.specs.Prelude.{◌≡◌, true, false, List, [], ℕ, Result, Ok, Err, Option, Some}
use Rattle.map_answers.specs.Answer.{state_number}
use Rattle.map_answers.specs.declared.answer.Mapping.{Mapping}
use Rattle.audit_ledger.specs.Booking.{Counters, Books}
use Rattle.audit_ledger.specs.declared.Ledger.{Ledger}
use Rattle.audit_book_fragment.specs.declared.ReadTally.{ReadTally}
use Rattle.audit_book_fragment.specs.Books.{TalliedRead, tallied_reads, posted_all, counters_posted, counters_small, books_small, FragmentPostable, BooksPosted}
use Rattle.audit_model.specs.declared.calls.FragmentRows.{FragmentRows}
use Rattle.audit_model.specs.declared.calls.FragmentRows.TheVariants as fragments
use Rattle.audit_model.specs.Settings.{Held, held_books}

-- a read with the number of its role
abbrev pub tally_of : ℕ → Mapping → ReadTally
tally_of role m = record { role = role; state = state_number m.state; groups = m.groups }

-- the reads of an answer, with the numbers of their roles; their groups stand in parts of `width` numbers of the entries
abbrev pub answer_reads : {E : Type 0} → Result FragmentRows E → ℕ → ℕ → ℕ → List ℕ → List TalliedRead
answer_reads (Err n) first second width entries = []
answer_reads (Ok (fragments.Single m)) first second width entries = tallied_reads (tally_of first m) (tally_of first m) false width entries
answer_reads (Ok (fragments.Paired m)) first second width entries = tallied_reads (tally_of first m.first) (tally_of second m.second) true width entries

-- their targets have counters
abbrev pub AnswerPostable : {E : Type 0} → Result FragmentRows E → ℕ → ℕ → ℕ → List ℕ → Counters → Type 0
AnswerPostable (Err n) first second width entries k = Unit {0}
AnswerPostable (Ok (fragments.Single m)) first second width entries k = FragmentPostable (tally_of first m) (tally_of first m) false width entries k
AnswerPostable (Ok (fragments.Paired m)) first second width entries k = FragmentPostable (tally_of first m.first) (tally_of second m.second) true width entries k

-- the ledger with them, if the books have room for them; a refused answer has no reads, and there is room for none
abbrev pub AnswerPosted : {E : Type 0} → Result FragmentRows E → ℕ → ℕ → ℕ → List ℕ → Books → Option Ledger → Type 0
AnswerPosted (Err n) first second width entries books r = r ≡ Some books.ledger
AnswerPosted (Ok (fragments.Single m)) first second width entries books r = BooksPosted (tallied_reads (tally_of first m) (tally_of first m) false width entries) books r
AnswerPosted (Ok (fragments.Paired m)) first second width entries books r = BooksPosted (tallied_reads (tally_of first m.first) (tally_of second m.second) true width entries) books r

-- and room for them
pub record CountersReady {E : Type 0} (answer : Result FragmentRows E) (first second width : ℕ) (entries : List ℕ) (k : Counters) : Type 0 where
  pub postable : AnswerPostable answer first second width entries k
  pub fits : counters_small (counters_posted (answer_reads answer first second width entries) k) ≡ true

-- an accepted answer for whose reads the books have room
pub record AnswerRaisable {E : Type 0} (answer : Result FragmentRows E) (first second width : ℕ) (entries : List ℕ) (h : Held) : Type 0 where
  pub accepted : (refusal : E) → answer ≡ Err refusal → ⊥
  pub postable : AnswerPostable answer first second width entries h.counters
  pub fits : books_small (posted_all (answer_reads answer first second width entries) (held_books h)) ≡ true

-- what is held with the reads booked, and their ordinal the last
abbrev pub answer_booked : ℕ → List TalliedRead → Held → Held
answer_booked ordinal xs h =
    record {
      state = record { settings = h.state.settings; last = Some ordinal; ledger = (posted_all xs (held_books h)).ledger };
      counters = (posted_all xs (held_books h)).counters;
    }
