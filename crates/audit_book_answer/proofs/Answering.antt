-- The reads of an answer, case by case.
use Rattle.std.specs.Prelude.{Result, Ok, Err, Option, Some}
use mathlib.Core.Path.{◌≡◌, refl, sym, ap, ◌∙◌}
use mathlib.Core.Bool.{true, false}
use mathlib.Core.List.{List, [], ◌∷◌}
use Prim.Native.Nat.{ℕ}
use Rattle.map_answers.specs.declared.answer.Mapping.{Mapping}
use Rattle.lists.proofs.Cases.{and-true}
use Rattle.audit_ledger.specs.declared.Ledger.{Ledger}
use Rattle.audit_ledger.specs.Booking.{Counters, Books}
use Rattle.audit_book_read.specs.Posting.{ledger_small}
use Rattle.audit_book_fragment.specs.declared.ReadTally.{ReadTally}
use Rattle.audit_book_fragment.specs.Books.{TalliedRead, tallied_reads, posted_one, posted_all, counters_posted, counters_small, books_small, FragmentPostable, FragmentRaisable, BooksPosted}
use Rattle.audit_model.specs.declared.calls.FragmentRows.{FragmentRows}
use Rattle.audit_model.specs.declared.calls.FragmentRows.TheVariants as fragments
use Rattle.audit_model.specs.declared.calls.Mates.{Mates}
use Rattle.audit_model.specs.Settings.{Held, held_books}
use Rattle.audit_book_answer.specs.Answers.{tally_of, answer_reads, answer_booked, AnswerPostable, AnswerPosted, CountersReady, AnswerRaisable}

module _ {E : Type 0} (answer : Result FragmentRows E) (first second width : ℕ) (entries : List ℕ) where
  -- a refused one has no reads
  pub refused_posted : (refusal : E) → answer ≡ Err refusal → (books : Books) → AnswerPosted answer first second width entries books (Some books.ledger)
  refused_posted refusal e books = rw e

  pub refused_raised : (refusal : E) → answer ≡ Err refusal → (k : Counters) → k ≡ counters_posted (answer_reads answer first second width entries) k
  refused_raised refusal e k = rw e

  -- one read
  module _ (rows : FragmentRows) (e : answer ≡ Ok rows) (m : Mapping) (f : rows ≡ fragments.Single m) (t : ReadTally) (told : t ≡ tally_of first m) where
    pub single_postable : (k : Counters) → AnswerPostable answer first second width entries k → FragmentPostable t t false width entries k
    single_postable k p = rw told (rw (e, f) at p)

    pub single_posted : (books : Books) (r : Option Ledger) → BooksPosted (tallied_reads t t false width entries) books r → AnswerPosted answer first second width entries books r
    single_posted books r p = rw (e, f) (rw told at p)

    pub single_raisable : (k : Counters) → CountersReady answer first second width entries k → FragmentRaisable t t false width entries k
    single_raisable k p = record { postable = single_postable k p.postable; fits = rw told (rw (e, f) at p.fits) }

    pub single_raised : (k k' : Counters) → k' ≡ counters_posted (tallied_reads t t false width entries) k → k' ≡ counters_posted (answer_reads answer first second width entries) k
    single_raised k k' p = rw (e, f) (rw told at p)

  -- a pair
  module _ (rows : FragmentRows) (e : answer ≡ Ok rows) (m : Mates) (f : rows ≡ fragments.Paired m) (t u : ReadTally) (one : t ≡ tally_of first m.first) (two : u ≡ tally_of second m.second) where
    pub pair_postable : (k : Counters) → AnswerPostable answer first second width entries k → FragmentPostable t u true width entries k
    pair_postable k p = rw (one, two) (rw (e, f) at p)

    pub pair_posted : (books : Books) (r : Option Ledger) → BooksPosted (tallied_reads t u true width entries) books r → AnswerPosted answer first second width entries books r
    pair_posted books r p = rw (e, f) (rw (one, two) at p)

    pub pair_raisable : (k : Counters) → CountersReady answer first second width entries k → FragmentRaisable t u true width entries k
    pair_raisable k p = record { postable = pair_postable k p.postable; fits = rw (one, two) (rw (e, f) at p.fits) }

    pub pair_raised : (k k' : Counters) → k' ≡ counters_posted (tallied_reads t u true width entries) k → k' ≡ counters_posted (answer_reads answer first second width entries) k
    pair_raised k k' p = rw (e, f) (rw (one, two) at p)

-- ---- an answer booked

posted_counters : (xs : List TalliedRead) (books : Books) → (posted_all xs books).counters ≡ counters_posted xs books.counters
posted_counters [] books = refl
posted_counters (x ∷ xs) books = posted_counters xs (posted_one x books)

counters_small_lem : (books : Books) → books_small books ≡ true → counters_small books.counters ≡ true
counters_small_lem books t = (and-true (ledger_small books.ledger) (counters_small books.counters) t).1

module _ {E : Type 0} (answer : Result FragmentRows E) (first second width : ℕ) (entries : List ℕ) (h : Held) (p : AnswerRaisable answer first second width entries h) where
  abbrev xs : List TalliedRead
  xs = answer_reads answer first second width entries

  -- the counters have room
  pub answer_ready : CountersReady answer first second width entries h.counters
  answer_ready = record { postable = p.postable; fits = sym (ap counters_small (posted_counters xs (held_books h))) ∙ counters_small_lem (posted_all xs (held_books h)) p.fits }

  -- the ledger that was posted is the one with the reads
  pub answer_ledger : (r : Option Ledger) → AnswerPosted answer first second width entries (held_books h) r → r ≡ Some (posted_all xs (held_books h)).ledger
  answer_ledger r q = go answer p.accepted p.fits q
    where
      go : (a : Result FragmentRows E) → ((n : E) → a ≡ Err n → ⊥) → books_small (posted_all (answer_reads a first second width entries) (held_books h)) ≡ true
          → AnswerPosted a first second width entries (held_books h) r → r ≡ Some (posted_all (answer_reads a first second width entries) (held_books h)).ledger
      go (Err n) ne t q = absurd (ne n refl)
      go (Ok (fragments.Single m)) ne t q = rw t at q
      go (Ok (fragments.Paired m)) ne t q = rw t at q

  pub answer_is : (r : Option Ledger) → AnswerPosted answer first second width entries (held_books h) r → (l : Ledger) → r ≡ Some l → l ≡ (posted_all xs (held_books h)).ledger
  answer_is r q l e = let f : Some l ≡ Some (posted_all xs (held_books h)).ledger = sym e ∙ answer_ledger r q in cc

  -- state and counters
  pub answer_held : (ordinal : ℕ) (l : Ledger) (k : Counters) → l ≡ (posted_all xs (held_books h)).ledger → k ≡ counters_posted xs h.counters
      → record { state = record { settings = h.state.settings; last = Some ordinal; ledger = l }; counters = k } ≡ answer_booked ordinal xs h
  answer_held ordinal l k e f =
      let g : k ≡ (posted_all xs (held_books h)).counters = f ∙ sym (posted_counters xs (held_books h)) in
      λ i. record { state = record { settings = h.state.settings; last = Some ordinal; ledger = e i }; counters = g i }
