-- Reads posted by the targets in the entries are booked as they should be, and 17 is the test of every kept number.
use mathlib.Core.Path.{◌≡◌, refl, sym, ap, ◌∙◌}
use mathlib.Core.Bool.{cond, ◌||◌, and_assoc}
use mathlib.Core.List.{List, [], ◌∷◌}
use Prim.Native.Nat.{ℕ, ◌+◌, ◌*◌, ◌≤◌}
use lib.ListN.{length, drop}
use lib.Dec.{eqb, ltb}
use Rattle.lists.specs.Cut.{window}
use Rattle.lists.specs.Raised.{raised, raised_at}
use Rattle.lists.proofs.Every.{every_append}
use Rattle.map_places.specs.Place.{Place}
use Rattle.map_every_start.specs.Entries.{entries_of}
use Rattle.buffers.specs.Placed.{placed}
use Rattle.audit_ledger.specs.Booking.{cell, Booked, Books, targets_of, single_targets, multi_targets, ledger_with, counters_with, booked_one, booked_all, countable}
use Rattle.audit_counters.specs.Targets.{targets_in}
use Rattle.audit_book_read.specs.Posting.{several_runs}
use Rattle.audit_book_fragment.specs.Books.{TalliedRead, tallied_targets, posted_one, posted_all, books_small}
use Rattle.audit_book_answer.proofs.Runs.{Grouped, targets-listed, targets_front, runs_distinct}

-- ---- 17

-- every kept number has 64 bits
pub books_countable : (books : Books) → countable books ≡ books_small books
unfolding countable
books_countable books =
    simp (every_append, and_assoc)

-- ---- one read

-- what is posted of a read is what is booked of it, where the entries hold its groups
pub record Posts (ranked : List ℕ) (x : TalliedRead) (b : Booked) : Type 0 where
  pub role : x.tally.role ≡ b.role
  pub state : x.tally.state ≡ b.state
  pub targets : tallied_targets x ≡ targets_of ranked b.groups
  pub grouped : Grouped (targets_of ranked b.groups)

several_multi : (ts : List ℕ) → Grouped ts → several_runs ts ≡ multi_targets ts
several_multi ts g = ap (λ l. cond (ltb 1 (length ts)) l []) (runs_distinct ts g)

pub posted_one_lem : (ranked : List ℕ) (x : TalliedRead) (b : Booked) → Posts ranked x b → (books : Books) → posted_one x books ≡ booked_one ranked b books
posted_one_lem ranked x b p books = λ i. record { ledger = ledger i; counters = counters i }
  where
    ts : List ℕ
    ts = targets_of ranked b.groups

    same : several_runs (tallied_targets x) ≡ multi_targets ts
    same = ap several_runs p.targets ∙ several_multi ts p.grouped

    ledger : (posted_one x books).ledger ≡ ledger_with b ts books.ledger
    ledger = λ i. record {
      table = raised (cell (p.role i) (p.state i)) books.ledger.table;
      reads = raised (p.role i) books.ledger.reads;
      placements = books.ledger.placements + length (p.targets i);
      singles = books.ledger.singles + length (single_targets (p.targets i));
      multi = books.ledger.multi + length (same i);
      indeterminate = books.ledger.indeterminate || eqb (p.state i) 2;
    }

    counters : (posted_one x books).counters ≡ counters_with ts books.counters
    counters = λ i. record {
      placements = raised_at (p.targets i) books.counters.placements;
      singles = raised_at (single_targets (p.targets i)) books.counters.singles;
      multi = raised_at (same i) books.counters.multi;
    }

-- ---- reads

-- each read posted as it is booked
abbrev pub AllPost : List ℕ → List TalliedRead → List Booked → Type 0
AllPost ranked [] [] = Unit {0}
AllPost ranked [] (b ∷ bs) = ⊥
AllPost ranked (x ∷ xs) [] = ⊥
AllPost ranked (x ∷ xs) (b ∷ bs) = Posts ranked x b × AllPost ranked xs bs

pub posted_all_lem : (ranked : List ℕ) (xs : List TalliedRead) (bs : List Booked) → AllPost ranked xs bs → (books : Books) → posted_all xs books ≡ booked_all ranked bs books
posted_all_lem ranked [] (b ∷ bs) p books = elim p [ ]
posted_all_lem ranked (x ∷ xs) [] p books = elim p [ ]
posted_all_lem ranked [] [] p books = refl
posted_all_lem ranked (x ∷ xs) (b ∷ bs) p books = posted_all_lem ranked xs bs p.1 (posted_one x books) ∙ ap (booked_all ranked bs) (posted_one_lem ranked x b p.0 books)

-- ---- in parts of the entries

-- the targets of groups at the front of a part
pub part_targets : (ranked : List ℕ) (n width from : ℕ) (gs : List Place) (entries zeros : List ℕ) → window entries from width ≡ placed 0 (entries_of ranked n gs) zeros → 4 * length gs ≤ width
    → targets_in (length gs) (drop from entries) ≡ targets_of ranked gs
part_targets ranked n width from gs entries zeros e h =
    sym (targets_front (length gs) width (drop from entries) h) ∙ ap (targets_in (length gs)) e ∙ targets-listed ranked n gs _
