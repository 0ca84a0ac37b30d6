-- Reads posted: counters and ledger raised by the targets of their groups (REFERENCE.md, "Booking").
use Rattle.std.specs.Prelude.{◌≡◌, Bool, true, cond, ◌&&◌, List, [], ◌∷◌, ℕ, ◌<◌, ◌≤◌, length, drop, eqb, ltb, Option, Some, None}
use Rattle.lists.specs.Raised.{raised_at}
use Rattle.audit_ledger.specs.Booking.{Counters, Books, single_targets, counters_of, CountersFor}
use Rattle.audit_ledger.specs.declared.Ledger.{Ledger}
use Rattle.audit_counters.specs.Targets.{targets_in, small, max_groups, Targeted}
use Rattle.audit_book_read.specs.Posting.{several_runs, added_to, ledger_raised, ledger_small}
use Rattle.audit_book_fragment.specs.declared.ReadTally.{ReadTally}

-- ---- one read, by the targets of its groups

-- the counters raised by it
abbrev pub counters_raised : List ℕ → Counters → Counters
counters_raised ts k =
    record { placements = raised_at ts k.placements; singles = raised_at (single_targets ts) k.singles; multi = raised_at (several_runs ts) k.multi }

abbrev pub books_of : Ledger → List ℕ → List ℕ → List ℕ → Books
books_of l placements singles multi = record { ledger = l; counters = counters_of placements singles multi }

-- of n groups, how many raise singles, and how many the multi counts
abbrev pub single_count : ℕ → ℕ
single_count n = cond (eqb n 1) 1 0

abbrev pub several_count : ℕ → ℕ
several_count n = cond (ltb 1 n) n 0

-- ---- reads, by the entries that list their groups

-- a read, and the entries at whose front its groups stand
pub record TalliedRead : Type 0 where
  pub tally : ReadTally
  pub entries : List ℕ

abbrev pub tallied_targets : TalliedRead → List ℕ
tallied_targets x = targets_in x.tally.groups x.entries

abbrev pub posted_one : TalliedRead → Books → Books
posted_one x books =
    record {
      ledger = ledger_raised x.tally.role x.tally.state (added_to (tallied_targets x)) books.ledger;
      counters = counters_raised (tallied_targets x) books.counters;
    }

-- the books with some reads
abbrev pub posted_all : List TalliedRead → Books → Books
posted_all [] books = books
posted_all (x ∷ xs) books = posted_all xs (posted_one x books)

-- the counters with some reads
abbrev pub counters_posted : List TalliedRead → Counters → Counters
counters_posted [] k = k
counters_posted (x ∷ xs) k = counters_posted xs (counters_raised (tallied_targets x) k)

-- one read with its groups at the front of the entries, or a second one `width` numbers behind it
abbrev pub tallied_reads : ReadTally → ReadTally → Bool → ℕ → List ℕ → List TalliedRead
tallied_reads first second two width entries =
    record { tally = first; entries = entries } ∷ cond two (record { tally = second; entries = drop width entries } ∷ []) []

-- ---- 17

abbrev pub counters_small : Counters → Bool
counters_small k = small k.placements && small k.singles && small k.multi

abbrev pub books_small : Books → Bool
books_small books = ledger_small books.ledger && counters_small books.counters

-- ---- what is lent

-- a role and a state, and no more groups than a read can have
pub record Tallied (t : ReadTally) : Type 0 where
  pub role : t.role < 3
  pub state : t.state < 6
  pub groups : t.groups ≤ max_groups

-- a read whose targets have a counter of each kind
pub record Postable (targets : ℕ) (x : TalliedRead) : Type 0 where
  pub tallied : Tallied x.tally
  pub targeted : Targeted x.tally.groups x.entries targets

-- one counter of each kind for each of at most 4096 targets
pub record CountersLent (targets : ℕ) (k : Counters) : Type 0 where
  pub few : targets ≤ 4096
  pub each : CountersFor targets k

-- n groups at the front of entries, for whose targets counters have room
pub record CountersRaisable (n : ℕ) (entries : List ℕ) (k : Counters) : Type 0 where
  pub counters : CountersLent (length k.placements) k
  pub targeted : Targeted n entries (length k.placements)
  pub fits : counters_small (counters_raised (targets_in n entries) k) ≡ true

-- the groups of two reads, whose targets have counters
pub record CountersFittable (n : ℕ) (first : List ℕ) (m : ℕ) (second : List ℕ) (k : Counters) : Type 0 where
  pub counters : CountersLent (length k.placements) k
  pub first_targeted : Targeted n first (length k.placements)
  pub second_targeted : Targeted m second (length k.placements)
  pub few : (n ≤ max_groups) × (m ≤ max_groups)

-- the reads of a fragment, whose targets have counters
pub record FragmentPostable (first second : ReadTally) (two : Bool) (width : ℕ) (entries : List ℕ) (k : Counters) : Type 0 where
  pub counters : CountersLent (length k.placements) k
  pub within : width ≤ length entries
  pub first_postable : Postable (length k.placements) (record { tally = first; entries = entries })
  pub second_postable : two ≡ true → Postable (length k.placements) (record { tally = second; entries = drop width entries })

-- and for which they have room
pub record FragmentRaisable (first second : ReadTally) (two : Bool) (width : ℕ) (entries : List ℕ) (k : Counters) : Type 0 where
  pub postable : FragmentPostable first second two width entries k
  pub fits : counters_small (counters_posted (tallied_reads first second two width entries) k) ≡ true

-- ---- what is answered

-- the ledger with reads, if the books have room for them
abbrev pub BooksPosted : List TalliedRead → Books → Option Ledger → Type 0
BooksPosted xs books r = r ≡ cond (books_small (posted_all xs books)) (Some (posted_all xs books).ledger) None
