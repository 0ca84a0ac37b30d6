-- What an audit keeps of its reads, and how one is booked (REFERENCE.md, "Booking").
use Rattle.audit_ledger.specs.declared.LentCounters.{LentCounters}
use Rattle.std.specs.Prelude.{◌≡◌, Bool, false, not, cond, ◌&&◌, ◌||◌, List, [], ◌∷◌, ◌++◌, map, ℕ, ◌+◌, ◌*◌, length, get_or, replicate, eqb, leb, ltb}
use Rattle.lists.specs.Filter.{cons_if, every}
use Rattle.lists.specs.Raised.{raised, raised_at}
use Rattle.map_places.specs.Place.{Place}
use Rattle.audit_ledger.specs.declared.Ledger.{Ledger}

-- a read as it is booked: the number of its role (0 for S, 1 for R1, 2 for R2), the number of its state, and its listed groups
pub record Booked : Type 0 where
  pub role : ℕ
  pub state : ℕ
  pub groups : List Place

-- one number of each kind for each target, as supplied
pub record Counters : Type 0 where
  pub placements : List ℕ
  pub singles : List ℕ
  pub multi : List ℕ

abbrev pub counters_of : List ℕ → List ℕ → List ℕ → Counters
counters_of placements singles multi = record { placements = placements; singles = singles; multi = multi }

-- one counter of each kind for each of n targets, as a test
abbrev pub counters_for : ℕ → Counters → Bool
counters_for n k = eqb (length k.placements) n && eqb (length k.singles) n && eqb (length k.multi) n

-- and as what is known
pub record CountersFor (n : ℕ) (k : Counters) : Type 0 where
  pub placements : length k.placements ≡ n
  pub singles : length k.singles ≡ n
  pub multi : length k.multi ≡ n

-- those that the slices of a call hold when it is made
abbrev pub lent_counters : List ℕ → List ℕ → List ℕ → Counters
lent_counters placements singles multi = counters_of placements singles multi

-- those that lent counters hold
abbrev pub counters_in : LentCounters → Counters
counters_in k = lent_counters k.placements.now k.singles.now k.multi.now

-- and when it returns
abbrev pub left_counters : List ℕ → List ℕ → List ℕ → Counters
left_counters placements singles multi = counters_of placements singles multi

-- a ledger and the counters of its targets
pub record Books : Type 0 where
  pub ledger : Ledger
  pub counters : Counters

-- ---- nothing booked

abbrev pub empty_ledger : Ledger
empty_ledger = record { table = replicate 18 0; reads = replicate 3 0; placements = 0; singles = 0; multi = 0; indeterminate = false }

-- for n targets
abbrev pub empty_counters : ℕ → Counters
empty_counters n = record { placements = replicate n 0; singles = replicate n 0; multi = replicate n 0 }

-- ---- the targets of a read

-- the supplied places of the groups' targets, one for each group; `ranked` holds the supplied place of each rank
abbrev pub targets_of : List ℕ → List Place → List ℕ
targets_of ranked gs = map (λ (p : Place). get_or ranked p.rank 0) gs

-- a number stands in a list
abbrev pub is_in : ℕ → List ℕ → Bool
is_in x ys = not (every (λ y. not (eqb x y)) ys)

-- each number of a list once
abbrev pub distinct : List ℕ → List ℕ
distinct [] = []
distinct (x ∷ xs) = cons_if (not (is_in x xs)) x (distinct xs)

-- the target of a read with one group
abbrev pub single_targets : List ℕ → List ℕ
single_targets ts = cond (eqb (length ts) 1) ts []

-- the distinct targets of a read with several groups
abbrev pub multi_targets : List ℕ → List ℕ
multi_targets ts = cond (ltb 1 (length ts)) (distinct ts) []

-- ---- a read booked

-- the place in the table of a role and a state
abbrev pub cell : ℕ → ℕ → ℕ
cell role state = 6 * role + state

-- the ledger with a read more, whose groups have these targets
abbrev pub ledger_with : Booked → List ℕ → Ledger → Ledger
ledger_with b ts l =
    record {
      table = raised (cell b.role b.state) l.table;
      reads = raised b.role l.reads;
      placements = l.placements + length ts;
      singles = l.singles + length (single_targets ts);
      multi = l.multi + length (multi_targets ts);
      indeterminate = l.indeterminate || eqb b.state 2;
    }

-- the counters with a read more, whose groups have these targets
abbrev pub counters_with : List ℕ → Counters → Counters
counters_with ts k =
    record {
      placements = raised_at ts k.placements;
      singles = raised_at (single_targets ts) k.singles;
      multi = raised_at (multi_targets ts) k.multi;
    }

-- a read booked
abbrev pub booked_one : List ℕ → Booked → Books → Books
booked_one ranked b books =
    record { ledger = ledger_with b (targets_of ranked b.groups) books.ledger; counters = counters_with (targets_of ranked b.groups) books.counters }

-- reads booked, one after the other
abbrev pub booked_all : List ℕ → List Booked → Books → Books
booked_all ranked [] books = books
booked_all ranked (b ∷ bs) books = booked_all ranked bs (booked_one ranked b books)

-- ---- 17

-- the largest count: 2^64 - 1
abbrev pub max_counter : ℕ
max_counter = 18446744073709551615

-- every number that is kept
abbrev pub kept : Books → List ℕ
kept books =
    books.ledger.table ++ books.ledger.reads ++ (books.ledger.placements ∷ books.ledger.singles ∷ books.ledger.multi ∷ [])
    ++ books.counters.placements ++ books.counters.singles ++ books.counters.multi

-- 17 where this fails of the books after a fragment
unfoldable pub countable : Books → Bool
countable books = every (λ n. leb n max_counter) (kept books)
