-- Whether the books agree with themselves (REFERENCE.md, "Finish").
use Rattle.std.specs.Prelude.{Bool, ◌&&◌, List, map, ℕ, get_or, eqb, leb}
use Rattle.lists.specs.Filter.{every}
use Rattle.lists.specs.Sum.{sum}
use Rattle.audit_ledger.specs.declared.Ledger.{Ledger}
use Rattle.audit_ledger.specs.Booking.{Books, cell, max_counter}

-- numbers whose sum has 64 bits and is the kept total
abbrev pub agree : List ℕ → ℕ → Bool
agree ns total = leb (sum ns) max_counter && eqb (sum ns) total

-- the count of a role and a state
abbrev pub count_of : List ℕ → ℕ → ℕ → ℕ
count_of table role state = get_or table (cell role state) 0

-- the counts of some states of a role agree with the reads of the role
abbrev pub role_agrees : List ℕ → Ledger → ℕ → Bool
role_agrees states l role = agree (map (count_of l.table role) states) (get_or l.reads role 0)

-- the counters of all targets agree with the totals
abbrev pub counters_agree : Books → Bool
counters_agree books =
    agree books.counters.placements books.ledger.placements && agree books.counters.singles books.ledger.singles
    && agree books.counters.multi books.ledger.multi

-- 18 where this fails, for the roles and states that are shown
unfoldable pub balanced : List ℕ → List ℕ → Books → Bool
balanced roles states books = every (role_agrees states books.ledger) roles && counters_agree books
