-- A ledger raised by a read (REFERENCE.md, "Booking").
use Rattle.std.specs.Prelude.{◌≡◌, Bool, cond, ◌||◌, ◌&&◌, List, [], ◌∷◌, ℕ, ◌+◌, length, eqb, ltb, Option, Some, None}
use Rattle.lists.specs.Raised.{raised}
use Rattle.audit_ledger.specs.Booking.{cell, single_targets}
use Rattle.audit_ledger.specs.declared.Ledger.{Ledger}
use Rattle.audit_counters.specs.Targets.{run_ends, small}
use Rattle.audit_book_read.specs.declared.Added.{Added}

-- the targets of a read with several groups, one of each run
abbrev pub several_runs : List ℕ → List ℕ
several_runs ts = cond (ltb 1 (length ts)) (run_ends ts) []

-- what it adds to the totals
abbrev pub added_to : List ℕ → Added
added_to ts = record { groups = length ts; singles = length (single_targets ts); multi = length (several_runs ts) }

-- the ledger with a read of a role and a state that adds to the totals
abbrev pub ledger_raised : ℕ → ℕ → Added → Ledger → Ledger
ledger_raised role state a l =
    record {
      table = raised (cell role state) l.table;
      reads = raised role l.reads;
      placements = l.placements + a.groups;
      singles = l.singles + a.singles;
      multi = l.multi + a.multi;
      indeterminate = l.indeterminate || eqb state 2;
    }

-- every number of a ledger has 64 bits
abbrev pub ledger_small : Ledger → Bool
ledger_small l = small l.table && small l.reads && small (l.placements ∷ l.singles ∷ l.multi ∷ [])

-- the ledger with a read, if it has room for it
abbrev pub LedgerPosted : ℕ → ℕ → Added → Ledger → Option Ledger → Type 0
LedgerPosted role state a l r = r ≡ cond (ledger_small (ledger_raised role state a l)) (Some (ledger_raised role state a l)) None
