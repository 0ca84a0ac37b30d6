-- A ledger with room for a read, and what a read adds to the totals.
use mathlib.Core.Path.{◌≡◌, refl, sym, ◌∙◌}
use mathlib.Core.Bool.{Bool, true, ◌&&◌}
use mathlib.Core.List.{List, [], ◌∷◌}
use Prim.Native.Nat.{ℕ, ◌+◌, ◌<◌}
use native.Mathlib.Omega.{arith}
use lib.ListN.{length, get_or}
use borrow.Author.Tests.{ne_eqb, lt-ltb, le-leb}
use Rattle.lists.specs.Raised.{raised}
use Rattle.lists.proofs.Cases.{and-true}
use Rattle.lists.proofs.Raised.{length-raised, raised_here}
use Rattle.audit_ledger.specs.Booking.{cell, single_targets, max_counter}
use Rattle.audit_ledger.specs.declared.Ledger.{Ledger}
use Rattle.audit_counters.specs.Targets.{targets_in, run_ends, small}
use Rattle.audit_counters.proofs.Choosing.{length-targets}
use Rattle.audit_counters.proofs.Adding.{small_at, small-before}
use Rattle.audit_book_read.specs.Posting.{several_runs, added_to, ledger_raised, ledger_small}
use Rattle.audit_book_read.specs.declared.Added.{Added}

-- ---- what a read adds

module _ (n : ℕ) (entries : List ℕ) where
  abbrev ts : List ℕ
  ts = targets_in n entries

  -- the three numbers, each for itself
  pub added_is : (g s m : ℕ) → g ≡ n → s ≡ length (single_targets ts) → m ≡ length (several_runs ts) → ◌≡◌ {A = Added} (record { groups = g; singles = s; multi = m }) (added_to ts)
  added_is g s m p q r = rw (p ∙ sym (length-targets n entries), q, r)

  pub no_single : (n ≡ 1 → ⊥) → length (single_targets ts) ≡ 0
  no_single h = rw (ne_eqb (length ts) 1 (λ e. h (sym (length-targets n entries) ∙ e)))

  pub several : 1 < n → length (several_runs ts) ≡ length (run_ends ts)
  several h = rw (lt-ltb 1 (length ts) (omega (arith, length-targets n entries)))

-- ---- a ledger raised

module _ (role state : ℕ) (a : Added) (l : Ledger) where
  abbrev table_small : Bool
  table_small = small (raised (cell role state) l.table)

  abbrev reads_small : Bool
  reads_small = small (raised role l.reads)

  abbrev totals : List ℕ
  totals = (l.placements + a.groups) ∷ (l.singles + a.singles) ∷ (l.multi + a.multi) ∷ []

  abbrev sums-small : Bool
  sums-small = small totals

  parts : ledger_small (ledger_raised role state a l) ≡ true → (table_small ≡ true) × (reads_small ≡ true) × (sums-small ≡ true)
  parts e =
      let (tr, sums) = and-true (table_small && reads_small) sums-small e in
      let (t, rs) = and-true table_small reads_small tr in
      (t, rs, sums)

  -- the count that is raised is not at its limit
  pub cell_spare : cell role state < length l.table → ledger_small (ledger_raised role state a l) ≡ true → get_or l.table (cell role state) 0 < max_counter
  cell_spare h e =
      omega (arith, small_at (raised (cell role state) l.table) (parts e).0 (cell role state) (omega (arith, length-raised (cell role state) l.table)), raised_here (cell role state) l.table (cell role state) h refl)

  -- it was small before
  pub ledger_before : ledger_small (ledger_raised role state a l) ≡ true → ledger_small l ≡ true
  ledger_before e =
      let (t, rs, sums) = parts e in
      rw (small-before (cell role state ∷ []) l.table t, small-before (role ∷ []) l.reads rs, le-leb l.placements max_counter (omega (arith, small_at totals sums 0 (omega arith))), le-leb l.singles max_counter (omega (arith, small_at totals sums 1 (omega arith))), le-leb l.multi max_counter (omega (arith, small_at totals sums 2 (omega arith))))
