-- The targets of the groups that stand in entries (REFERENCE.md, "Booking").
use Rattle.std.specs.Prelude.{◌≡◌, Bool, true, not, cond, ◌||◌, List, [], ◌∷◌, ℕ, zero, suc, ◌+◌, ◌*◌, ◌≤◌, ◌<◌, length, get_or, drop, eqb, leb}
use Rattle.lists.specs.Filter.{cons_if, every}
use Rattle.lists.specs.Raised.{raised, raised_at}
use Rattle.audit_ledger.specs.Booking.{max_counter}

-- the targets of the first n entries
abbrev pub targets_in : ℕ → List ℕ → List ℕ
targets_in zero entries = []
targets_in (suc n) entries = get_or entries 0 0 ∷ targets_in n (drop 4 entries)

-- the last of each run of equal numbers
abbrev pub run_ends : List ℕ → List ℕ
run_ends [] = []
run_ends (x ∷ []) = x ∷ []
run_ends (x ∷ y ∷ ys) = cons_if (not (eqb x y)) x (run_ends (y ∷ ys))

-- each of some targets, or one of each run
abbrev pub counted_targets : Bool → List ℕ → List ℕ
counted_targets each ts = cond each ts (run_ends ts)

-- the target at a place counts: each does, or that at the end of a run
abbrev pub counts_at : Bool → List ℕ → ℕ → Bool
counts_at each ts i = each || eqb (suc i) (length ts) || not (eqb (get_or ts i 0) (get_or ts (suc i) 0))

-- numbers with one of them raised, if it counts
abbrev pub raised_if : Bool → ℕ → List ℕ → List ℕ
raised_if counts at ns = cond counts (raised at ns) ns

-- numbers with marks added to them
abbrev pub sums : List ℕ → List ℕ → List ℕ
sums [] ms = []
sums (n ∷ ns) [] = n ∷ sums ns []
sums (n ∷ ns) (m ∷ ms) = (n + m) ∷ sums ns ms

-- every number has 64 bits
abbrev pub small : List ℕ → Bool
small ns = every (λ n. leb n max_counter) ns

-- the number at each of some places has room for so many raises
abbrev pub room_at : ℕ → List ℕ → List ℕ → Bool
room_at more ts ns = every (λ t. leb (get_or ns t 0 + more) max_counter) ts

-- n entries whose targets have counters
pub record Targeted (n : ℕ) (entries : List ℕ) (targets : ℕ) : Type 0 where
  pub room : 4 * n ≤ length entries
  pub inside : (i : ℕ) → i < n → get_or entries (4 * i) 0 < targets

-- and counters that stay within 64 bits when they are raised
pub record Raisable (each : Bool) (n : ℕ) (entries counters : List ℕ) : Type 0 where
  pub targeted : Targeted n entries (length counters)
  pub fits : small (raised_at (counted_targets each (targets_in n entries)) counters) ≡ true

-- one entry of n whose target's counter can be raised
pub record RaisableAt (n i : ℕ) (entries counters : List ℕ) : Type 0 where
  pub room : 4 * n ≤ length entries
  pub one : i < n
  pub inside : get_or entries (4 * i) 0 < length counters
  pub fits : get_or counters (get_or entries (4 * i) 0) 0 < max_counter

-- no read has more groups than this
abbrev pub max_groups : ℕ
max_groups = 10000000

-- the groups of two reads whose targets have counters
pub record Fittable (n : ℕ) (first : List ℕ) (m : ℕ) (second counters : List ℕ) : Type 0 where
  pub few : (length counters ≤ 4096) × (n ≤ max_groups) × (m ≤ max_groups)
  pub first_targeted : Targeted n first (length counters)
  pub second_targeted : Targeted m second (length counters)
