-- The rows of targets compared and written, by slices (REFERENCE.md, "Targets' rows").
use Rattle.std.specs.Prelude.{◌≡◌, Bool, true, false, ◌&&◌, List, [], ◌∷◌, ◌++◌, ℕ, zero, suc, ◌*◌, length, get_or, eqb, Result}
use Rattle.promises.specs.declared.refusal.Refusal.{Refusal}
use Rattle.lists.specs.Same.{same}
use Rattle.promises.specs.Refusal.{outcome}
use Rattle.identifiers.specs.Lent.{EndsRight}
use Rattle.catalogue.specs.Catalogue.{Catalogue}
use Rattle.audit_ledger.specs.Booking.{Counters, counters_for, CountersFor}
use Rattle.audit_model.specs.declared.sheet.Status.{Status}
use Rattle.audit_model.specs.declared.sheet.Sheet.{Sheet}
use Rattle.audit_model.specs.Sheet.{totals_of, row_shown}
use Rattle.audit_model.specs.Calls.{call_outcome}
use Rattle.audit_model.specs.Unitigs.{shown_numbers, apply_refusal, applied}

-- names and topology marks are the same, place by place
abbrev pub names_alike : List (List ℕ) → List ℕ → List (List ℕ) → List ℕ → Bool
names_alike [] ms [] ms' = true
names_alike [] ms (n ∷ ns) ms' = false
names_alike (n ∷ ns) ms [] ms' = false
names_alike (n ∷ ns) [] (n' ∷ ns') ms' = false
names_alike (n ∷ ns) (m ∷ ms) (n' ∷ ns') [] = false
names_alike (n ∷ ns) (m ∷ ms) (n' ∷ ns') (m' ∷ ms') = (same n n' && eqb m m') && names_alike ns ms ns' ms'

-- they are at one place
abbrev pub place_alike : List (List ℕ) → List ℕ → List (List ℕ) → List ℕ → ℕ → Bool
place_alike ns ms ns' ms' i = same (get_or ns i []) (get_or ns' i []) && eqb (get_or ms i 0) (get_or ms' i 0)

-- a counter of each kind for each audited target, and a row of four numbers for each target
abbrev pub lists_for : ℕ → Counters → ℕ → List ℕ → Bool
lists_for audited k targets rows = counters_for audited k && eqb (length rows) (4 * targets)

-- identifiers with right ends, and a mark for each
pub record Named (identifiers ends marks : List ℕ) : Type 0 where
  pub right : EndsRight identifiers ends
  pub marked : length marks ≡ length ends

-- the row of the target at a place
abbrev pub row_at : Status → List ℕ → Counters → ℕ → List ℕ
row_at status marks k i = shown_numbers (row_shown status (eqb (get_or marks i 0) 0) (totals_of (get_or k.placements i 0) (get_or k.singles i 0) (get_or k.multi i 0)))

-- the rows of the first n targets
abbrev pub rows_to : Status → List ℕ → Counters → ℕ → List ℕ
rows_to status marks k zero = []
rows_to status marks k (suc n) = rows_to status marks k n ++ row_at status marks k n

-- a counter of each kind and a row of four numbers for each of n targets
pub record RowsLent (n : ℕ) (k : Counters) (rows : List ℕ) : Type 0 where
  pub counters : CountersFor n k
  pub rows_right : length rows ≡ 4 * n

-- `apply_to_unitigs`
pub record Applies (audited c : Catalogue) (sheet : Sheet) (k : Counters) (rows : List ℕ) (r : Result (Unit {0}) Refusal) (rows' : List ℕ) : Type 0 where
  pub answer : call_outcome r ≡ outcome (apply_refusal audited c sheet k rows) tt
  pub left : rows' ≡ applied audited c sheet k rows
