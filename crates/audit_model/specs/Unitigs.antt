-- The sheet written to the rows of the targets (REFERENCE.md, "Targets' rows").
use Rattle.std.specs.Prelude.{Bool, true, false, ◌&&◌, List, [], ◌∷◌, ◌++◌, ℕ, ◌*◌, length, eqb, Option, Some, None}
use Rattle.lists.specs.Same.{same}
use Rattle.promises.specs.Refusal.{unless, ◌or_else◌, if_passed}
use Rattle.catalogue.specs.Catalogue.{Catalogue, Target, targets, in_bounds}
use Rattle.audit_ledger.specs.Booking.{Counters, counters_for}
use Rattle.audit_model.specs.declared.sheet.PlacementTotals.{PlacementTotals}
use Rattle.audit_model.specs.declared.sheet.Shown.{Shown}
use Rattle.audit_model.specs.declared.sheet.Sheet.{Sheet}
use Rattle.audit_model.specs.Sheet.{status_number, targets_shown}

-- the same identifier and topology
abbrev pub alike : Target → Target → Bool
alike t u = same t.identifier u.identifier && eqb t.mark u.mark

-- as many targets, each like that at its place
abbrev pub all_alike : List Target → List Target → Bool
all_alike [] [] = true
all_alike [] (u ∷ us) = false
all_alike (t ∷ ts) [] = false
all_alike (t ∷ ts) (u ∷ us) = alike t u && all_alike ts us

-- the three totals, zero where they are unavailable
abbrev pub total_numbers : Option PlacementTotals → List ℕ
total_numbers None = 0 ∷ 0 ∷ 0 ∷ []
total_numbers (Some t) = t.placements ∷ t.singles ∷ t.multi ∷ []

-- a target's row: its status, then its totals
abbrev pub shown_numbers : Shown → List ℕ
shown_numbers x = status_number x.status ∷ total_numbers x.totals

abbrev pub shown_rows : List Shown → List ℕ
shown_rows [] = []
shown_rows (x ∷ xs) = shown_numbers x ++ shown_rows xs

-- `audited` are the targets that were lent to `finish`, `c` those that are lent now
module _ (audited c : Catalogue) (sheet : Sheet) (k : Counters) where
  -- 2, for both catalogues, the counters, and rows that are not one per target; then 19
  unfoldable pub apply_refusal : List ℕ → ℕ
  apply_refusal rows =
      unless (in_bounds c && in_bounds audited && counters_for (length (targets audited)) k && eqb (length rows) (4 * length (targets c))) 2
      or_else unless (all_alike (targets audited) (targets c)) 19

  -- a row for each target; a refusal writes nothing
  abbrev pub applied : List ℕ → List ℕ
  applied rows = if_passed (apply_refusal rows) (shown_rows (targets_shown sheet k c)) rows
