-- What a sheet hides.
use Rattle.std.specs.Prelude.{None}
use mathlib.Core.Path.{◌≡◌, refl}
use mathlib.Core.Bool.{Bool, true, false}
use Rattle.catalogue.specs.Catalogue.{Target, is_mapped}
use Rattle.audit_ledger.specs.Booking.{Counters}
use Rattle.audit_model.specs.declared.sheet.PlacementTotals.{PlacementTotals}
use Rattle.audit_model.specs.declared.sheet.Sheet.{Sheet}
use Rattle.audit_model.specs.Settings.{Held}
use Rattle.audit_model.specs.Sheet.{shown, run_status, sheet_of, target_shown}

hidden : (remap : Bool) (t : PlacementTotals) → (shown (run_status remap true) t).totals ≡ None
hidden true t = refl
hidden false t = refl

-- after an indeterminate read neither the run nor a target has totals
pub indeterminate_hides : (h : Held) → h.state.ledger.indeterminate ≡ true → (sheet_of h).run.totals ≡ None
indeterminate_hides h e = rw e (hidden h.state.settings.remap _)

-- a closed walk has none in any run
pub closed_hides : (sheet : Sheet) (k : Counters) (t : Target) → is_mapped t ≡ false → (target_shown sheet k t).totals ≡ None
closed_hides sheet k t e = rw e
