-- The books held against themselves, by slices (REFERENCE.md, "Finish").
use Rattle.std.specs.Prelude.{Bool, List, ℕ}
use Rattle.audit_ledger.specs.Balance.{balanced}
use Rattle.audit_ledger.specs.declared.Ledger.{Ledger}
use Rattle.audit_ledger.specs.Booking.{counters_of}
use Rattle.audit_model.specs.declared.settings.AuditInputMode.{AuditInputMode}
use Rattle.audit_model.specs.Settings.{roles_of, states_shown}

-- the books of a ledger and three lists of counters agree, for the roles and states that a run shows
abbrev pub books_agree : AuditInputMode → Bool → Ledger → List ℕ → List ℕ → List ℕ → Bool
books_agree mode remap l placements singles multi = balanced (roles_of mode) (states_shown remap) (record { ledger = l; counters = counters_of placements singles multi })
