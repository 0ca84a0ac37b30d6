-- The reads of a fragment checked (REFERENCE.md, "Observing").
use Rattle.std.specs.Prelude.{◌≡◌, Bool, false, List, [], ◌∷◌, ℕ, Result, Ok, Err}
use Rattle.promises.specs.declared.refusal.Refusal.{Refusal}
use Rattle.promises.specs.Refusal.{Outcome, refused, accepted, outcome, refusal_number}
use Rattle.bases.specs.Read.{Read}
use Rattle.audit_model.specs.declared.settings.AuditInputMode.{AuditInputMode}
use Rattle.audit_model.specs.declared.settings.AuditInputMode.TheVariants as modes
use Rattle.audit_model.specs.declared.settings.MateRole.{MateRole}
use Rattle.audit_model.specs.declared.settings.Settings.{Settings}
use Rattle.audit_model.specs.Observing.{mate_refusal, is_searched}
use Rattle.audit_model.specs.Fragment.{first_refusal}
use Rattle.audit_read_checks.specs.declared.SearchedReads.{SearchedReads}

-- what each answer stands for: refused, or whether the read is searched
abbrev pub check_outcome : Result Bool Refusal → Outcome Bool
check_outcome (Err n) = refused (refusal_number n)
check_outcome (Ok searched) = accepted searched

-- refused, or whether each of two reads is searched
abbrev pub checks_outcome : Result SearchedReads Refusal → Outcome (Bool × Bool)
checks_outcome (Err n) = refused (refusal_number n)
checks_outcome (Ok p) = accepted (p.first, p.second)

-- a read is checked, whatever its role
abbrev pub ReadChecked : ℕ → Settings → Read → Result Bool Refusal → Type 0
ReadChecked offset s read r = (role : MateRole) → check_outcome r ≡ outcome (mate_refusal offset s (record { role = role; read = read })) (is_searched offset s (record { role = role; read = read }))

-- one read by mode, or two
abbrev pub by_mode : {A : Type 0} → AuditInputMode → A → A → List A
by_mode modes.SingleEnd first second = first ∷ []
by_mode modes.PairedEnd first second = first ∷ second ∷ []

-- said of a second read, which there is not in single mode
abbrev pub if_paired : AuditInputMode → Bool → Bool
if_paired modes.SingleEnd b = false
if_paired modes.PairedEnd b = b

-- the reads of a fragment are checked one after the other, whatever their roles
abbrev pub ReadsChecked : ℕ → Settings → Read → Read → Result SearchedReads Refusal → Type 0
ReadsChecked offset s first second r =
    (role role' : MateRole) → checks_outcome r ≡
    outcome (first_refusal (mate_refusal offset s) (by_mode s.mode (record { role = role; read = first }) (record { role = role'; read = second })))
    (is_searched offset s (record { role = role; read = first }), if_paired s.mode (is_searched offset s (record { role = role'; read = second })))
