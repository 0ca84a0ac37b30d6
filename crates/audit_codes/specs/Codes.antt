-- Modes, roles, statuses and flags by their numbers (REFERENCE.md, "Audit").
use Rattle.std.specs.Prelude.{Bool, true, false, ℕ, zero, suc, eqb, leb}
use Rattle.audit_model.specs.declared.settings.AuditInputMode.{AuditInputMode}
use Rattle.audit_model.specs.declared.settings.AuditInputMode.TheVariants as modes
use Rattle.audit_model.specs.declared.settings.MateRole.{MateRole}
use Rattle.audit_model.specs.declared.settings.MateRole.TheVariants as roles
use Rattle.audit_model.specs.declared.sheet.Status.{Status}
use Rattle.audit_model.specs.declared.sheet.Status.TheVariants as statuses

-- 0 single reads, 1 pairs
abbrev pub mode_of : ℕ → AuditInputMode
mode_of zero = modes.SingleEnd
mode_of (suc n) = modes.PairedEnd

abbrev pub mode_number : AuditInputMode → ℕ
mode_number modes.SingleEnd = 0
mode_number modes.PairedEnd = 1

-- 0 S, 1 R1, 2 R2
abbrev pub role_of : ℕ → MateRole
role_of zero = roles.S
role_of (suc zero) = roles.R1
role_of (suc (suc n)) = roles.R2

-- the number of a role
abbrev pub is_role : ℕ → Bool
is_role n = leb n 2

-- a mark of 0 or 1
abbrev pub is_mark : ℕ → Bool
is_mark n = leb n 1

-- what a mark of 1 says
abbrev pub is_set : ℕ → Bool
is_set n = eqb n 1

-- the number of a flag
abbrev pub flag_number : Bool → ℕ
flag_number true = 1
flag_number false = 0

-- the status with a number
abbrev pub status_of : ℕ → Status
status_of zero = statuses.Complete
status_of (suc zero) = statuses.CandidateLimit
status_of (suc (suc zero)) = statuses.RemapDisabled
status_of (suc (suc (suc n))) = statuses.ClosedUnsupported
