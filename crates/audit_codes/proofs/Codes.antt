-- Numbers of the last mode, the last role and the last status.
use mathlib.Core.Path.{◌≡◌, refl}
use Prim.Native.Nat.{ℕ, zero, suc}
use Rattle.audit_model.specs.declared.settings.AuditInputMode.TheVariants as modes
use Rattle.audit_model.specs.declared.settings.MateRole.TheVariants as roles
use Rattle.audit_model.specs.declared.sheet.Status.TheVariants as statuses
use Rattle.audit_codes.specs.Codes.{mode_of, role_of, status_of}

pub paired : (n : ℕ) → (n ≡ 0 → ⊥) → modes.PairedEnd ≡ mode_of n
paired zero h = absurd (h refl)
paired (suc n) h = refl

pub second : (n : ℕ) → (n ≡ 0 → ⊥) → (n ≡ 1 → ⊥) → roles.R2 ≡ role_of n
second zero h k = absurd (h refl)
second (suc zero) h k = absurd (k refl)
second (suc (suc n)) h k = refl

pub unsupported : (n : ℕ) → (n ≡ 0 → ⊥) → (n ≡ 1 → ⊥) → (n ≡ 2 → ⊥) → statuses.ClosedUnsupported ≡ status_of n
unsupported zero h k m = absurd (h refl)
unsupported (suc zero) h k m = absurd (k refl)
unsupported (suc (suc zero)) h k m = absurd (m refl)
unsupported (suc (suc (suc n))) h k m = refl
