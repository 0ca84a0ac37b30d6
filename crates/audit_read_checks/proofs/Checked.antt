-- From the tests of a read to the answer of its check, and from the answers of two checks to that of both.
use Rattle.std.specs.Prelude.{Result, Ok, Err}
use Rattle.promises.specs.declared.refusal.Refusal.{Refusal}
use mathlib.Core.Path.{◌≡◌, refl, sym, ap, ◌∙◌}
use mathlib.Core.Bool.{Bool, true, false, not}
use Prim.Native.Nat.{ℕ, zero, suc}
use Rattle.promises.specs.Refusal.{refusal_number, Outcome, refused, accepted, outcome}
use Rattle.promises.proofs.Refusing.{outcome_accepted, outcome_refused, outcome_number, numbered}
use Rattle.bases.specs.Read.{Read}
use Rattle.bases.specs.Eligibility.{verdict_of, eligibility}
use Rattle.map_answers.specs.Bounds.{length_right}
use Rattle.audit_model.specs.declared.settings.AuditInputMode.{AuditInputMode}
use Rattle.audit_model.specs.declared.settings.AuditInputMode.TheVariants as modes
use Rattle.audit_model.specs.declared.settings.MateRole.{MateRole}
use Rattle.audit_model.specs.declared.settings.Settings.{Settings}
use Rattle.audit_model.specs.Observing.{MateRead, mate_refusal, is_searched}
use Rattle.audit_model.specs.Fragment.{first_refusal}
use Rattle.audit_read_checks.specs.Checks.{check_outcome, ReadChecked, by_mode, if_paired}

-- ---- one read

-- a test passes where it does not fail
pub held : (b : Bool) → not b ≡ false → b ≡ true
held true e = refl
held false e = sym e

module _ (offset : ℕ) (s : Settings) (read : Read) (right : length_right read.bases ≡ true) (on : s.remap ≡ true) where
  -- where it is judged, what is decided of it is the answer
  pub judged : (r : Result Bool Refusal) → verdict_of r ≡ eligibility s.floor offset read → ReadChecked offset s read r
  judged (Err e) t role = rw (right, on, ← t) (outcome_refused (refusal_number e) false (numbered e))
  judged (Ok true) t role = rw (right, on, ← t)
  judged (Ok false) t role = rw (right, on, ← t)

-- ---- two reads

module _ (f : MateRead → ℕ) (g : MateRead → Bool) (x y : MateRead) where
  abbrev pub answered : AuditInputMode → Outcome (Bool × Bool)
  answered m = outcome (first_refusal f (by_mode m x y)) (g x, if_paired m (g y))

  pub first_refused : (n : ℕ) → refused n ≡ outcome (f x) (g x) → (m : AuditInputMode) → refused n ≡ answered m
  first_refused n e m = let k = outcome_number (f x) n (g x) (sym e) in go n k.0 k.1 m
    where
      go : (n : ℕ) → f x ≡ n → (n ≡ 0 → ⊥) → (m : AuditInputMode) → refused n ≡ answered m
      go zero e ne m = absurd (ne refl)
      go (suc n) e ne modes.SingleEnd = rw e
      go (suc n) e ne modes.PairedEnd = rw e

  module _ (b : Bool) (first : accepted b ≡ outcome (f x) (g x)) where
    one : (f x ≡ 0) × (g x ≡ b)
    one = outcome_accepted (f x) (g x) b (sym first)

    pub single_passed : (m : AuditInputMode) → m ≡ modes.SingleEnd → accepted (b, false) ≡ answered m
    single_passed m k = rw (k, one.0, one.1)

    pub second_refused : (n : ℕ) → refused n ≡ outcome (f y) (g y) → (m : AuditInputMode) → m ≡ modes.PairedEnd → refused n ≡ answered m
    second_refused n e m k = let r = outcome_number (f y) n (g y) (sym e) in go n r.0 r.1
      where
        go : (n : ℕ) → f y ≡ n → (n ≡ 0 → ⊥) → refused n ≡ answered m
        go zero e ne = absurd (ne refl)
        go (suc n) e ne = rw (k, one.0, e)

    pub pair_passed : (d : Bool) → accepted d ≡ outcome (f y) (g y) → (m : AuditInputMode) → m ≡ modes.PairedEnd → accepted (b, d) ≡ answered m
    pair_passed d e m k = let r = outcome_accepted (f y) (g y) d (sym e) in rw (k, one.0, one.1, r.0, r.1)

module _ (offset : ℕ) (s : Settings) (read : Read) (r : Result Bool Refusal) (c : ReadChecked offset s read r) (role : MateRole) where
  abbrev mate : MateRead
  mate = record { role = role; read = read }

  -- what an answer that is known says of its read
  pub refused_by : (e : Refusal) → r ≡ Err e → refused (refusal_number e) ≡ outcome (mate_refusal offset s mate) (is_searched offset s mate)
  refused_by e told = ap check_outcome (sym told) ∙ c role

  pub passed_by : (b : Bool) → r ≡ Ok b → accepted b ≡ outcome (mate_refusal offset s mate) (is_searched offset s mate)
  passed_by b e = ap check_outcome (sym e) ∙ c role
