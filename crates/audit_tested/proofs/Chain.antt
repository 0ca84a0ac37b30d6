-- The refusals of a fragment, check by check, and what each leaves in the entries.
use mathlib.Core.Path.{◌≡◌, refl, sym, ap}
use mathlib.Core.Bool.{Bool, true, false, cond, ◌&&◌, true≢false}
use mathlib.Core.List.{List, [], ◌∷◌, map}
use Prim.Native.Nat.{ℕ, zero, suc, ◌-◌}
use native.Mathlib.Omega.{arith}
use lib.ListN.{length, replicate}
use lib.Dec.{eqb, leb, ltb}
use borrow.Author.Tests.{ne_eqb}
use Rattle.lists.proofs.Cases.{and-true}
use Rattle.lists.specs.Same.{same}
use Rattle.promises.specs.Refusal.{unless, ◌or_else◌}
use Rattle.bases.specs.Read.{Read, Qualities, absent, given, letters}
use Rattle.bases.specs.Eligibility.{Verdict, ineligible, eligible, ◌then◌, last_quality, empty_test, length_test, quality_test, qualities_test, given_test, bases_test, eligibility}
use Rattle.bases.specs.Eligibility as judged
use Rattle.map_answers.specs.Bounds.{length_right}
use Rattle.audit_model.specs.declared.settings.Settings.{Settings}
use Rattle.audit_model.specs.declared.settings.AuditInputMode.{AuditInputMode}
use Rattle.audit_model.specs.declared.settings.AuditInputMode.TheVariants as modes
use Rattle.audit_model.specs.Settings.{role_number, roles_of}
use Rattle.audit_model.specs.Observing.{MateRead, verdict_refusal, mate_refusal}
use Rattle.audit_model.specs.Fragment.{first_refusal, roles_right, entries_left}
use Rattle.audit_model.specs.Calls.{fragment_reads}
use Rattle.audit_read_checks.specs.Checks.{by_mode}
use Rattle.audit_roles.specs.Order.{lent_roles, roles_fit}

-- a refusal other than 10 and 17 touches nothing
pub untouched : (n : ℕ) → (n ≡ 0 → ⊥) → (n ≡ 10 → ⊥) → (n ≡ 17 → ⊥) → (w b : List ℕ) → entries_left n w b ≡ b
untouched zero a c d w b = absurd (a refl)
untouched (suc n) a c d w b = rw (ne_eqb (suc n) 10 c, ne_eqb (suc n) 17 d)

-- ---- roles and the reads that are lent

roles_lent : (n : ℕ) (first second : MateRead) → map (λ (r : MateRead). role_number r.role) (fragment_reads n first second) ≡ lent_roles n (role_number first.role) (role_number second.role)
roles_lent zero first second = refl
roles_lent (suc n) first second = ap {B = List ℕ} (λ l. role_number first.role ∷ l) (go n)
  where
    go : (m : ℕ) → map (λ (r : MateRead). role_number r.role) (replicate m second) ≡ replicate m (role_number second.role)
    go zero = refl
    go (suc m) = ap {B = List ℕ} (λ l. role_number second.role ∷ l) (go m)

-- the roles that are tested are those of the reads
pub roles_same : (mode : AuditInputMode) (n : ℕ) (first second : MateRead) → roles_right mode (fragment_reads n first second) ≡ roles_fit mode n (role_number first.role) (role_number second.role)
roles_same mode n first second = ap (λ l. same l (roles_of mode)) (roles_lent n first second)

-- where they are right there is one read, or there are two, by mode
pub reads_by_mode : (mode : AuditInputMode) (n : ℕ) (first second : MateRead) → roles_fit mode n (role_number first.role) (role_number second.role) ≡ true → fragment_reads n first second ≡ by_mode mode first second
reads_by_mode modes.SingleEnd zero first second e = absurd (true≢false (sym e))
reads_by_mode modes.SingleEnd (suc zero) first second e = refl
reads_by_mode modes.SingleEnd (suc (suc n)) first second e = absurd (true≢false (sym (and-true (eqb (role_number first.role) 0) false e).1))
reads_by_mode modes.PairedEnd zero first second e = absurd (true≢false (sym e))
reads_by_mode modes.PairedEnd (suc zero) first second e = absurd (true≢false (sym (and-true (eqb (role_number first.role) 1) false e).1))
reads_by_mode modes.PairedEnd (suc (suc zero)) first second e = refl
reads_by_mode modes.PairedEnd (suc (suc (suc n))) first second e =
    absurd (true≢false (sym (and-true (eqb (role_number second.role) 2) false (and-true (eqb (role_number first.role) 1) (eqb (role_number second.role) 2 && false) e).1).1))

-- ---- numbers that touch no entries

-- neither 10 nor 17
abbrev pub Other : ℕ → Type 0
Other n = (n ≡ 10 → ⊥) × (n ≡ 17 → ⊥)

pub other_first : (n m : ℕ) → Other n → Other m → Other (n or_else m)
other_first zero m a b = b
other_first (suc n) m a b = a

other_unless : (t : Bool) (n : ℕ) → Other n → Other (unless t n)
other_unless true n a = (λ e. omega arith, λ e. omega arith)
other_unless false n a = a

-- the verdict on a read
other_then : (v w : Verdict) → Other (verdict_refusal v) → Other (verdict_refusal w) → Other (verdict_refusal (v then w))
other_then (judged.refused n) w a b = a
other_then ineligible w a b = a
other_then eligible w a b = b

other_qualities : (floor offset : ℕ) (qs : List ℕ) → Other (verdict_refusal (qualities_test floor offset qs))
other_qualities floor offset [] = (λ e. omega arith, λ e. omega arith)
other_qualities floor offset (x ∷ qs) = other_then (quality_test floor offset x) (qualities_test floor offset qs) (go (leb offset x && leb x last_quality) (ltb (x - offset) floor)) (other_qualities floor offset qs)
  where
    go : (inside low : Bool) → Other (verdict_refusal (cond inside (cond low ineligible eligible) (judged.refused 16)))
    go true true = (λ e. omega arith, λ e. omega arith)
    go true false = (λ e. omega arith, λ e. omega arith)
    go false low = (λ e. omega arith, λ e. omega arith)

other_verdict : (floor offset : ℕ) (r : Read) → Other (verdict_refusal (eligibility floor offset r))
unfolding eligibility
other_verdict floor offset r = other_then (empty_test r.bases) _ (empty r.bases) (other_then (given_test floor offset r.qualities r.bases) (bases_test r.bases) (given' r.qualities) (lettered (letters r.bases)))
  where
    empty : (bs : List ℕ) → Other (verdict_refusal (empty_test bs))
    empty [] = (λ e. omega arith, λ e. omega arith)
    empty (b ∷ bs) = (λ e. omega arith, λ e. omega arith)

    long : (t : Bool) → Other (verdict_refusal (cond t eligible (judged.refused 15)))
    long true = (λ e. omega arith, λ e. omega arith)
    long false = (λ e. omega arith, λ e. omega arith)

    given' : (qs : Qualities) → Other (verdict_refusal (given_test floor offset qs r.bases))
    given' absent = (λ e. omega arith, λ e. omega arith)
    given' (given qs) = other_then (length_test qs r.bases) (qualities_test floor offset qs) (long (eqb (length qs) (length r.bases))) (other_qualities floor offset qs)

    lettered : (t : Bool) → Other (verdict_refusal (cond t eligible ineligible))
    lettered true = (λ e. omega arith, λ e. omega arith)
    lettered false = (λ e. omega arith, λ e. omega arith)

other_mate : (offset : ℕ) (s : Settings) (m : MateRead) → Other (mate_refusal offset s m)
other_mate offset s m = other_first (unless (length_right m.read.bases) 7) _ (other_unless (length_right m.read.bases) 7 (λ e. omega arith, λ e. omega arith)) (go s.remap)
  where
    go : (b : Bool) → Other (cond b (verdict_refusal (eligibility s.floor offset m.read)) 0)
    go true = other_verdict s.floor offset m.read
    go false = (λ e. omega arith, λ e. omega arith)

pub other_reads : (offset : ℕ) (s : Settings) (ms : List MateRead) → Other (first_refusal (mate_refusal offset s) ms)
other_reads offset s [] = (λ e. omega arith, λ e. omega arith)
other_reads offset s (m ∷ ms) = other_first (mate_refusal offset s m) (first_refusal (mate_refusal offset s) ms) (other_mate offset s m) (other_reads offset s ms)
