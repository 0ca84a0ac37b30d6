-- The roles of a fragment's reads, by mode and number.
use Rattle.std.specs.Prelude.{Option}
use mathlib.Core.Path.{◌≡◌, refl, sym, ap, ◌∙◌}
use mathlib.Core.Bool.{true, false, ◌&&◌, and-true, and-false}
use Prim.Native.Nat.{ℕ, zero, suc}
use lib.Dec.{eqb}
use borrow.Author.Tests.{ne_eqb, eq-eqb}
use Rattle.audit_model.specs.declared.settings.AuditInputMode.{AuditInputMode}
use Rattle.audit_model.specs.declared.settings.AuditInputMode.TheVariants as modes
use Rattle.audit_model.specs.Fragment.{in_order}
use Rattle.audit_roles.specs.Order.{roles_fit, order_refusal}

module _ (mode : AuditInputMode) (count first second : ℕ) where
  -- one read, with the role S
  pub not_one : mode ≡ modes.SingleEnd → (count ≡ 1 → ⊥) → false ≡ roles_fit mode count first second
  not_one e ne = rw e (go count ne)
    where
      go : (n : ℕ) → (n ≡ 1 → ⊥) → false ≡ roles_fit modes.SingleEnd n first second
      go zero h = refl
      go (suc zero) h = absurd (h refl)
      go (suc (suc n)) h = sym (and-false (eqb first 0))

  pub one_read : mode ≡ modes.SingleEnd → count ≡ 1 → (a : ℕ) → a ≡ first → eqb a 0 ≡ roles_fit mode count first second
  one_read e f a g = rw (e, f, g) (sym (and-true (eqb first 0)))

  -- two reads, R1 and then R2
  pub not_two : mode ≡ modes.PairedEnd → (count ≡ 2 → ⊥) → false ≡ roles_fit mode count first second
  not_two e ne = rw e (go count ne)
    where
      go : (n : ℕ) → (n ≡ 2 → ⊥) → false ≡ roles_fit modes.PairedEnd n first second
      go zero h = refl
      go (suc zero) h = sym (and-false (eqb first 1))
      go (suc (suc zero)) h = absurd (h refl)
      go (suc (suc (suc n))) h = rw (and-false, and-false)

  pub not_first : mode ≡ modes.PairedEnd → (a : ℕ) → a ≡ first → (a ≡ 1 → ⊥) → count ≡ 2 → false ≡ roles_fit mode count first second
  not_first e a g ne f = rw (e, f) (sym (ap (λ b. b && (eqb second 2 && true)) (ne_eqb first 1 (λ h. ne (g ∙ h)))))

  pub two_reads : mode ≡ modes.PairedEnd → count ≡ 2 → (a : ℕ) → a ≡ first → a ≡ 1 → (b : ℕ) → b ≡ second → eqb b 2 ≡ roles_fit mode count first second
  two_reads e f a g h b i = rw (e, f, i) (sym (and-true (eqb second 2)) ∙ sym (ap (λ t. t && (eqb second 2 && true)) (eq-eqb first 1 (sym g ∙ h))))

module _ (last : Option ℕ) (ordinal : ℕ) (mode : AuditInputMode) (count first second : ℕ) where
  pub twelve : in_order last ordinal ≡ false → {n : ℕ} → n ≡ 12 → n ≡ order_refusal last ordinal mode count first second
  twelve e f = rw e f

  pub thirteen : in_order last ordinal ≡ true → roles_fit mode count first second ≡ false → {n : ℕ} → n ≡ 13 → n ≡ order_refusal last ordinal mode count first second
  thirteen e f g = rw (e, f) g

  pub in_place : in_order last ordinal ≡ true → roles_fit mode count first second ≡ true → {n : ℕ} → n ≡ 0 → n ≡ order_refusal last ordinal mode count first second
  in_place e f g = rw (e, f) g
