-- The lines of counts, role by role and state by state.
use mathlib.Core.Path.{◌≡◌, refl, sym, ap, subst, ◌∙◌}
use mathlib.Core.Bool.{true}
use mathlib.Core.List.{List, [], ◌∷◌, ◌++◌, append_assoc}
use Prim.Native.Nat.{ℕ, ◌+◌, ◌*◌}
use native.Mathlib.Omega.{arith}
use lib.ListN.{get_or}
use Rattle.lists.specs.Triple.{Triple}
use Rattle.audit_model.specs.declared.settings.AuditInputMode.{AuditInputMode}
use Rattle.audit_model.specs.declared.settings.AuditInputMode.TheVariants as modes
use Rattle.audit_model.specs.declared.sheet.Sheet.{Sheet}
use Rattle.audit_model.specs.Settings.{roles_of}
use Rattle.audit_model.specs.Sheet.{role_shown, roles_shown, counts_shown}
use Rattle.catch_text.specs.Writing.{Adds, AddsAtMost}
use Rattle.catch_text.proofs.Adding.{adds_both, adds_none}
use Rattle.catch_lines.specs.Lines.{line_room, count_line}
use Rattle.catch_sheet_lines.specs.Sheets.{count_lines}
use Rattle.catch_sheet_lines.specs.Lent.{role_room, counts_room}

-- ---- the states of a role

module _ (sheet : Sheet) (role first : ℕ) (e : first ≡ 6 * role) where
  -- with remap on, states 1 to 5
  pub states_told : sheet.remap ≡ true → {out out₁ out₂ out₃ out₄ out' : List ℕ} {at p₁ p₂ p₃ p₄ r : ℕ} →
      AddsAtMost line_room (count_line role 1 (get_or sheet.table (first + 1) 0)) out at out₁ p₁ →
      AddsAtMost line_room (count_line role 2 (get_or sheet.table (first + 2) 0)) out₁ p₁ out₂ p₂ →
      AddsAtMost line_room (count_line role 3 (get_or sheet.table (first + 3) 0)) out₂ p₂ out₃ p₃ →
      AddsAtMost line_room (count_line role 4 (get_or sheet.table (first + 4) 0)) out₃ p₃ out₄ p₄ →
      AddsAtMost line_room (count_line role 5 (get_or sheet.table (first + 5) 0)) out₄ p₄ out' r →
      AddsAtMost role_room (count_lines (role_shown sheet role)) out at out' r
  states_told on f g h i j =
      record { adds = rw (on, ← e) (adds_both f.adds (adds_both g.adds (adds_both h.adds (adds_both i.adds (adds_both j.adds (adds_none _ _)))))); room = omega arith }

-- ---- the roles

lines_append : (xs ys : List Triple) → count_lines (xs ++ ys) ≡ count_lines xs ++ count_lines ys
lines_append [] ys = refl
lines_append (x ∷ xs) ys = ap (λ (l : List ℕ). count_line x.0 x.1 x.2 ++ l) (lines_append xs ys) ∙ sym (append_assoc (count_line x.0 x.1 x.2) (count_lines xs) (count_lines ys))

module _ (sheet : Sheet) where
  pub paired_told : sheet.mode ≡ modes.PairedEnd → {out out₁ out' : List ℕ} {at p r : ℕ} → AddsAtMost role_room (count_lines (role_shown sheet 1)) out at out₁ p → AddsAtMost role_room (count_lines (role_shown sheet 2)) out₁ p out' r → AddsAtMost counts_room (count_lines (counts_shown sheet)) out at out' r
  paired_told m {out} {out₁} {out'} {at} {p} {r} f g =
      let k : count_lines (counts_shown sheet) ≡ count_lines (role_shown sheet 1) ++ (count_lines (role_shown sheet 2) ++ []) = ap (λ (mode : AuditInputMode). count_lines (roles_shown sheet (roles_of mode))) m ∙ lines_append (role_shown sheet 1) (roles_shown sheet (2 ∷ [])) ∙ ap (λ (l : List ℕ). count_lines (role_shown sheet 1) ++ l) (lines_append (role_shown sheet 2) []) in
      record { adds = subst (λ (l : List ℕ). Adds l out at out' r) (sym k) (adds_both f.adds (adds_both g.adds (adds_none _ _))); room = omega arith }
