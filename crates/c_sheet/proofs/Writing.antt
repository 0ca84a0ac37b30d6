-- The numbers of a sheet written part by part, and the parts of a sheet read.
use Rattle.std.specs.Prelude.{Result, Ok, Err, Option, Some, None}
use Rattle.audit_model.specs.declared.sheet.PlacementTotals.{PlacementTotals}
use mathlib.Core.Path.{◌≡◌, refl, ap, ap₂, ◌∙◌}
use mathlib.Core.Bool.{Bool}
use mathlib.Core.List.{List, [], ◌∷◌, ◌++◌}
use Prim.Native.Nat.{ℕ, zero, suc, ◌+◌, ◌≤◌}
use native.Mathlib.Omega.{arith}
use lib.ListN.{length, get_or, set, replicate, length-append}
use Rattle.lists.specs.Cut.{window}
use Rattle.buffers.specs.Placed.{placed}
use Rattle.buffers.proofs.Storing.{placed_one, placed-placed}
use Rattle.c_replies.specs.Replies.{Put}
use Rattle.audit_model.specs.declared.settings.AuditInputMode.{AuditInputMode}
use Rattle.audit_model.specs.declared.sheet.Status.{Status}
use Rattle.audit_model.specs.declared.sheet.Status.TheVariants as statuses
use Rattle.audit_model.specs.declared.sheet.Shown.{Shown}
use Rattle.audit_model.specs.declared.sheet.Sheet.{Sheet}
use Rattle.audit_model.specs.Sheet.{shown, totals_of}
use Rattle.audit_model.specs.Unitigs.{total_numbers, shown_numbers}
use Rattle.audit_codes.specs.Codes.{mode_of, is_set, flag_number, mode_number, status_of}
use Rattle.c_state.proofs.Writing.{put_two}
use Rattle.audit_model.specs.Calls.{sheet_by}
use Rattle.c_sheet.specs.Sheet.{sheet_numbers, finish_numbers, sheet_in}

length_totals : (a : Option PlacementTotals) → length (total_numbers a) ≡ 3
length_totals None = refl
length_totals (Some t) = refl

length-shown : (x : Shown) → length (shown_numbers x) ≡ 4
length-shown x = ap suc (length_totals x.totals)

-- ---- a sheet

module _ (s : Sheet) (lt : length s.table ≡ 18) (at : ℕ) (b : List ℕ) (h : at + 24 ≤ length b) (u v : ℕ) (b₁ b₂ : List ℕ)
    (e₁ : b₁ ≡ placed (at + 2) s.table (set (set b at u) (at + 1) v)) (e₂ : b₂ ≡ placed (at + 20) (shown_numbers s.run) b₁) where
  table_put : b₁ ≡ placed at (u ∷ v ∷ s.table) b
  table_put = e₁ ∙ ap (placed (at + 2) s.table) (put_two at b u v (omega arith)) ∙ placed-placed at (u ∷ v ∷ []) b s.table (omega arith)

  run_put : b₂ ≡ placed at (u ∷ v ∷ (s.table ++ shown_numbers s.run)) b
  run_put =
      let n : at + 20 ≡ at + length (u ∷ v ∷ s.table) = omega arith in
      e₂ ∙ ap₂ (λ n x. placed n (shown_numbers s.run) x) n table_put ∙ placed-placed at (u ∷ v ∷ s.table) b (shown_numbers s.run) (omega (arith, length-shown s.run))

  pub put_sheet : u ≡ mode_number s.mode → v ≡ flag_number s.remap → b₂ ≡ placed at (sheet_numbers s) b
  put_sheet e f = run_put ∙ rw (e, f)

-- ---- the answer of `finish`

-- a number, and a list behind it
put_behind : (n : ℕ) (xs b b₁ : List ℕ) → 1 + length xs ≤ length b → b₁ ≡ placed 1 xs (set b 0 n) → b₁ ≡ placed 0 (n ∷ xs) b
put_behind n xs b b₁ h e = e ∙ ap (placed 1 xs) (placed_one 0 n b (omega arith)) ∙ placed-placed 0 (n ∷ []) b xs (omega arith)

module _ {E : Type 0} (number : E → ℕ) (a : Result (Unit {0}) E) (s : Sheet) (b : List ℕ) (h : 25 ≤ length b) (b₁ : List ℕ) where
  pub put_refused : (n : E) (v r : ℕ) → a ≡ Err n → v ≡ number n → r ≡ number n → b₁ ≡ placed 1 (replicate {A = ℕ} 24 0) (set b 0 v) → Put finish_numbers (sheet_by number a s) r b b₁
  put_refused n v r g e k w = rw (g, k) (record { number = refl; written = put_behind v (replicate {A = ℕ} 24 0) b b₁ h w ∙ ap (λ m. placed 0 (m ∷ replicate {A = ℕ} 24 0) b) e })

  pub put_accepted : (v r : ℕ) → length (sheet_numbers s) ≡ 24 → a ≡ Ok tt → v ≡ 0 → r ≡ 0 → b₁ ≡ placed 1 (sheet_numbers s) (set b 0 v) → Put finish_numbers (sheet_by number a s) r b b₁
  put_accepted v r l g e k w =
      rw (g, k) (record { number = refl; written = put_behind v (sheet_numbers s) b b₁ (omega arith) w ∙ ap (λ m. placed 0 (m ∷ sheet_numbers s) b) e })

pub length_sheet : (s : Sheet) → length s.table ≡ 18 → length (sheet_numbers s) ≡ 24
length_sheet s lt = omega (arith, length-append s.table (shown_numbers s.run), length-shown s.run)

-- ---- read back

pub sheet_in_lem : (ns : List ℕ) (mode : AuditInputMode) (remap : Bool) (table : List ℕ) (run : Shown) (s : Status) (n p g m : ℕ)
    → mode ≡ mode_of (get_or ns 1 0) → remap ≡ is_set (get_or ns 2 0) → table ≡ window ns 3 18 → run ≡ shown s (totals_of p g m) → s ≡ status_of n
    → n ≡ get_or ns 21 0 → p ≡ get_or ns 22 0 → g ≡ get_or ns 23 0 → m ≡ get_or ns 24 0
    → ◌≡◌ {A = Sheet} (record { mode = mode; remap = remap; table = table; run = run }) (sheet_in ns)
sheet_in_lem ns mode remap table run s n p g m e₁ e₂ e₃ e₄ e₅ e₆ e₇ e₈ e₉ = rw (e₁, e₂, e₃, e₄, e₅, e₆, e₇, e₈, e₉)
