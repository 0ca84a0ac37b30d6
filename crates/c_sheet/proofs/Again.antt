-- The numbers of an accepted `finish` are written as they were read.
use mathlib.Core.Path.{◌≡◌, refl, sym, ap, ◌∙◌}
use mathlib.Core.Bool.{true}
use mathlib.Core.Logic.{◌⊎◌, inl, inr}
use mathlib.Core.List.{List, [], ◌∷◌, ◌++◌}
use Prim.Native.Nat.{ℕ, zero, suc, ◌≤◌}
use native.Mathlib.Omega.{arith}
use lib.ListN.{length, get_or}
use lib.Seq.{drop-cons}
use Rattle.audit_codes.specs.Codes.{status_of}
use Rattle.lists.specs.Cut.{window}
use Rattle.promises.specs.Refusal.{accepted}
use Rattle.audit_model.specs.Sheet.{shown, totals_of}
use Rattle.audit_model.specs.Unitigs.{shown_numbers}
use Rattle.c_state.proofs.Again.{mode_back, mark_back, cut_off, last_four}
use Rattle.c_sheet.specs.Sheet.{finish_numbers, sheet_in, is_sheet}
use Rattle.c_sheet.proofs.Testing.{sheet_parts}

run_back : (n p g m : ℕ) → n ≤ 2 → (n ≡ 0) ⊎ ((p ≡ 0) × (g ≡ 0) × (m ≡ 0)) → shown_numbers (shown (status_of n) (totals_of p g m)) ≡ n ∷ p ∷ g ∷ m ∷ []
run_back zero p g m h t = refl
run_back (suc n) p g m h (inl e) = absurd (omega arith)
run_back (suc zero) p g m h (inr z) = rw (z.0, z.1, z.2)
run_back (suc (suc zero)) p g m h (inr z) = rw (z.0, z.1, z.2)
run_back (suc (suc (suc n))) p g m h (inr z) = absurd (omega arith)

all_parts : (ns : List ℕ) → length ns ≡ 25 → ns ≡ get_or ns 0 0 ∷ get_or ns 1 0 ∷ get_or ns 2 0 ∷ (window ns 3 18 ++ (get_or ns 21 0 ∷ get_or ns 22 0 ∷ get_or ns 23 0 ∷ get_or ns 24 0 ∷ []))
all_parts ns h =
    drop-cons ns 0 0 (omega arith)
    ∙ ap (λ l. get_or ns 0 0 ∷ l) (drop-cons ns 1 0 (omega arith)
    ∙ ap (λ l. get_or ns 1 0 ∷ l) (drop-cons ns 2 0 (omega arith)
    ∙ ap (λ l. get_or ns 2 0 ∷ l) (cut_off ns 3 18
    ∙ ap (λ l. window ns 3 18 ++ l) (last_four ns 21 h))))

pub sheet_back : (ns : List ℕ) → is_sheet ns ≡ true → finish_numbers (accepted (sheet_in ns)) ≡ ns
sheet_back ns t =
    let p = sheet_parts ns t in
    let e = run_back (get_or ns 21 0) (get_or ns 22 0) (get_or ns 23 0) (get_or ns 24 0) p.status p.totals in
    sym (all_parts ns p.sized ∙ rw (p.refusal, mode_back (get_or ns 1 0) p.mode, mark_back (get_or ns 2 0) p.remap, e))
