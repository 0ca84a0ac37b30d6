-- The sheet of a finished audit as numbers (REFERENCE.md, "Exports").
use Rattle.std.specs.Prelude.{Bool, cond, ◌&&◌, ◌||◌, List, ◌∷◌, ◌++◌, ℕ, zero, suc, length, get_or, replicate, eqb, leb}
use Rattle.lists.specs.Cut.{window}
use Rattle.lists.specs.Filter.{every}
use Rattle.promises.specs.Refusal.{Outcome, refused, accepted}
use Rattle.audit_model.specs.declared.sheet.Status.TheVariants as statuses
use Rattle.audit_model.specs.declared.sheet.Sheet.{Sheet}
use Rattle.audit_model.specs.Sheet.{shown, totals_of}
use Rattle.audit_model.specs.Unitigs.{shown_numbers}
use Rattle.audit_codes.specs.Codes.{mode_of, is_mark, is_set, flag_number, mode_number, status_of}

abbrev pub finish_length : ℕ
finish_length = 25

-- ---- written

-- mode, remap, counts by role and state, status and totals of the run
abbrev pub sheet_numbers : Sheet → List ℕ
sheet_numbers s = mode_number s.mode ∷ flag_number s.remap ∷ (s.table ++ shown_numbers s.run)

-- the refusal of `finish`, then its sheet, or zeros
abbrev pub finish_numbers : Outcome Sheet → List ℕ
finish_numbers (refused n) = n ∷ replicate 24 0
finish_numbers (accepted s) = 0 ∷ sheet_numbers s

-- ---- read back

abbrev pub sheet_in : List ℕ → Sheet
sheet_in ns =
    record {
      mode = mode_of (get_or ns 1 0);
      remap = is_set (get_or ns 2 0);
      table = window ns 3 18;
      run = shown (status_of (get_or ns 21 0)) (totals_of (get_or ns 22 0) (get_or ns 23 0) (get_or ns 24 0));
    }

-- the status of a run, by its numbers: complete or past the limit with remap on, else that remap is off
abbrev pub status_fits : ℕ → ℕ → Bool
status_fits status remap = cond (is_set remap) (leb status 1) (eqb status 2)

-- 26 where this fails: the numbers are those of an accepted `finish`; totals that are unavailable are 0
unfoldable pub is_sheet : List ℕ → Bool
is_sheet ns =
    eqb (length ns) finish_length && eqb (get_or ns 0 0) 0 && is_mark (get_or ns 1 0) && is_mark (get_or ns 2 0) && status_fits (get_or ns 21 0) (get_or ns 2 0)
    && (eqb (get_or ns 21 0) 0 || every (λ n. eqb n 0) (window ns 22 3))
