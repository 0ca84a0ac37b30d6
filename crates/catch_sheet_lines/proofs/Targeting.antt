-- What is written of a sheet is what its catalogue and its books say.
use mathlib.Core.Path.{◌≡◌, refl, sym, ap, ◌∙◌}
use mathlib.Core.Bool.{true}
use mathlib.Core.List.{List, [], ◌∷◌, ◌++◌, append_assoc, append-nil}
use Prim.Native.Nat.{ℕ, suc, ◌+◌}
use native.Mathlib.Numerals.{add-one}
use native.Mathlib.Omega.{arith}
use lib.ListN.{length, get_or, drop}
use lib.Seq.{get_or-drop, drop-drop}
use lib.Dec.{eqb}
use Rattle.lists.proofs.Cut.{length_cut}
use Rattle.catalogue.specs.Catalogue.{Catalogue, names, sequences, targets, targets_from, in_bounds}
use Rattle.catalogue.proofs.Checks.{bounded}
use Rattle.audit_ledger.specs.Booking.{Counters}
use Rattle.audit_model.specs.declared.sheet.Sheet.{Sheet}
use Rattle.audit_model.specs.Settings.{Held}
use Rattle.audit_model.specs.Sheet.{sheet_of, row_shown, totals_of, counts_shown}
use Rattle.catch_lines.specs.Lines.{target_line, run_line}
use Rattle.catch_sheet_lines.specs.Sheets.{count_lines, target_lines, sheet_lines}
use Rattle.catch_sheet_lines.specs.Lent.{place_line, place_lines, sheet_told}

-- the first of what is left behind j
first_left : {A : Type 0} (l : List A) (j : ℕ) (x d : A) (xs : List A) → drop j l ≡ x ∷ xs → get_or l j d ≡ x
first_left {A = A} l j x d xs e =
    let k : j + 0 ≡ j = omega arith in
    sym (ap (λ (i : ℕ). get_or l i d) k) ∙ sym (get_or-drop j l 0 d) ∙ ap (λ (m : List A). get_or m 0 d) e

-- and the others
others_left : {A : Type 0} (l : List A) (j : ℕ) (x : A) (xs : List A) → drop j l ≡ x ∷ xs → drop (suc j) l ≡ xs
others_left l j x xs e = sym (ap (λ (i : ℕ). drop i l) (add-one j)) ∙ sym (drop-drop 1 j l) ∙ ap (drop 1) e

module _ (sheet : Sheet) (k : Counters) (ns : List (List ℕ)) (ms : List ℕ) where
  -- the target at a place
  place_told : (j : ℕ) (n : List ℕ) (m : ℕ) → get_or ns j [] ≡ n → get_or ms j 0 ≡ m → place_line sheet.run.status k ns ms j ≡ target_line n (row_shown sheet.run.status (eqb m 0) (totals_of (get_or k.placements j 0) (get_or k.singles j 0) (get_or k.multi j 0)))
  place_told j n m e f = rw (e, f)

  -- the targets from a place on
  rest_told : (j : ℕ) (ns' ss : List (List ℕ)) (ms' : List ℕ) → drop j ns ≡ ns' → drop j ms ≡ ms' → length ss ≡ length ns' → length ms' ≡ length ns' → place_lines sheet.run.status k ns ms j ++ target_lines sheet k (targets_from j ns' ss ms') ≡ place_lines sheet.run.status k ns ms (j + length ns')
  rest_told j [] ss ms' e f g h =
      let z : j + 0 ≡ j = omega arith in
      append-nil _ ∙ sym (ap (place_lines sheet.run.status k ns ms) z)
  rest_told j (n ∷ ns') [] ms' e f g h = absurd (omega arith)
  rest_told j (n ∷ ns') (s ∷ ss) [] e f g h = absurd (omega arith)
  rest_told j (n ∷ ns') (s ∷ ss) (m ∷ ms') e f g h =
      let z : suc j + length ns' ≡ j + suc (length ns') = omega arith in
      let t : List ℕ = target_lines sheet k (targets_from (suc j) ns' ss ms') in
      ap (λ (l : List ℕ). place_lines sheet.run.status k ns ms j ++ (l ++ t)) (sym (place_told j n m (first_left ns j n [] ns' e) (first_left ms j m 0 ms' f)))
      ∙ sym (append_assoc (place_lines sheet.run.status k ns ms j) (place_line sheet.run.status k ns ms j) t)
      ∙ rest_told (suc j) ns' ss ms' (others_left ns j n ns' e) (others_left ms j m ms' f) (omega arith) (omega arith)
      ∙ ap (place_lines sheet.run.status k ns ms) z

module _ (c : Catalogue) (within : in_bounds c ≡ true) where
  -- the targets of a catalogue
  pub targets_told : (sheet : Sheet) (k : Counters) → target_lines sheet k (targets c) ≡ place_lines sheet.run.status k (names c) c.marks (length c.identifier_ends)
  targets_told sheet k =
      let e = length_cut 0 c.identifier_ends c.identifiers in
      let f = length_cut 0 c.base_ends c.bases in
      let z : 0 + length (names c) ≡ length c.identifier_ends = omega arith in
      rest_told sheet k (names c) c.marks 0 (names c) (sequences c) c.marks refl refl (f ∙ (bounded c within).sequenced ∙ sym e) ((bounded c within).marked ∙ sym e) ∙ ap (place_lines sheet.run.status k (names c) c.marks) z

  -- a sheet
  pub sheet_told_lem : (h : Held) → sheet_lines c h ≡ sheet_told (sheet_of h) h.counters (names c) c.marks (length c.identifier_ends)
  sheet_told_lem h = ap (λ (l : List ℕ). count_lines (counts_shown (sheet_of h)) ++ l ++ run_line (sheet_of h).run) (targets_told (sheet_of h) h.counters)
