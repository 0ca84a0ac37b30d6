-- The row of a target written, and the rows of all as those of a catalogue's targets.
use Rattle.std.specs.Prelude.{Option, Some, None}
use mathlib.Core.Path.{◌≡◌, refl, sym, ap, ◌∙◌}
use mathlib.Core.List.{List, [], ◌∷◌, ◌++◌, map, append_assoc, append-nil}
use Prim.Native.Nat.{ℕ, zero, suc, ◌+◌, ◌*◌, ◌<◌, ◌≤◌}
use native.Mathlib.Omega.{arith}
use native.Mathlib.Numerals.{add-one}
use lib.ListN.{length, get_or, drop, length-append, length-drop, drop_of_length-le}
use lib.Seq.{drop-cons}
use lib.Dec.{eqb}
use Rattle.buffers.specs.Placed.{placed}
use Rattle.buffers.proofs.Storing.{length-placed, placed-placed}
use Rattle.catalogue.specs.Catalogue.{targets_from}
use Rattle.audit_ledger.specs.Booking.{Counters}
use Rattle.audit_model.specs.declared.sheet.PlacementTotals.{PlacementTotals}
use Rattle.audit_model.specs.declared.sheet.Shown.{Shown}
use Rattle.audit_model.specs.declared.sheet.Sheet.{Sheet}
use Rattle.audit_model.specs.declared.sheet.Status.{Status}
use Rattle.audit_model.specs.Sheet.{totals_of, row_shown, target_shown}
use Rattle.audit_model.specs.Unitigs.{total_numbers, shown_numbers, shown_rows}
use Rattle.audit_unitigs.specs.Rows.{row_at, rows_to, RowsLent}

-- ---- one row

length_totals : (a : Option PlacementTotals) → length (total_numbers a) ≡ 3
length_totals None = refl
length_totals (Some t) = refl

length-row : (x : Shown) → length (shown_numbers x) ≡ 4
length-row x = ap suc (length_totals x.totals)

-- ---- row by row

module _ (status : Status) (marks : List ℕ) (k : Counters) where
  length-rows : (n : ℕ) → length (rows_to status marks k n) ≡ 4 * n
  length-rows zero = refl
  length-rows (suc n) =
      let x = row_shown status (eqb (get_or marks n 0) 0) (totals_of (get_or k.placements n 0) (get_or k.singles n 0) (get_or k.multi n 0)) in
      omega (arith, length-append (rows_to status marks k n) (row_at status marks k n), length-row x, length-rows n)

-- the rows of the first i targets are written
pub record Written (status : Status) (marks : List ℕ) (k : Counters) (rows₀ : List ℕ) (i : ℕ) (rows : List ℕ) : Type 0 where
  pub inside : i ≤ length marks
  pub long : length rows ≡ length rows₀
  pub lent : RowsLent (length marks) k rows₀
  pub written : rows ≡ placed 0 (rows_to status marks k i) rows₀

module _ (status : Status) (marks : List ℕ) (k : Counters) (rows₀ : List ℕ) (i : ℕ) (rows : List ℕ) (inv : Written status marks k rows₀ i rows) where
  pub written_next : i < length marks → (x : Shown) (rows' : List ℕ)
      → x ≡ row_shown status (eqb (get_or marks i 0) 0) (totals_of (get_or k.placements i 0) (get_or k.singles i 0) (get_or k.multi i 0))
      → rows' ≡ placed (4 * i) (shown_numbers x) rows → Written status marks k rows₀ (i + 1) rows'
  written_next h x rows' f w =
      let front = rows_to status marks k i in
      let row = row_at status marks k i in
      let n : 4 * i ≡ 0 + length front = omega (arith, length-rows status marks k i) in
      let room : 0 + length front + length row ≤ length rows₀ = omega (arith, length-rows status marks k i, ap length (ap shown_numbers (sym f)), length-row x, inv.lent.rows_right) in
      let whole : rows' ≡ placed 0 (front ++ row) rows₀ = w ∙ rw (n, f, inv.written) (placed-placed 0 front rows₀ row room) in
      record {
        inside = omega arith;
        long = rw whole (length-placed 0 (front ++ row) rows₀ (omega (arith, room, length-append front row)));
        lent = inv.lent;
        written = rw add-one whole;
      }

  pub written_end : length marks ≤ i → rows ≡ rows_to status marks k (length marks)
  written_end h =
      let e : i ≡ length marks = omega (arith, inv.inside) in
      let whole : length rows₀ ≤ 0 + length (rows_to status marks k (length marks)) = omega (arith, length-rows status marks k (length marks), inv.lent.rows_right) in
      inv.written ∙ rw (e, drop_of_length-le rows₀ whole, append-nil)

-- ---- the targets of a catalogue

module _ (sheet : Sheet) (k : Counters) (marks : List ℕ) where
  -- the rows before place j, then those of the targets from j on
  rows-from : (j : ℕ) (ns ss : List (List ℕ)) (ms : List ℕ) → length ss ≡ length ns → length ms ≡ length ns → ms ≡ drop j marks
      → (rows_to sheet.run.status marks k j ++ shown_rows (map (target_shown sheet k) (targets_from j ns ss ms))) ≡ rows_to sheet.run.status marks k (j + length ms)
  rows-from j [] ss [] a b e = let z : j + 0 ≡ j = omega arith in rw (append-nil, z)
  rows-from j [] ss (m ∷ ms) a b e = absurd (omega (arith, b))
  rows-from j (n ∷ ns) [] ms a b e = absurd (omega (arith, a))
  rows-from j (n ∷ ns) (s ∷ ss) [] a b e = absurd (omega (arith, b))
  rows-from j (n ∷ ns) (s ∷ ss) (m ∷ ms) a b e =
      let inside : j < length marks = omega (arith, ap length e, length-drop j marks) in
      let here : m ∷ ms ≡ get_or marks j 0 ∷ drop (suc j) marks = e ∙ drop-cons marks j 0 inside in
      let mark : m ≡ get_or marks j 0 = cc here in
      let later : ms ≡ drop (suc j) marks = cc here in
      let count : j + suc (length ms) ≡ suc j + length ms = omega arith in
      let rest = shown_rows (map (target_shown sheet k) (targets_from (suc j) ns ss ms)) in
      rw (mark, count)
      (sym (append_assoc (rows_to sheet.run.status marks k j) (row_at sheet.run.status marks k j) rest) ∙ rows-from (suc j) ns ss ms (omega (arith, a)) (omega (arith, b)) later)

  pub rows_of_targets : (ns ss : List (List ℕ)) → length ss ≡ length ns → length marks ≡ length ns
      → shown_rows (map (target_shown sheet k) (targets_from 0 ns ss marks)) ≡ rows_to sheet.run.status marks k (length marks)
  rows_of_targets ns ss a b = let z : 0 + length marks ≡ length marks = omega arith in rows-from 0 ns ss marks a b refl ∙ rw z
