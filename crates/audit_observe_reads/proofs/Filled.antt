-- What a read leaves in a part of the entries, and what stays behind the last whole entry.
use mathlib.Core.Path.{◌≡◌, refl, sym, ap, ap₂, ◌∙◌}
use mathlib.Core.Bool.{Bool, true, false, cond}
use mathlib.Core.List.{List, ◌++◌}
use Prim.Native.Nat.{ℕ, ◌+◌, ◌-◌, ◌*◌, ◌/◌, ◌≤◌}
use native.Mathlib.Omega.{arith}
use lib.ListN.{length, drop, replicate, length-replicate}
use borrow.Author.Tests.{le-ltb}
use Rattle.lists.specs.Cut.{window}
use Rattle.lists.proofs.Cut.{length-window}
use Rattle.buffers.specs.Placed.{placed}
use Rattle.buffers.proofs.Storing.{placed_none, length-placed}
use Rattle.buffers.proofs.Placed.{placed_front, placed_part, placed-behind, placed_self}
use Rattle.map_places.specs.Place.{groups}
use Rattle.map_every_start.specs.Entries.{entries_of, entry_count, cleared}
use Rattle.map_every_start.proofs.Going.{length-entries}
use Rattle.map_answers.specs.Answer.{listed, room_refusal}
use Rattle.map_search.specs.Answered.{search_entries}
use Rattle.map_search.proofs.Parts.{listed-room, read_entries-length}
use Rattle.audit_model.specs.declared.settings.Settings.{Settings}
use Rattle.audit_model.specs.Observing.{observed_room, observed_entries}
use Rattle.audit_observe_read.specs.Observed.{as_observed}

-- ---- numbers behind the last whole entry

-- as long as the buffer, and the same behind its last whole entry
pub record Within (b c : List ℕ) : Type 0 where
  pub same : length c ≡ length b
  pub behind : drop (4 * entry_count b) c ≡ drop (4 * entry_count b) b

within_self : (b : List ℕ) → Within b b
within_self b = record { same = refl; behind = refl }

module _ (b c : List ℕ) (w : Within b c) where
  -- numbers put into whole entries
  pub within_placed : (at : ℕ) (xs : List ℕ) → at + length xs ≤ 4 * entry_count b → Within b (placed at xs c)
  within_placed at xs h =
      let k : at + (4 * entry_count b - at) ≡ 4 * entry_count b = omega arith in
      let l = w.same in
      record {
        same = length-placed at xs c (omega arith) ∙ l;
        behind = (rw k at (placed-behind at xs c (4 * entry_count b - at) (omega arith) (omega arith))) ∙ w.behind;
      }

  -- they are gone where all is set to zero
  pub within_cleared : cleared c ≡ cleared b
  within_cleared =
      let k : 0 + length {A = ℕ} (replicate (4 * entry_count b) 0) ≡ 4 * entry_count b = omega (arith, length-replicate {A = ℕ} (4 * entry_count b) 0) in
      ap (λ n. placed 0 (replicate (4 * (n / 4)) 0) c) w.same ∙ ap (λ l. replicate (4 * entry_count b) 0 ++ l) (rw k w.behind)

pub within_zeros : (b : List ℕ) → Within b (cleared b)
within_zeros b = within_placed b b (within_self b) 0 (replicate (4 * entry_count b) 0) (omega (arith, length-replicate {A = ℕ} (4 * entry_count b) 0))

pub cleared_self : (b : List ℕ) → cleared (cleared b) ≡ cleared b
cleared_self b = within_cleared b (cleared b) (within_zeros b)

-- ---- a list put into a part that is put back

module _ (from width : ℕ) (b : List ℕ) (room : from + width ≤ length b) where
  part_inner : (xs : List ℕ) → length xs ≤ width → placed from (placed 0 xs (window b from width)) b ≡ placed from xs b
  part_inner xs short =
      let c = placed from xs b in
      let ys = placed 0 xs (window b from width) in
      let n = length-window b from width room in
      let l : length ys ≡ width = length-placed 0 xs (window b from width) (omega arith) ∙ n in
      let k : length c ≡ length b = length-placed from xs b (omega arith) in
      let d : drop (from + length ys) b ≡ drop (from + length ys) c = rw l (sym (placed-behind from xs b width short room)) in
      ap₂ (λ t r. (t ++ ys) ++ r) (sym (placed_front from xs b (omega arith))) d
      ∙ ap (λ x. placed from x c) (sym (placed_part from xs b width short room))
      ∙ placed_self from width c (omega (arith, k))

-- ---- what a read leaves in its part

module _ (s : Settings) (ss : List (List ℕ)) (ranked read : List ℕ) where
  -- the part after the read
  abbrev pub left_in : Bool → List ℕ → List ℕ
  left_in searched w = cond searched (search_entries ss ranked read s.limit w) w

  pub left_length : (searched : Bool) (w : List ℕ) → length (left_in searched w) ≡ length w
  left_length true w = read_entries-length (room_refusal (entry_count w) s.limit (length (groups ss read))) ranked (length read) s.limit (groups ss read) w (λ z. z)
  left_length false w = refl

  module _ (from width : ℕ) (b : List ℕ) (room : from + width ≤ length b) where
    abbrev part : List ℕ
    part = window b from width

    -- an accepted read in a part of zeros
    pub left_written : (searched : Bool) → part ≡ cleared part → observed_room s ss (entry_count part) (as_observed searched read) ≡ 0 → placed from (left_in searched part) b ≡ placed from (observed_entries s ss ranked (as_observed searched read)) b
    left_written true zeros z =
        let rows = entries_of ranked (length read) (listed s.limit (groups ss read)) in
        let short : length rows ≤ width = omega (arith, length-entries ranked (length read) (listed s.limit (groups ss read)), listed-room (entry_count part) s.limit (groups ss read) z, length-window b from width room) in
        rw z (ap (λ w. placed from (placed 0 rows w) b) (sym zeros) ∙ part_inner from width b room rows short)
    left_written false zeros z = rw (le-ltb s.limit 0 (omega arith)) (placed_self from width b room ∙ placed_none from b)
