-- The lines of groups, entry by entry.
use mathlib.Core.Path.{◌≡◌, refl, sym, ap, ◌∙◌}
use mathlib.Core.List.{List, [], ◌∷◌, ◌++◌, append_assoc, append-nil}
use Prim.Native.Nat.{ℕ, zero, suc, ◌+◌, ◌*◌}
use native.Mathlib.Omega.{arith}
use lib.ListN.{length, get_or, take, drop, take-append-drop}
use lib.Seq.{get_or-drop}
use Rattle.buffers.specs.Placed.{placed}
use Rattle.map_places.specs.Place.{Place}
use Rattle.map_every_start.specs.Entries.{entries_of}
use Rattle.catch_lines.specs.Lines.{group_line}
use Rattle.catch_sheet_lines.specs.Sheets.{group_lines}
use Rattle.catch_sheet_lines.specs.Lent.{entry_line, entry_lines}

-- the entries behind the first
entry_behind : (names : List (List ℕ)) (entries : List ℕ) (i : ℕ) → entry_line names (drop 4 entries) i ≡ entry_line names entries (suc i)
entry_behind names entries i =
    let a : 4 + i * 4 ≡ suc i * 4 = omega arith in
    let b : 4 + (i * 4 + 1) ≡ suc i * 4 + 1 = omega arith in
    let d : 4 + (i * 4 + 2) ≡ suc i * 4 + 2 = omega arith in
    let e : 4 + (i * 4 + 3) ≡ suc i * 4 + 3 = omega arith in
    four _ _ _ _ _ _ _ _ (get_or-drop 4 entries (i * 4) 0 ∙ ap (λ (k : ℕ). get_or entries k 0) a) (get_or-drop 4 entries (i * 4 + 1) 0 ∙ ap (λ (k : ℕ). get_or entries k 0) b) (get_or-drop 4 entries (i * 4 + 2) 0 ∙ ap (λ (k : ℕ). get_or entries k 0) d) (get_or-drop 4 entries (i * 4 + 3) 0 ∙ ap (λ (k : ℕ). get_or entries k 0) e)
  where
    four : (p q s t p' q' s' t' : ℕ) → p ≡ p' → q ≡ q' → s ≡ s' → t ≡ t' → group_line (get_or names p []) q s t ≡ group_line (get_or names p' []) q' s' t'
    four p q s t p' q' s' t' f g h k = rw (f, g, h, k)

-- one entry more
pub lines_more : (names : List (List ℕ)) (i : ℕ) (entries : List ℕ) → entry_lines names (suc i) entries ≡ entry_lines names i entries ++ entry_line names entries i
lines_more names zero entries = append-nil _
lines_more names (suc i) entries =
    ap (λ (l : List ℕ). entry_line names entries 0 ++ l) (lines_more names i (drop 4 entries) ∙ ap (λ (l : List ℕ). entry_lines names i (drop 4 entries) ++ l) (entry_behind names entries i))
    ∙ sym (append_assoc (entry_line names entries 0) (entry_lines names i (drop 4 entries)) (entry_line names entries (suc i)))

-- ---- entries that list groups

module _ (ns : List (List ℕ)) (ranked : List ℕ) (n : ℕ) where
  -- the lines of entries that list groups are those of the groups
  entries_lines : (gs : List Place) (more : List ℕ) → entry_lines ns (length gs) (entries_of ranked n gs ++ more) ≡ group_lines ns ranked n gs
  entries_lines [] more = refl
  entries_lines (p ∷ ps) more = ap (λ (l : List ℕ). group_line (get_or ns (get_or ranked p.rank 0) []) p.start (p.start + n) p.strand ++ l) (entries_lines ps more)

  -- and so where they stand at the front of a part
  pub part_lines : (gs : List Place) (width : ℕ) (entries rest : List ℕ) → take width entries ≡ placed 0 (entries_of ranked n gs) rest → entry_lines ns (length gs) entries ≡ group_lines ns ranked n gs
  part_lines gs width entries rest e =
      let front = entries_of ranked n gs in
      let whole : entries ≡ front ++ (drop (0 + length front) rest ++ drop width entries) =
      sym (take-append-drop width entries) ∙ ap (λ (l : List ℕ). l ++ drop width entries) e ∙ append_assoc front (drop (0 + length front) rest) (drop width entries) in
      ap (entry_lines ns (length gs)) whole ∙ entries_lines gs (drop (0 + length front) rest ++ drop width entries)
