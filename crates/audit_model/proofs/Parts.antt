-- Lists put into parts of the entries: each stands at the front of its part, and touches no other.
use mathlib.Core.Path.{◌≡◌, refl, sym, ap, ap₂, ◌∙◌}
use mathlib.Core.Bool.{true}
use mathlib.Core.List.{List, [], ◌∷◌, ◌++◌, map, append-nil}
use Prim.Native.Nat.{ℕ, zero, suc, ◌+◌, ◌*◌, ◌≤◌}
use native.Mathlib.Omega.{arith}
use native.Mathlib.Nat.{mul-suc}
use lib.ListN.{length, take, drop, replicate, length-map, length-replicate, drop_of_length-le}
use lib.Seq.{drop-drop, take-take}
use Rattle.lists.specs.Cut.{window}
use Rattle.lists.proofs.Cut.{length-window}
use Rattle.lists.proofs.Same.{same_true}
use Rattle.promises.proofs.Refusing.{none_first, none_second}
use Rattle.buffers.specs.Placed.{placed}
use Rattle.buffers.proofs.Storing.{length-placed}
use Rattle.buffers.proofs.Placed.{window-before, placed_front, placed_part, placed-behind}
use Rattle.map_every_start.specs.Entries.{entry_count, cleared}
use Rattle.map_every_start.proofs.Going.{length-entries}
use Rattle.map_answers.proofs.Concluding.{length-cleared}
use Rattle.map_search.proofs.Parts.{listed-room}
use Rattle.audit_model.specs.declared.settings.AuditInputMode.{AuditInputMode}
use Rattle.audit_model.specs.declared.settings.AuditInputMode.TheVariants as modes
use Rattle.audit_model.specs.declared.settings.Settings.{Settings}
use Rattle.audit_model.specs.Settings.{role_number, roles_of}
use Rattle.audit_model.specs.Observing.{MateRead, observe, observed_groups, observed_room, observed_listed, observed_entries}
use Rattle.audit_model.specs.Fragment.{roles_right, first_refusal, share_of, in_parts}

-- ---- lists put into parts

-- no list is longer than its part
abbrev pub Short : ℕ → List (List ℕ) → Type 0
Short width [] = Unit {0}
Short width (l ∷ ls) = (length l ≤ width) × Short width ls

-- each list at the front of its part, by what the part was before and is after
abbrev pub InParts : (List ℕ → List ℕ) → ℕ → ℕ → List (List ℕ) → List ℕ → List ℕ → Type 0
InParts first width from [] before after = Unit {0}
InParts first width from (l ∷ ls) before after = (window after from width ≡ placed 0 l (first (window before from width))) × InParts first width (from + width) ls before after

module _ (width : ℕ) where
  -- the room of one part, and of those behind it
  one_room : (from n m : ℕ) → from + width * suc n ≤ m → (from + width ≤ m) × (from + width + width * n ≤ m)
  one_room from n m h = let e = mul-suc width n in (omega arith, omega arith)

  pub length_parts : (from : ℕ) (ls : List (List ℕ)) (b : List ℕ) → Short width ls → from + width * length ls ≤ length b → length (in_parts width from ls b) ≡ length b
  length_parts from [] b s h = refl
  length_parts from (l ∷ ls) b s h =
      let o = one_room from (length ls) (length b) h in
      let e = length-placed from l b (omega (arith, s.0, o.0)) in
      length_parts (from + width) ls (placed from l b) s.1 (omega (arith, o.1, e)) ∙ e

  -- what stands before the first part stays
  pub parts_front : (from : ℕ) (ls : List (List ℕ)) (b : List ℕ) → Short width ls → from + width * length ls ≤ length b → take from (in_parts width from ls b) ≡ take from b
  parts_front from [] b s h = refl
  parts_front from (l ∷ ls) b s h =
      let o = one_room from (length ls) (length b) h in
      let e = length-placed from l b (omega (arith, s.0, o.0)) in
      let i : take (from + width) (in_parts width (from + width) ls (placed from l b)) ≡ take (from + width) (placed from l b) = parts_front (from + width) ls (placed from l b) s.1 (omega (arith, o.1, e)) in
      sym (take-take from (from + width) (in_parts width (from + width) ls (placed from l b)) (omega arith)) ∙ ap (take from) i ∙ take-take from (from + width) (placed from l b) (omega arith)
      ∙ placed_front from l b (omega (arith, o.0))

  -- parts depend on what lies from the first on
  parts_same : (first : List ℕ → List ℕ) (from : ℕ) (ls : List (List ℕ)) (b b' after : List ℕ) → drop from b ≡ drop from b' → InParts first width from ls b after → InParts first width from ls b' after
  parts_same first from [] b b' after e p = tt
  parts_same first from (l ∷ ls) b b' after e p =
      let d : drop (from + width) b ≡ drop (from + width) b' = sym (drop-drop width from b) ∙ ap (drop width) e ∙ drop-drop width from b' in
      (p.0 ∙ ap (λ k. placed 0 l (first (take width k))) e, parts_same first (from + width) ls b b' after d p.1)

  -- each list is at the front of its part
  pub parts_placed : (from : ℕ) (ls : List (List ℕ)) (b : List ℕ) → Short width ls → from + width * length ls ≤ length b → InParts (λ l. l) width from ls b (in_parts width from ls b)
  parts_placed from [] b s h = tt
  parts_placed from (l ∷ ls) b s h =
      let o = one_room from (length ls) (length b) h in
      let e = length-placed from l b (omega (arith, s.0, o.0)) in
      let r : from + width + width * length ls ≤ length (placed from l b) = omega (arith, o.1, e) in (
        window-before (in_parts width (from + width) ls (placed from l b)) (placed from l b) from width (from + width) (omega arith) (parts_front (from + width) ls (placed from l b) s.1 r) ∙ placed_part from l b width s.0 o.0,
        parts_same (λ k. k) (from + width) ls (placed from l b) b (in_parts width (from + width) ls (placed from l b)) (placed-behind from l b width s.0 o.0) (parts_placed (from + width) ls (placed from l b) s.1 r),
      )

-- ---- parts of whole entries, set to zero first

zeros : (from n m : ℕ) (rest : List ℕ) → from + n ≤ m → take n (drop from (replicate m 0 ++ rest)) ≡ replicate n 0
zeros zero zero m rest h = refl
zeros zero (suc n) zero rest h = absurd (omega arith)
zeros zero (suc n) (suc m) rest h = ap {B = List ℕ} (λ l. 0 ∷ l) (zeros zero n m rest (omega arith))
zeros (suc from) n zero rest h = absurd (omega arith)
zeros (suc from) n (suc m) rest h = zeros from n m rest (omega arith)

-- a part of entries set to zero is the part, set to zero
pub cleared_part : (from share : ℕ) (b : List ℕ) → from + 4 * share ≤ 4 * entry_count b → window (cleared b) from (4 * share) ≡ cleared (window b from (4 * share))
cleared_part from share b h =
    let l : length (window b from (4 * share)) ≡ 4 * share = length-window b from (4 * share) (omega arith) in
    let n : 4 * entry_count (window b from (4 * share)) ≡ 4 * share = omega (arith, l) in
    let k : length (window b from (4 * share)) ≤ 0 + length {A = ℕ} (replicate (4 * entry_count (window b from (4 * share))) 0) = omega (arith, l, n, length-replicate {A = ℕ} (4 * entry_count (window b from (4 * share))) 0) in
    zeros from (4 * share) (4 * entry_count b) _ h ∙ sym (append-nil (replicate (4 * share) 0)) ∙ ap₂ (λ k r. replicate k 0 ++ r) (sym n) (sym (drop_of_length-le (window b from (4 * share)) k))

-- lists put into parts of a buffer that was set to zero
pub parts_cleared : (share from : ℕ) (ls : List (List ℕ)) (b after : List ℕ) → from + 4 * share * length ls ≤ 4 * entry_count b → InParts (λ l. l) (4 * share) from ls (cleared b) after → InParts cleared (4 * share) from ls b after
parts_cleared share from [] b after h p = tt
parts_cleared share from (l ∷ ls) b after h p =
    let o = one_room (4 * share) from (length ls) (4 * entry_count b) h in
    (p.0 ∙ ap (placed 0 l) (cleared_part from share b o.0), parts_cleared share (from + 4 * share) ls b after o.1 p.1)

-- ---- an accepted fragment's reads fit

-- as many reads as roles have their shares
pub shares_fit : (mode : AuditInputMode) (reads : List MateRead) (entries : ℕ) → roles_right mode reads ≡ true → 4 * share_of mode entries * length reads ≤ 4 * entries
shares_fit mode reads entries t = go mode (sym (length-map reads numbers) ∙ ap length (same_true (map numbers reads) (roles_of mode) t))
  where
    numbers : MateRead → ℕ
    numbers r = role_number r.role

    go : (m : AuditInputMode) → length reads ≡ length (roles_of m) → 4 * share_of m entries * length reads ≤ 4 * entries
    go modes.SingleEnd e = rw e (omega arith)
    go modes.PairedEnd e = rw e (omega arith)

module _ (offset : ℕ) (s : Settings) (ss : List (List ℕ)) (ranked : List ℕ) where
  -- a read's entries fit into its share
  pub entries_fit : (share : ℕ) (r : MateRead) → observed_room s ss share (observe offset s r) ≡ 0 → length (observed_entries s ss ranked (observe offset s r)) ≤ 4 * share
  entries_fit share r z =
      let e = length-entries ranked (length r.read.bases) (observed_listed s ss (observe offset s r)) in
      omega (arith, e, listed-room share s.limit (observed_groups s ss (observe offset s r)) z)

  pub entries_short : (share : ℕ) (reads : List MateRead) → first_refusal (λ (r : MateRead). observed_room s ss share (observe offset s r)) reads ≡ 0 → Short (4 * share) (map (λ (r : MateRead). observed_entries s ss ranked (observe offset s r)) reads)
  entries_short share [] z = tt
  entries_short share (r ∷ rs) z = (
    entries_fit share r (none_first (observed_room s ss share (observe offset s r)) (first_refusal (λ (r : MateRead). observed_room s ss share (observe offset s r)) rs) z),
    entries_short share rs (none_second (observed_room s ss share (observe offset s r)) (first_refusal (λ (r : MateRead). observed_room s ss share (observe offset s r)) rs) z),
  )

  module _ (reads : List MateRead) (b : List ℕ) (roles : roles_right s.mode reads ≡ true) (room : first_refusal (λ (r : MateRead). observed_room s ss (share_of s.mode (entry_count b)) (observe offset s r)) reads ≡ 0) where
    abbrev width : ℕ
    width = 4 * share_of s.mode (entry_count b)

    abbrev lists : List (List ℕ)
    lists = map (λ (r : MateRead). observed_entries s ss ranked (observe offset s r)) reads

    within : 0 + width * length lists ≤ 4 * entry_count b
    within = rw (length-map reads (λ (r : MateRead). observed_entries s ss ranked (observe offset s r))) (omega (arith, shares_fit s.mode reads (entry_count b) roles))

    -- the entries of each read at the front of its part, which was set to zero
    pub reads_in_parts : InParts cleared width 0 lists b (in_parts width 0 lists (cleared b))
    reads_in_parts =
        parts_cleared (share_of s.mode (entry_count b)) 0 lists b (in_parts width 0 lists (cleared b)) within
        (parts_placed width 0 lists (cleared b) (entries_short (share_of s.mode (entry_count b)) reads room) (omega (arith, within, length-cleared b)))

    pub length-written : length (in_parts width 0 lists (cleared b)) ≡ length b
    length-written = length_parts width 0 lists (cleared b) (entries_short (share_of s.mode (entry_count b)) reads room) (omega (arith, within, length-cleared b)) ∙ length-cleared b
