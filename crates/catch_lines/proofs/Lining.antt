-- Lines added field by field, and the room that they need.
use mathlib.Core.Path.{◌≡◌, refl, sym, ap, subst, ◌∙◌}
use mathlib.Core.List.{List, [], ◌∷◌, ◌++◌, append_assoc}
use Prim.Native.Nat.{ℕ, ◌+◌, ◌≤◌}
use native.Mathlib.Omega.{arith}
use lib.ListN.{length}
use Rattle.catch_text.specs.Text.{text, spaced, line}
use Rattle.catch_text.specs.Writing.{Adds, AddsAtMost}
use Rattle.catch_lines.specs.Lines.{line_room}

-- ---- lines

-- fields, each behind a space, and LF
abbrev ended : List (List ℕ) → List ℕ
ended [] = text "\n"
ended (f ∷ fs) = text " " ++ (f ++ ended fs)

spaced_ended : (fs : List (List ℕ)) → spaced fs ++ text "\n" ≡ ended fs
spaced_ended [] = refl
spaced_ended (f ∷ fs) = ap (λ (l : List ℕ). 32 ∷ l) (append_assoc f (spaced fs) (text "\n") ∙ ap (λ (l : List ℕ). f ++ l) (spaced_ended fs))

ended_append : (fs gs : List (List ℕ)) → ended (fs ++ gs) ≡ spaced fs ++ ended gs
ended_append [] gs = refl
ended_append (f ∷ fs) gs = ap (λ (l : List ℕ). 32 ∷ l) (ap (λ (l : List ℕ). f ++ l) (ended_append fs gs) ∙ sym (append_assoc f (spaced fs) (ended gs)))

-- a line is its first field, the others and LF
pub adds_line : (f : List ℕ) (fs : List (List ℕ)) {out out' : List ℕ} {at r : ℕ} → Adds (f ++ ended fs) out at out' r → Adds (line (f ∷ fs)) out at out' r
adds_line f fs {out} {out'} {at} {r} h = subst (λ (l : List ℕ). Adds l out at out' r) (sym (append_assoc f (spaced fs) (text "\n") ∙ ap (λ (l : List ℕ). f ++ l) (spaced_ended fs))) h

-- some of the others are added at once
pub adds_fields : (fs gs : List (List ℕ)) {out out' : List ℕ} {at r : ℕ} → Adds (spaced fs ++ ended gs) out at out' r → Adds (ended (fs ++ gs)) out at out' r
adds_fields fs gs {out} {out'} {at} {r} h = subst (λ (l : List ℕ). Adds l out at out' r) (sym (ended_append fs gs)) h

-- the last of them
pub adds_last : (fs : List (List ℕ)) {out out' : List ℕ} {at r : ℕ} → Adds (spaced fs ++ text "\n") out at out' r → Adds (ended fs) out at out' r
adds_last fs {out} {out'} {at} {r} h = subst (λ (l : List ℕ). Adds l out at out' r) (spaced_ended fs) h

-- ---- room

-- no more than a name of length `l` and `m` bytes have been added, and the output is as long as it was
pub record Reached (l m : ℕ) (out : List ℕ) (at : ℕ) (out' : List ℕ) (p : ℕ) : Type 0 where
  pub room : p ≤ at + l + m
  pub sized : length out' ≡ length out

pub reached_none : (out : List ℕ) (at : ℕ) → Reached 0 0 out at out at
reached_none out at = record { room = omega arith; sized = refl }

module _ {l m : ℕ} {out out' out'' b : List ℕ} {at p q : ℕ} (r : Reached l m out at out' p) where
  -- k bytes more, or no more than k
  pub reached_more : (k : ℕ) → Adds b out' p out'' q → length b ≤ k → length out'' ≡ length out' → Reached l (m + k) out at out'' q
  reached_more k f h e = record { room = omega arith; sized = e ∙ r.sized }

  pub reached_most : (k : ℕ) → AddsAtMost k b out' p out'' q → length out'' ≡ length out' → Reached l (m + k) out at out'' q
  reached_most k f e = record { room = omega arith; sized = e ∙ r.sized }

-- what is left where a line has room, or a line with a name
pub room_left : {m j k : ℕ} {out out' : List ℕ} {at p : ℕ} → Reached 0 m out at out' p → j ≤ k → m + k ≤ line_room → at + line_room ≤ length out → p + j ≤ length out'
room_left r h g f = omega arith

pub room-behind : {l m j k : ℕ} {out out' : List ℕ} {at p : ℕ} → Reached l m out at out' p → j ≤ k → m + k ≤ line_room → at + l + line_room ≤ length out → p + j ≤ length out'
room-behind r h g f = omega arith

-- a name
pub reached_name : {m : ℕ} {out out' out'' b : List ℕ} {at p q : ℕ} → Reached 0 m out at out' p → Adds b out' p out'' q → length out'' ≡ length out' → Reached (length b) m out at out'' q
reached_name r f e = record { room = omega arith; sized = e ∙ r.sized }

pub room_name : {m : ℕ} {out out' : List ℕ} {at p : ℕ} → Reached 0 m out at out' p → m ≤ line_room → (j : ℕ) → at + j + line_room ≤ length out → p + j ≤ length out'
room_name r h j f = omega arith

-- what was added altogether
pub reached-line : {m : ℕ} {b out out' : List ℕ} {at p : ℕ} → Reached 0 m out at out' p → m ≤ line_room → Adds b out at out' p → AddsAtMost line_room b out at out' p
reached-line r h f = record { adds = f; room = omega arith }

pub reached-named : {l m : ℕ} {b out out' : List ℕ} {at p : ℕ} → Reached l m out at out' p → m ≤ line_room → Adds b out at out' p → AddsAtMost (l + line_room) b out at out' p
reached-named r h f = record { adds = f; room = omega arith }
