-- The lines of an answer, case by case.
use Rattle.std.specs.Prelude.{Result, Ok}
use mathlib.Core.Path.{◌≡◌, sym, subst}
use mathlib.Core.List.{List, ◌++◌}
use Prim.Native.Nat.{ℕ, ◌+◌, ◌-◌, ◌≤◌}
use native.Mathlib.Omega.{arith}
use lib.ListN.{length, take, drop, length-drop}
use lib.Seq.{take_all}
use Rattle.map_answers.specs.Answer.{Row}
use Rattle.map_answers.specs.declared.answer.Mapping.{Mapping}
use Rattle.audit_model.specs.declared.calls.FragmentRows.{FragmentRows}
use Rattle.audit_model.specs.declared.calls.FragmentRows.TheVariants as fragments
use Rattle.audit_model.specs.declared.calls.Mates.{Mates}
use Rattle.catch_text.specs.Writing.{AddsAtMost}
use Rattle.catch_text.proofs.Adding.{adds_both}
use Rattle.catch_sheet_lines.specs.Lent.{read_told, EntriesLent}
use Rattle.catch_fragment_lines.specs.Answer.{lines_by, answer_room, AnswerLent}

-- an answer with its rows
pub answered : {E : Type 0} {a : Result FragmentRows E} {x y : FragmentRows} → a ≡ Ok x → x ≡ y → a ≡ Ok y
answered e f = rw f at e

-- bytes behind bytes
pub two_added : {i j : ℕ} {a b out out₁ out' : List ℕ} {at p r : ℕ} → AddsAtMost i a out at out₁ p → AddsAtMost j b out₁ p out' r → AddsAtMost (i + j) (a ++ b) out at out' r
two_added f g = record { adds = adds_both f.adds g.adds; room = omega arith }

-- where entries are lent, fewer are
pub fewer_lent : (ids ends entries : List ℕ) (m n : ℕ) → m ≤ n → EntriesLent ids ends entries n → EntriesLent ids ends entries m
fewer_lent ids ends entries m n h l = record { named = l.named; listed = omega (arith, l.listed); placed = λ i below. l.placed i (omega arith) }

module _ {E : Type 0} (ids ends entries : List ℕ) (width : ℕ) (a : Result FragmentRows E) (lent : AnswerLent ids ends entries width a) where
  pub lent_single : (m : Mapping) → a ≡ Ok (fragments.Single m) → EntriesLent ids ends entries m.groups
  lent_single m e = subst (AnswerLent ids ends entries width) e lent

  pub lent_paired : (m : Mates) → a ≡ Ok (fragments.Paired m)
      → EntriesLent ids ends entries m.first.groups × EntriesLent ids ends (drop width entries) m.second.groups × (width ≤ length entries)
  lent_paired m e = subst (AnswerLent ids ends entries width) e lent

-- the room of an answer that is known
pub room_of : {E : Type 0} (at n : ℕ) (a b : Result FragmentRows E) → a ≡ b → at + answer_room a ≤ n → at + answer_room b ≤ n
room_of at n a b e h = subst (λ x. at + answer_room x ≤ n) e h

-- its lines
pub lines_of : {E : Type 0} (number : E → ℕ) (ns : List (List ℕ)) (ordinal first second width : ℕ) (entries out : List ℕ) (at : ℕ) (out' : List ℕ) (r : ℕ) (a b : Result FragmentRows E) → a ≡ b
    → AddsAtMost (answer_room b) (lines_by number ns ordinal first second width b entries) out at out' r → AddsAtMost (answer_room a) (lines_by number ns ordinal first second width a entries) out at out' r
lines_of number ns ordinal first second width entries out at out' r a b e h = subst (λ x. AddsAtMost (answer_room x) (lines_by number ns ordinal first second width x entries) out at out' r) (sym e) h

-- the part from a place on, as it is lent
part_behind : (l : List ℕ) (w : ℕ) → take (length l - w) (drop w l) ≡ drop w l
part_behind l w = take_all (length l - w) (drop w l) (omega (arith, length-drop w l))

pub part_lent : (ids ends entries : List ℕ) (w n : ℕ) → EntriesLent ids ends (drop w entries) n → EntriesLent ids ends (take (length entries - w) (drop w entries)) n
part_lent ids ends entries w n h = subst (λ l. EntriesLent ids ends l n) (sym (part_behind entries w)) h

pub part_lines : (ns : List (List ℕ)) (ordinal role : ℕ) (row : Row) (entries : List ℕ) (w i : ℕ) (out : List ℕ) (at : ℕ) (out' : List ℕ) (r : ℕ)
    → AddsAtMost i (read_told ns ordinal role row (take (length entries - w) (drop w entries))) out at out' r → AddsAtMost i (read_told ns ordinal role row (drop w entries)) out at out' r
part_lines ns ordinal role row entries w i out at out' r h = subst (λ l. AddsAtMost i (read_told ns ordinal role row l) out at out' r) (part_behind entries w) h
