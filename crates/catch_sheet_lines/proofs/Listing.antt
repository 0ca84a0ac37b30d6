-- Lines written one after the other, each with a name.
use mathlib.Core.Path.{◌≡◌, ◌∙◌}
use mathlib.Core.List.{List, ◌++◌}
use Prim.Native.Nat.{ℕ, suc, ◌+◌, ◌*◌, ◌≤◌, ◌<◌}
use native.Mathlib.Numerals.{add-one}
use native.Mathlib.Omega.{arith}
use lib.ListN.{length}
use Rattle.catch_text.specs.Writing.{Adds, AddsAtMost}
use Rattle.catch_text.proofs.Adding.{adds_both}
use Rattle.catch_sheet_lines.specs.Lent.{named_room}

-- the first i of n lines stand behind the first `at` bytes of an output
pub record Listed (lines : ℕ → List ℕ) (out : List ℕ) (at n : ℕ) (out' : List ℕ) (p i : ℕ) : Type 0 where
  pub adds : Adds (lines i) out at out' p
  pub room : p ≤ at + i * named_room
  pub sized : length out' ≡ length out
  pub inside : i ≤ n

module _ {lines : ℕ → List ℕ} {out : List ℕ} {at n : ℕ} {out' : List ℕ} {p i : ℕ} (f : Listed lines out at n out' p i) where
  pub listed_more : {one out'' : List ℕ} {q : ℕ} → i < n → lines (suc i) ≡ lines i ++ one → AddsAtMost named_room one out' p out'' q → length out'' ≡ length out' → Listed lines out at n out'' q (i + 1)
  listed_more h m g e = record { adds = rw (add-one, m) (adds_both f.adds g.adds); room = omega arith; sized = e ∙ f.sized; inside = omega arith }
