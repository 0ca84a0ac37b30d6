-- Bytes added to an output one after the other.
use mathlib.Core.Path.{refl, ap, ◌∙◌}
use mathlib.Core.List.{List, [], ◌∷◌, ◌++◌, append_assoc, append-nil}
use Prim.Native.Nat.{ℕ, ◌+◌, ◌<◌}
use native.Mathlib.Numerals.{add-one}
use native.Mathlib.Omega.{arith}
use lib.ListN.{length, set, length-append}
use lib.Seq.{take-suc-set}
use Rattle.catch_text.specs.Writing.{Adds}

-- ---- one after the other

-- what is added twice is added at once
pub adds_both : {a b out out' out'' : List ℕ} {at p q : ℕ} → Adds a out at out' p → Adds b out' p out'' q → Adds (a ++ b) out at out'' q
adds_both {a} {b} f g = record { written = g.written ∙ ap (λ (l : List ℕ). l ++ b) f.written ∙ simp append_assoc; end = rw length-append (omega arith) }

pub adds_none : (out : List ℕ) (at : ℕ) → Adds [] out at out at
adds_none out at = record { written = simp append-nil; end = omega arith }

-- one byte more
pub adds_byte : (out : List ℕ) (at b : ℕ) → at < length out → Adds (b ∷ []) out at (set out at b) (at + 1)
adds_byte out at b h = record { written = rw (add-one, take-suc-set); end = refl }
