-- A column that is filled from the front with a field of records.
use mathlib.Core.Path.{◌≡◌, refl, ap}
use mathlib.Core.List.{List, [], ◌∷◌, map, ◌++◌}
use Prim.Native.Nat.{ℕ, zero, suc, ◌<◌, ◌≤◌}
use native.Mathlib.Omega.{arith}
use lib.ListN.{length, take, drop, set, get_or}
use Rattle.record_copy.specs.declared.SeedPosting.{SeedPosting}

-- what stands past the end of a list of records
abbrev pub none : SeedPosting
none = record { key = 0; rank = 0; position = 0 }

-- a field of the first i records, and what stood behind
abbrev pub filled : (SeedPosting → ℕ) → List SeedPosting → List ℕ → ℕ → List ℕ
filled f ps b i = map f (take i ps) ++ drop i b

pub length_filled : (f : SeedPosting → ℕ) (ps : List SeedPosting) (b : List ℕ) (i : ℕ) → i ≤ length ps → i ≤ length b → length (filled f ps b i) ≡ length b
length_filled f ps b zero h l = refl
length_filled f [] b (suc i) h l = absurd (omega (arith, h))
length_filled f (p ∷ ps) [] (suc i) h l = absurd (omega (arith, l))
length_filled f (p ∷ ps) (x ∷ b) (suc i) h l = ap suc (length_filled f ps b i (omega (arith, h)) (omega (arith, l)))

-- one row more
pub filled_next : (f : SeedPosting → ℕ) (ps : List SeedPosting) (b : List ℕ) (i : ℕ) → i < length ps → i < length b → set (filled f ps b i) i (f (get_or ps i none)) ≡ filled f ps b (suc i)
filled_next f [] b i h l = absurd (omega (arith, h))
filled_next f (p ∷ ps) [] i h l = absurd (omega (arith, l))
filled_next f (p ∷ ps) (x ∷ b) zero h l = refl
filled_next f (p ∷ ps) (x ∷ b) (suc i) h l = ap (λ (xs : List ℕ). f p ∷ xs) (filled_next f ps b i (omega (arith, h)) (omega (arith, l)))
