-- How many seeds there are.
use mathlib.Core.Path.{◌≡◌, refl, ap}
use mathlib.Core.List.{List}
use Prim.Native.Nat.{ℕ, zero, suc}
use lib.ListN.{length}
use Rattle.index_seeds.specs.Seeds.{seeds_from}

pub length-seeds : (q r : ℕ) (s : List ℕ) (i n : ℕ) → length (seeds_from q r s i n) ≡ n
length-seeds q r s i zero = refl
length-seeds q r s i (suc n) = ap suc (length-seeds q r s (suc i) n)
