-- A search in keys that do not fall, under way.
use Rattle.std.proofs.Common.{List, ℕ, ◌<◌, ◌≤◌, length, get_or}
use Rattle.index_lookup.specs.Range.{Within}

-- the bound's place is between low and high, and so is the place to look at next
pub record Probing (ks : List ℕ) (bound low high mid : ℕ) : Type 0 where
  pub ordered : low ≤ high
  pub inside : high ≤ length ks
  pub below : (i : ℕ) → i < low → get_or ks i 0 < bound
  pub above : (i : ℕ) → high ≤ i → i < length ks → bound ≤ get_or ks i 0
  pub within : Within low high mid
