-- Where a key stands in keys that do not fall.
use Rattle.std.specs.Prelude.{◌≡◌, List, ℕ, ◌≤◌, ◌<◌, length, get_or}

-- keys do not fall
abbrev pub Rising : List ℕ → Type 0
Rising ks = (i j : ℕ) → i < j → j < length ks → get_or ks i 0 ≤ get_or ks j 0

-- the first n keys are below a bound
pub record BelowTo (ks : List ℕ) (bound n : ℕ) : Type 0 where
  pub inside : n ≤ length ks
  pub below : (i : ℕ) → i < n → get_or ks i 0 < bound

-- a place from low up to high, where there is one
abbrev pub Within : ℕ → ℕ → ℕ → Type 0
Within low high place = low < high → (low ≤ place) × (place < high)

-- what a search for a bound starts from: keys that do not fall, of which those before `from` are below the bound; the place
-- to look at first; and how far apart keys are thought to be
pub record SearchFrom (ks : List ℕ) (bound from first gap : ℕ) : Type 0 where
  pub rising : Rising ks
  pub below : BelowTo ks bound from
  pub within : Within from (length ks) first
  pub apart : 1 ≤ gap

-- where a bound stands in keys that do not fall
pub record BoundAt (ks : List ℕ) (bound place : ℕ) : Type 0 where
  pub inside : place ≤ length ks
  pub below : (i : ℕ) → i < place → get_or ks i 0 < bound
  pub above : (i : ℕ) → place ≤ i → i < length ks → bound ≤ get_or ks i 0

-- the places from start up to end, and no others, have the key
pub record RangeOf (ks : List ℕ) (key start end : ℕ) : Type 0 where
  pub ordered : start ≤ end
  pub inside : end ≤ length ks
  pub before : (i : ℕ) → i < start → get_or ks i 0 < key
  pub among : (i : ℕ) → start ≤ i → i < end → get_or ks i 0 ≡ key
  pub after : (i : ℕ) → end ≤ i → i < length ks → key < get_or ks i 0
