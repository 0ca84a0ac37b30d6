-- One more seed looked up.
use Rattle.std.specs.Prelude.{◌≡◌, cond, ℕ, ◌+◌, ◌-◌, ltb}

-- the rarer of two seeds, of equals the first
pub record Better (offset start end lookups offset' start' end' o s e l : ℕ) : Type 0 where
  pub offset-is : o ≡ cond (ltb (end' - start') (end - start)) offset' offset
  pub start_is : s ≡ cond (ltb (end' - start') (end - start)) start' start
  pub end_is : e ≡ cond (ltb (end' - start') (end - start)) end' end
  pub lookups_are : l ≡ lookups + 1

-- the same seed, with n lookups more
pub record Counted (offset start end lookups n o s e l : ℕ) : Type 0 where
  pub offset-is : o ≡ offset
  pub start_is : s ≡ start
  pub end_is : e ≡ end
  pub lookups_are : l ≡ lookups + n
