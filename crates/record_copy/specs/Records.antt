-- An index lent as one slice of records, copied into columns (REFERENCE.md, "Mapping").
use Rattle.std.specs.Prelude.{◌≡◌, List, map, ◌++◌, ℕ, ◌<◌, ◌≤◌, length, take, drop, set}
use Rattle.record_copy.specs.declared.SeedPosting.{SeedPosting}

-- ---- the fields of records, as columns

abbrev pub keys_in : List SeedPosting → List ℕ
keys_in ps = map (λ (p : SeedPosting). p.key) ps

abbrev pub ranks_in : List SeedPosting → List ℕ
ranks_in ps = map (λ (p : SeedPosting). p.rank) ps

abbrev pub positions_in : List SeedPosting → List ℕ
positions_in ps = map (λ (p : SeedPosting). p.position) ps

-- ---- one row

-- row i is in every column
pub record RowIn (i : ℕ) (ks rs os : List ℕ) : Type 0 where
  pub keys : i < length ks
  pub ranks : i < length rs
  pub positions : i < length os

-- row i holds the fields of a record, and the other rows stay
pub record RowSet (i : ℕ) (p : SeedPosting) (ks rs os ks' rs' os' : List ℕ) : Type 0 where
  pub keys : ks' ≡ set ks i p.key
  pub ranks : rs' ≡ set rs i p.rank
  pub positions : os' ≡ set os i p.position

-- ---- n records

-- there are n of them, and every column has room for them
pub record Fits (n : ℕ) (ps : List SeedPosting) (ks rs os : List ℕ) : Type 0 where
  pub records_in : n ≤ length ps
  pub keys : n ≤ length ks
  pub ranks : n ≤ length rs
  pub positions : n ≤ length os

-- the first n rows hold the fields of the first n records, and the other rows stay
pub record Copied (n : ℕ) (ps : List SeedPosting) (ks rs os ks' rs' os' : List ℕ) : Type 0 where
  pub keys : ks' ≡ keys_in (take n ps) ++ drop n ks
  pub ranks : rs' ≡ ranks_in (take n ps) ++ drop n rs
  pub positions : os' ≡ positions_in (take n ps) ++ drop n os
