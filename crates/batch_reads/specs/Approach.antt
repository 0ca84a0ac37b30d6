-- What an approach to the first seeds of reads is lent.
use Rattle.std.specs.Prelude.{◌≡◌, true, List, ℕ, ◌<◌, length}
use Rattle.lists.specs.Cut.{ends_within}
use Rattle.index_seeds.specs.Key.{SeedLength}
use Rattle.index_lookup.specs.Range.{Rising}

-- read i of a list
pub record ReadLent (q : ℕ) (reads ends : List ℕ) (i : ℕ) : Type 0 where
  pub seed : SeedLength q
  pub right : ends_within 0 (length reads) ends ≡ true
  pub inside : i < length ends

-- and keys that do not fall
pub record Approachable (ks : List ℕ) (q : ℕ) (reads ends : List ℕ) (i : ℕ) : Type 0 where
  pub rising : Rising ks
  pub lent : ReadLent q reads ends i
