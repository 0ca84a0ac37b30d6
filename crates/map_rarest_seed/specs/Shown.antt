-- How many offsets behind a seed are known to have no fewer postings.
use Rattle.std.specs.Prelude.{◌≡◌, true, List, [], ℕ, ◌+◌, ◌≤◌, ◌<◌, length, get_or}
use Rattle.bases.specs.Read.{letters}
use Rattle.index_seeds.specs.Key.{SeedLength}
use Rattle.index_model.specs.Index.{ranked_sequences, Lent, Indexed}
use Rattle.map_places.specs.Place.{max_read}
use Rattle.map_places.specs.Agreeing.{agreeing}

-- behind a seed at a position of a sequence r more bases are there, and agree with those behind the seed at offset o
pub record GoesOn (q : ℕ) (s : List ℕ) (position : ℕ) (b : List ℕ) (o r : ℕ) : Type 0 where
  pub inside : position + q + r ≤ length s
  pub agree : agreeing r s (position + q) b (o + q) ≡ true

-- they do so behind each posting of a range
pub record Shown (q : ℕ) (ss : List (List ℕ)) (rs os b : List ℕ) (o start end most r : ℕ) : Type 0 where
  pub few : r ≤ most
  pub each : (i : ℕ) → start ≤ i → i < end → GoesOn q (get_or ss (get_or rs i 0) []) (get_or os i 0) b o r

-- the same behind one posting
pub record Behind (q : ℕ) (ss : List (List ℕ)) (rank position : ℕ) (b : List ℕ) (o most r : ℕ) : Type 0 where
  pub few : r ≤ most
  pub goes_on : GoesOn q (get_or ss rank []) position b o r

-- ---- what is lent

-- a posting of sequences, and a read with bases behind the seed at offset o
pub record PostingLent (bases ends ranked : List ℕ) (rank position q : ℕ) (read : List ℕ) (o most : ℕ) : Type 0 where
  pub lent : Lent bases ends ranked
  pub is_ranked : rank < length ranked
  pub seed : position + q ≤ length (get_or (ranked_sequences bases ends ranked) rank [])
  pub letters_right : letters read ≡ true
  pub in_read : o + q + most ≤ length read

-- the postings from start up to end are
pub record ShowLent (q : ℕ) (bases ends ranked rs os read : List ℕ) (o start end most : ℕ) : Type 0 where
  pub ordered : start ≤ end
  pub in_ranks : end ≤ length rs
  pub in_positions : end ≤ length os
  pub each : (i : ℕ) → start ≤ i → i < end → PostingLent bases ends ranked (get_or rs i 0) (get_or os i 0) q read o most

-- what the choice of a seed is lent: sequences, columns that are their index, and a read of letters with a seed in it
pub record ChoiceLent (q : ℕ) (bases ends ranked ks rs os read : List ℕ) : Type 0 where
  pub lent : Lent bases ends ranked
  pub seed : SeedLength q
  pub indexed : Indexed q (ranked_sequences bases ends ranked) ks rs os
  pub letters_right : letters read ≡ true
  pub long : q ≤ length read
  pub short : length read ≤ max_read
