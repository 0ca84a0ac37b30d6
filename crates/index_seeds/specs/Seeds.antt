-- The seeds of a sequence as postings, and postings stored in columns (REFERENCE.md, "Postings").
use Rattle.std.specs.Prelude.{◌≡◌, List, [], ◌∷◌, map, ℕ, zero, suc, ◌+◌, ◌≤◌, length}
use Rattle.buffers.specs.Placed.{placed}
use Rattle.index_columns.specs.Posting.{Posting, posting}
use Rattle.index_seeds.specs.Window.{window_of, starts}
use Rattle.index_seeds.specs.Key.{key_of}

-- the seed of q bases at a start of a sequence of rank r
abbrev pub seed_at : ℕ → ℕ → List ℕ → ℕ → Posting
seed_at q r s i = posting (key_of (window_of s i q)) r i

-- n seeds from start i on
abbrev pub seeds_from : ℕ → ℕ → List ℕ → ℕ → ℕ → List Posting
seeds_from q r s i zero = []
seeds_from q r s i (suc n) = seed_at q r s i ∷ seeds_from q r s (suc i) n

-- every seed of a sequence
abbrev pub seeds : ℕ → ℕ → List ℕ → List Posting
seeds q r s = seeds_from q r s 0 (starts q s)

-- ---- columns

abbrev pub keys_of : List Posting → List ℕ
keys_of ps = map (λ (p : Posting). p.key) ps

abbrev pub ranks_of : List Posting → List ℕ
ranks_of ps = map (λ (p : Posting). p.rank) ps

abbrev pub positions_of : List Posting → List ℕ
positions_of ps = map (λ (p : Posting). p.position) ps

-- columns as before, but with postings from `at` on
pub record Stored (at : ℕ) (ps : List Posting) (ks rs os ks' rs' os' : List ℕ) : Type 0 where
  pub keys : ks' ≡ placed at (keys_of ps) ks
  pub ranks : rs' ≡ placed at (ranks_of ps) rs
  pub positions : os' ≡ placed at (positions_of ps) os

-- columns with room for n numbers from `at` on
pub record Room (at n : ℕ) (ks rs os : List ℕ) : Type 0 where
  pub keys : at + n ≤ length ks
  pub ranks : at + n ≤ length rs
  pub positions : at + n ≤ length os
