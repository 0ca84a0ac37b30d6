-- What the books count: the reads that were booked, and their groups (REFERENCE.md, "Booking").
use Rattle.std.specs.Prelude.{◌≡◌, Bool, not, ◌&&◌, List, [], ◌∷◌, ◌++◌, ℕ, ◌<◌, length, get_or, eqb, ltb}
use Rattle.lists.specs.Filter.{filter, every}
use Rattle.lists.specs.Member.{◌∈◌, Distinct}
use Rattle.lists.specs.Sum.{sum}
use Rattle.map_places.specs.Place.{Place}
use Rattle.audit_ledger.specs.Booking.{Booked, Books, targets_of}
use Rattle.audit_ledger.specs.Balance.{count_of}

-- ---- reads

-- the reads of a role and a state
abbrev pub reads_in_state : ℕ → ℕ → List Booked → ℕ
reads_in_state role state bs = length (filter (λ (b : Booked). eqb b.role role && eqb b.state state) bs)

-- the reads of a role
abbrev pub reads_of : ℕ → List Booked → ℕ
reads_of role bs = length (filter (λ (b : Booked). eqb b.role role) bs)

-- some read is indeterminate
abbrev pub any_indeterminate : List Booked → Bool
any_indeterminate bs = not (every (λ (b : Booked). not (eqb b.state 2)) bs)

-- ---- reads on a target, by its supplied place; `ranked` holds the supplied place of each rank

-- how many of some groups are on it
abbrev pub groups_on : List ℕ → ℕ → List Place → ℕ
groups_on ranked target gs = length (filter (eqb target) (targets_of ranked gs))

-- the groups of all reads
abbrev pub all_groups : List Booked → List Place
all_groups [] = []
all_groups (b ∷ bs) = b.groups ++ all_groups bs

-- at least one group of a read is on it
abbrev pub lies_on : List ℕ → ℕ → Booked → Bool
lies_on ranked target b = ltb 0 (groups_on ranked target b.groups)

-- the groups that are on it
abbrev pub placements_on : List ℕ → ℕ → List Booked → ℕ
placements_on ranked target bs = groups_on ranked target (all_groups bs)

-- the reads whose one group is on it
abbrev pub singles_on : List ℕ → ℕ → List Booked → ℕ
singles_on ranked target bs = length (filter (λ (b : Booked). eqb (length b.groups) 1 && lies_on ranked target b) bs)

-- the reads with several groups, of which at least one is on it
abbrev pub multi_on : List ℕ → ℕ → List Booked → ℕ
multi_on ranked target bs = length (filter (λ (b : Booked). ltb 1 (length b.groups) && lies_on ranked target b) bs)

-- ---- the books

-- a read that can be booked: one of three roles, one of six states, and groups on ranked targets
pub record Bookable (ranks : ℕ) (b : Booked) : Type 0 where
  pub role : b.role < 3
  pub state : b.state < 6
  pub ranked : (p : Place) → p ∈ b.groups → p.rank < ranks

-- different places of n targets, by rank
pub record Ranked (n : ℕ) (ranked : List ℕ) : Type 0 where
  pub distinct : Distinct ranked
  pub inside : (t : ℕ) → t ∈ ranked → t < n

-- the books of n targets count the reads: by role and state; by role; on each target its placements, singles and multi, none on a target
-- without a rank; the totals are sums over the targets; and whether a read was indeterminate
pub record Counts (n : ℕ) (ranked : List ℕ) (bs : List Booked) (books : Books) : Type 0 where
  pub states : (role state : ℕ) → role < 3 → state < 6 → count_of books.ledger.table role state ≡ reads_in_state role state bs
  pub reads : (role : ℕ) → role < 3 → get_or books.ledger.reads role 0 ≡ reads_of role bs
  pub placements : (t : ℕ) → t < n → get_or books.counters.placements t 0 ≡ placements_on ranked t bs
  pub singles : (t : ℕ) → t < n → get_or books.counters.singles t 0 ≡ singles_on ranked t bs
  pub multi : (t : ℕ) → t < n → get_or books.counters.multi t 0 ≡ multi_on ranked t bs
  pub unranked : (t : ℕ) → (t ∈ ranked → ⊥) → (get_or books.counters.placements t 0 ≡ 0) × (get_or books.counters.singles t 0 ≡ 0) × (get_or books.counters.multi t 0 ≡ 0)
  pub total_placements : books.ledger.placements ≡ sum books.counters.placements
  pub total_singles : books.ledger.singles ≡ sum books.counters.singles
  pub total_multi : books.ledger.multi ≡ sum books.counters.multi
  pub indeterminate : books.ledger.indeterminate ≡ any_indeterminate bs
