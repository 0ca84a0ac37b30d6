-- Two searches held against each other.
use Rattle.std.specs.Prelude.{◌≡◌, List, map, ℕ, ◌*◌, ◌≤◌, take}
use Rattle.lists.specs.Sort.{sort}
use Rattle.map_places.specs.Place.{Place, before, swapped}
use Rattle.map_every_start.specs.Entries.{entries_of}
use Rattle.map_answers.specs.Answer.{Row, listed}

-- what the search by index answers and leaves in its entries, and the same of the search at every start: the same state,
-- number of groups and listed groups, and no more comparisons
pub record SearchesAgree (a b : Row) (entries entries' : List ℕ) : Type 0 where
  pub state : a.state ≡ b.state
  pub groups : a.groups ≡ b.groups
  pub rows : take (4 * a.groups) entries ≡ take (4 * b.groups) entries'
  pub fewer : a.work.comparisons ≤ b.work.comparisons

-- groups on the other strands, put back in order
abbrev pub turned_groups : List Place → List Place
turned_groups gs = sort before (map swapped gs)

-- what a search answers for a read of n bases with its groups, and for the read turned round, with what is left in the entries then: the same state and
-- number of groups, and the listed groups with their strands exchanged
pub record TurnedAnswer (ranked : List ℕ) (n limit : ℕ) (gs : List Place) (a b : Row) (entries' : List ℕ) : Type 0 where
  pub state : a.state ≡ b.state
  pub groups : a.groups ≡ b.groups
  pub rows : take (4 * b.groups) entries' ≡ entries_of ranked n (turned_groups (listed limit gs))
