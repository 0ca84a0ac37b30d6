-- What an accepted answer lists, said of targets as they are supplied (REFERENCE.md, "Mapping").
use Rattle.std.specs.Prelude.{◌≡◌, Bool, true, cond, ◌↔◌, List, [], ◌∷◌, ◌++◌, ℕ, suc, ◌+◌, ◌<◌, ◌≤◌, length, eqb}
use Rattle.lists.specs.Member.{◌∈◌}
use Rattle.lists.specs.Order.{Ascending}
use Rattle.lists.specs.Triple.{Triple, lexicographic}
use Rattle.bases.specs.Read.{folded, oriented}
use Rattle.catalogue.specs.Catalogue.{Catalogue, Target, targets, is_mapped, supplied_places}
use Rattle.index_seeds.specs.Window.{window_of, FitsIn}
use Rattle.buffers.specs.Placed.{placed}
use Rattle.map_every_start.specs.Entries.{entry_of, cleared}
use Rattle.map_answers.specs.Answer.{Row, state_of}

-- the read matches at a start and on a strand of the linear target supplied at a place: it ends within the target, and the
-- target's bases from the start on are the read's, in upper case and as it lies on the strand
pub record Match (c : Catalogue) (read : List ℕ) (supplied start strand : ℕ) : Type 0 where
  pub target : Target
  pub in_catalogue : target ∈ targets c
  pub at_place : target.place ≡ supplied
  pub linear : is_mapped target ≡ true
  pub inside : FitsIn (length read) target.bases start
  pub stranded : strand < 2
  pub equal : window_of target.bases start (length read) ≡ oriented strand (folded read)

-- how many numbers stand before the first x
abbrev pub place_in : ℕ → List ℕ → ℕ
place_in x [] = 0
place_in x (y ∷ ys) = cond (eqb x y) 0 (suc (place_in x ys))

-- the rank of the target supplied at a place
abbrev pub rank_of : Catalogue → ℕ → ℕ
rank_of c supplied = place_in supplied (supplied_places c)

-- (supplied place, start, strand), by rank, start, strand
abbrev pub by_rank : Catalogue → Triple → Triple → Bool
by_rank c x y = lexicographic (rank_of c x.0, x.1, x.2) (rank_of c y.0, y.1, y.2)

-- the entries of matches of a read of n bases
abbrev pub match_entries : ℕ → List Triple → List ℕ
match_entries n [] = []
match_entries n (x ∷ xs) = entry_of x.0 x.1 (x.1 + n) x.2 ++ match_entries n xs

-- all matches of the read, each once, ascending by rank, start and strand
pub record Matches (c : Catalogue) (read : List ℕ) : Type 0 where
  pub list : List Triple
  pub exactly : (supplied start strand : ℕ) → ((supplied, start, strand) ∈ list) ↔ Match c read supplied start strand
  pub ascending : Ascending (by_rank c) list

-- an indeterminate answer: no match is listed, and the entries are zero
pub record Unlisted (answer : Row) (buffer buffer' : List ℕ) : Type 0 where
  pub state : answer.state ≡ 2
  pub groups : answer.groups ≡ 0
  pub entries : buffer' ≡ cleared buffer

-- a complete answer for a read of n bases: the state by the number of matches, and each match listed, in front of zeros
pub record Listed (n : ℕ) (matches : List Triple) (answer : Row) (buffer buffer' : List ℕ) : Type 0 where
  pub state : answer.state ≡ state_of (length matches)
  pub groups : answer.groups ≡ length matches
  pub entries : buffer' ≡ placed 0 (match_entries n matches) (cleared buffer)

-- an accepted answer, held against all matches of the read: indeterminate where there are more than the limit, else complete
pub record Lists (c : Catalogue) (read : List ℕ) (limit : ℕ) (answer : Row) (buffer buffer' : List ℕ) : Type 0 where
  pub all : Matches c read
  pub indeterminate : limit < length all.list → Unlisted answer buffer buffer'
  pub complete : length all.list ≤ limit → Listed (length read) all.list answer buffer buffer'
