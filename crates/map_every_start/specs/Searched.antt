-- A search of a list of places under a bound on its matches (REFERENCE.md, "Mapping").
use Rattle.std.specs.Prelude.{◌≡◌, true, List, [], ◌∷◌, ℕ, ◌+◌, ◌-◌, ◌*◌, ◌≤◌, length, get_or, take}
use Rattle.lists.specs.Filter.{filter}
use Rattle.lists.specs.Limit.{stopped}
use Rattle.buffers.specs.Placed.{placed}
use Rattle.index_seeds.specs.Window.{starts}
use Rattle.index_model.specs.Index.{ranked_sequences, Lent}
use Rattle.bases.specs.Read.{letters}
use Rattle.map_places.specs.Place.{Place, place, places_in, places, Fits, max_read, matches}
use Rattle.map_every_start.specs.Entries.{entries_of}
use Rattle.map_every_start.specs.declared.visit.Tally.{Tally}

-- what a search is lent: sequences, and a read of letters in either case within its bound
pub record Searchable (bases ends ranked read : List ℕ) : Type 0 where
  pub lent : Lent bases ends ranked
  pub letters : letters read ≡ true
  pub short : length read ≤ max_read

-- no count of a search passes this, so that two of them can be added in 64 bits
abbrev pub max_count : ℕ
max_count = 1152921504606846976

-- a search under way: its matches are within the bound, the entries have room for as many as the bound, and at least
-- `more` places can still be counted
pub record Going (bound more comparisons seen : ℕ) (buffer : List ℕ) : Type 0 where
  pub within : seen ≤ bound
  pub room : 4 * bound ≤ length buffer
  pub countable : comparisons + more ≤ max_count

-- the places of a list that are compared where `seen` matches were found before
abbrev pub looked : List (List ℕ) → List ℕ → ℕ → List Place → ℕ → List Place
looked ss read bound xs seen = stopped (matches ss read) xs (bound - seen)

-- a list was searched: the places compared and the matches among them are counted, and the matches up to the bound have
-- entries behind those of the matches before
pub record Searched (ss : List (List ℕ)) (ranked read : List ℕ) (bound : ℕ) (xs : List Place) (comparisons seen : ℕ) (buffer : List ℕ) (comparisons' seen' : ℕ) (buffer' : List ℕ) : Type 0 where
  pub comparisons_are : comparisons' ≡ comparisons + length (looked ss read bound xs seen)
  pub seen_are : seen' ≡ seen + length (filter (matches ss read) (looked ss read bound xs seen))
  pub content : buffer' ≡ placed (4 * seen) (entries_of ranked (length read) (take (bound - seen) (filter (matches ss read) (looked ss read bound xs seen)))) buffer

-- ---- what is searched, from one tally to the next

-- a place of a read in lent sequences
abbrev pub FitsAt : List ℕ → List ℕ → List ℕ → List ℕ → ℕ → ℕ → ℕ → Type 0
FitsAt bases ends ranked read rank start strand = Fits (length read) (ranked_sequences bases ends ranked) (place rank start strand)

abbrev pub SearchedTo : List (List ℕ) → List ℕ → List ℕ → ℕ → List Place → Tally → List ℕ → Tally → List ℕ → Type 0
SearchedTo ss ranked read bound xs t buffer t' buffer' = Searched ss ranked read bound xs t.comparisons t.seen buffer t'.comparisons t'.seen buffer'

-- one place
abbrev pub PlaceSearched : List (List ℕ) → List ℕ → List ℕ → ℕ → ℕ → ℕ → ℕ → Tally → List ℕ → Tally → List ℕ → Type 0
PlaceSearched ss ranked read bound rank start strand t buffer t' buffer' = SearchedTo ss ranked read bound (place rank start strand ∷ []) t buffer t' buffer'

-- both strands at a start
abbrev pub StartSearched : List (List ℕ) → List ℕ → List ℕ → ℕ → ℕ → ℕ → Tally → List ℕ → Tally → List ℕ → Type 0
StartSearched ss ranked read bound rank start t buffer t' buffer' = SearchedTo ss ranked read bound (place rank start 0 ∷ place rank start 1 ∷ []) t buffer t' buffer'

-- every fitting place in the sequence of a rank
abbrev pub SequenceSearched : List (List ℕ) → List ℕ → List ℕ → ℕ → ℕ → Tally → List ℕ → Tally → List ℕ → Type 0
SequenceSearched ss ranked read bound rank t buffer t' buffer' =
    SearchedTo ss ranked read bound (places_in rank 0 (starts (length read) (get_or ss rank []))) t buffer t' buffer'

-- every place, from nothing
abbrev pub AllSearched : List (List ℕ) → List ℕ → List ℕ → ℕ → List ℕ → Tally → List ℕ → Type 0
AllSearched ss ranked read bound buffer t' buffer' = Searched ss ranked read bound (places (length read) ss) 0 0 buffer t'.comparisons t'.seen buffer'

-- both strands at every start of one sequence
abbrev pub max_places : ℕ
max_places = 33554434
