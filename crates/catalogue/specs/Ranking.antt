-- What ranking a catalogue answers and leaves in its buffer.
use Rattle.std.specs.Prelude.{◌≡◌, Bool, cond, List, ℕ, ◌+◌, length, get_or, take, set, eqb, Result, Ok, Err}
use Rattle.promises.specs.declared.refusal.Refusal.{Refusal}
use Rattle.lists.specs.Filter.{filter}
use Rattle.lists.specs.Sort.{sort}
use Rattle.promises.specs.Refusal.{unless, Outcome, refused, accepted, outcome, refusal_number}
use Rattle.identifiers.specs.Name.{distinct_names, place_before}
use Rattle.lists.specs.Numbers.{numbers}
use Rattle.identifier_sort.specs.Ordered.{NamesLent}
use Rattle.catalogue.specs.Catalogue.{Catalogue, catalogue_refusal, mapped, supplied_places}

-- the outcome that an answer stands for
abbrev pub ranking_outcome : Result ℕ Refusal → Outcome ℕ
ranking_outcome (Err n) = refused (refusal_number n)
ranking_outcome (Ok k) = accepted k

-- ---- linear places

-- the mark at a place says linear
abbrev pub linear_at : List ℕ → ℕ → Bool
linear_at marks p = eqb (get_or marks p 0) 0

-- a linear place is put behind those kept and counted; any other changes nothing
pub record PlaceKept (linear : Bool) (kept place : ℕ) (order : List ℕ) (r : ℕ) (buffer : List ℕ) : Type 0 where
  pub count : r ≡ cond linear (kept + 1) kept
  pub places : buffer ≡ cond linear (set order kept place) order

-- the first r numbers of a buffer are the linear places of an order, in that order
pub record Kept (marks order : List ℕ) (r : ℕ) (buffer : List ℕ) : Type 0 where
  pub count : r ≡ length (filter (linear_at marks) order)
  pub places : take r buffer ≡ filter (linear_at marks) order

-- ---- names ranked

-- names with a mark and a number of the buffer for each
pub record MarkedNames (identifiers ends marks order : List ℕ) : Type 0 where
  pub lent : NamesLent identifiers ends order
  pub marked : length marks ≡ length ends

-- the linear places in the order of their names
abbrev pub linear_places : List (List ℕ) → List ℕ → List ℕ
linear_places names marks = filter (linear_at marks) (sort (place_before names) (numbers 0 (length names)))

-- 4 where two names are equal; else the number of linear places, which are first in the buffer, in the order of their names
pub record NamesRanked (names : List (List ℕ)) (marks : List ℕ) (r : Result ℕ Refusal) (buffer : List ℕ) : Type 0 where
  pub answer : ranking_outcome r ≡ outcome (unless (distinct_names names) 4) (length (linear_places names marks))
  pub ranks : (k : ℕ) → r ≡ Ok k → take k buffer ≡ linear_places names marks

-- ---- a catalogue ranked

-- where a catalogue is ranked, the first numbers of the buffer are the supplied places of its mapped targets, by rank;
-- on a refusal the buffer is free, since it is the caller's scratch and nobody reads it then
abbrev pub RanksIn : Catalogue → Result ℕ Refusal → List ℕ → Type 0
RanksIn c r buffer = (k : ℕ) → r ≡ Ok k → take k buffer ≡ supplied_places c

-- the catalogue's refusal, or the number of its mapped targets
pub record RankedAs (c : Catalogue) (r : Result ℕ Refusal) (buffer : List ℕ) : Type 0 where
  pub answer : ranking_outcome r ≡ outcome (catalogue_refusal c) (length (mapped c))
  pub ranks : RanksIn c r buffer
