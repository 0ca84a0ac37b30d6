-- Candidates that are passed over: they are known not to match, and so they are counted and not compared.
use Rattle.std.specs.Prelude.{◌≡◌, Bool, true, false, cond, ◌||◌, List, ◌⊎◌, ℕ, zero, suc, ◌<◌, length, get_or}
use Rattle.index_model.specs.Index.{ranked_sequences}
use Rattle.map_places.specs.Place.{Place, place, Fits, stands, matches}
use Rattle.map_candidates.specs.Search.{fits}
use Rattle.map_candidates.specs.Cursor.{CursorIn, CursorsIn, Taken, plus_first, OneMoved}
use Rattle.map_candidates.specs.declared.cursor.Candidate.{Candidate}
use Rattle.map_candidates.specs.declared.cursor.OrientationCursor.{OrientationCursor}
use Rattle.map_candidates.specs.declared.sides.Sides.{Sides}

-- the place of a candidate
abbrev pub place_of : Candidate → Place
place_of c = place c.rank c.start c.cursor.strand

-- the smaller candidate of two sides
abbrev pub first_of : Sides → Candidate
first_of s = cond (plus_first s) s.plus s.minus

-- so many steps, one after the other
abbrev pub Steps : {A : Type 0} → (A → A → Type 0) → ℕ → A → A → Type 0
Steps step zero a b = b ≡ a
Steps {A} step (suc k) a b = (m : A) × (Steps step k a m × step m b)

-- ---- two sides

module _ (ss : List (List ℕ)) (read rs os : List ℕ) where
  -- the smaller of two candidates does not match the read, and its side moves on
  pub record PassedOne (s s' : Sides) : Type 0 where
    pub waits : (s.plus.found || s.minus.found) ≡ true
    pub differs : matches ss read (place_of (first_of s)) ≡ false
    pub moved : OneMoved ss (length read) rs os (plus_first s) s s'

  -- so many were passed over
  abbrev pub PassedOver : ℕ → Sides → Sides → Type 0
  PassedOver k s s' = Steps PassedOne k s s'

  -- ---- one side

  -- a candidate of a sequence, before a limit, does not match the read, and its cursor moves on
  pub record SkippedOne (rank limit : ℕ) (c c' : Candidate) : Type 0 where
    pub waits : c.found ≡ true
    pub here : c.rank ≡ rank
    pub early : c.start < limit
    pub differs : matches ss read (place_of c) ≡ false
    pub taken : Taken ss (length read) rs os c.cursor c'

  abbrev pub Skipped : ℕ → ℕ → ℕ → Candidate → Candidate → Type 0
  Skipped rank limit k c c' = Steps (SkippedOne rank limit) k c c'

-- below a limit a start in the sequence of a rank comes before the candidate of the other side, if one waits there
abbrev pub Sooner : ℕ → ℕ → Candidate → Type 0
Sooner rank limit other = (start : ℕ) → start < limit → other.found ≡ true → (rank < other.rank) ⊎ ((rank ≡ other.rank) × (start < other.start))

-- the candidate at a start, before a limit, does not match the read in its sequence, and posting i has the next one there
pub record Followed (s read rs os : List ℕ) (c : OrientationCursor) (rank limit start i : ℕ) : Type 0 where
  pub inside : i < c.end
  pub early : start < limit
  pub ranked : get_or rs i 0 ≡ rank
  pub differs : stands s start read c.strand ≡ false
  pub room : fits s (length read) c.offset (get_or os i 0) ≡ true

-- this is said only where it holds; where it is not said, nothing is
abbrev pub SaidToBeFollowed : Bool → List ℕ → List ℕ → List ℕ → List ℕ → OrientationCursor → ℕ → ℕ → ℕ → ℕ → Type 0
SaidToBeFollowed r s read rs os c rank limit start i = r ≡ true → Followed s read rs os c rank limit start i

-- ---- what is lent

-- a candidate that waits within its sequence, and postings behind it
pub record CandidateLent (bases ends ranked rs os read : List ℕ) (c : Candidate) : Type 0 where
  pub waits : c.found ≡ true
  pub inside : Fits (length read) (ranked_sequences bases ends ranked) (place_of c)
  pub cursor_in : CursorIn rs os (length ranked) c.cursor.next c.cursor.end

-- a candidate within its sequence, and two sides, of which the smaller candidate, if one waits, is too
pub record SidesLent (bases ends ranked rs os read : List ℕ) (c : Candidate) (s : Sides) : Type 0 where
  pub inside : Fits (length read) (ranked_sequences bases ends ranked) (place_of c)
  pub first_inside : (s.plus.found || s.minus.found) ≡ true → Fits (length read) (ranked_sequences bases ends ranked) (place_of (first_of s))
  pub cursors_in : CursorsIn rs os (length ranked) s.plus.cursor s.minus.cursor
