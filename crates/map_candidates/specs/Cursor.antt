-- A cursor over postings, moved on (REFERENCE.md, "Mapping").
use Rattle.std.specs.Prelude.{◌≡◌, Bool, true, false, not, ◌&&◌, ◌||◌, List, ℕ, ◌-◌, ◌≤◌, ◌<◌, length, get_or}
use Rattle.index_columns.specs.Posting.{Posting, posting}
use Rattle.map_places.specs.Place.{place, before}
use Rattle.map_candidates.specs.Search.{lies}
use Rattle.map_candidates.specs.declared.cursor.OrientationCursor.{OrientationCursor}
use Rattle.map_candidates.specs.declared.cursor.Candidate.{Candidate}
use Rattle.map_candidates.specs.declared.sides.Sides.{Sides}

-- the posting at a place of two columns, whatever its key
abbrev pub posting_at : List ℕ → List ℕ → ℕ → Posting
posting_at rs os i = posting 0 (get_or rs i 0) (get_or os i 0)

-- the places up to end are in both columns, and their ranks are below n
pub record CursorIn (rs os : List ℕ) (n next end : ℕ) : Type 0 where
  pub ordered : next ≤ end
  pub in_ranks : end ≤ length rs
  pub in_positions : end ≤ length os
  pub ranked : (i : ℕ) → i < end → get_or rs i 0 < n

-- from `next` on, `last` is the first place before `end` whose posting passes
pub record FirstAt (passes : Posting → Bool) (rs os : List ℕ) (next end last : ℕ) : Type 0 where
  pub from : next ≤ last
  pub inside : last < end
  pub skipped : (i : ℕ) → next ≤ i → i < last → passes (posting_at rs os i) ≡ false
  pub here : passes (posting_at rs os last) ≡ true

-- no posting from `next` up to `end` passes
abbrev pub NoneFrom : (Posting → Bool) → List ℕ → List ℕ → ℕ → ℕ → Type 0
NoneFrom passes rs os next end = (i : ℕ) → next ≤ i → i < end → passes (posting_at rs os i) ≡ false

-- a cursor with a seed at offset o moved on to `next'`: behind the first posting that passes, or to the end with rank and
-- start 0
pub record Moved (passes : Posting → Bool) (rs os : List ℕ) (o next end next' : ℕ) (found : Bool) (rank start : ℕ) : Type 0 where
  pub found_first : found ≡ true → FirstAt passes rs os next end (next' - 1)
  pub found_rank : found ≡ true → rank ≡ get_or rs (next' - 1) 0
  pub found_start : found ≡ true → start ≡ get_or os (next' - 1) 0 - o
  pub found_behind : found ≡ true → next < next'
  pub none_left : found ≡ false → NoneFrom passes rs os next end
  pub none_end : found ≡ false → next' ≡ end
  pub none_rank : found ≡ false → rank ≡ 0
  pub none_start : found ≡ false → start ≡ 0

-- a cursor over postings of sequences moved on, for a read of n bases, and is handed back with its candidate
pub record Taken (ss : List (List ℕ)) (n : ℕ) (rs os : List ℕ) (c : OrientationCursor) (r : Candidate) : Type 0 where
  pub moved : Moved (lies ss n c.offset) rs os c.offset c.next c.end r.cursor.next r.found r.rank r.start
  pub strand_kept : r.cursor.strand ≡ c.strand
  pub offset-kept : r.cursor.offset ≡ c.offset
  pub end_kept : r.cursor.end ≡ c.end

-- ---- two cursors

-- the candidate of '+' waits, and none of '-' does or stands before it
abbrev pub plus_first : Sides → Bool
plus_first s = s.plus.found && (not s.minus.found || before (place s.plus.rank s.plus.start 0) (place s.minus.rank s.minus.start 1))

-- the postings of both are in the columns
pub record CursorsIn (rs os : List ℕ) (n : ℕ) (plus minus : OrientationCursor) : Type 0 where
  pub plus_in : CursorIn rs os n plus.next plus.end
  pub minus_in : CursorIn rs os n minus.next minus.end

-- both took their first candidate
pub record BothTaken (ss : List (List ℕ)) (n : ℕ) (rs os : List ℕ) (plus minus : OrientationCursor) (r : Sides) : Type 0 where
  pub plus_taken : Taken ss n rs os plus r.plus
  pub minus_taken : Taken ss n rs os minus r.minus

-- one side moved on, and the other one did not
pub record OneMoved (ss : List (List ℕ)) (n : ℕ) (rs os : List ℕ) (plus : Bool) (s r : Sides) : Type 0 where
  pub plus_taken : plus ≡ true → Taken ss n rs os s.plus.cursor r.plus
  pub minus_stays : plus ≡ true → r.minus ≡ s.minus
  pub minus_taken : plus ≡ false → Taken ss n rs os s.minus.cursor r.minus
  pub plus_stays : plus ≡ false → r.plus ≡ s.plus
