-- A cursor and its counts moved on in place (REFERENCE.md, "Mapping").
use Rattle.std.specs.Prelude.{◌≡◌, List, ℕ, ◌+◌, ◌-◌, min}
use Rattle.map_candidates.specs.Cursor.{Taken}
use Rattle.map_candidates.specs.declared.cursor.OrientationCursor.{OrientationCursor}
use Rattle.map_candidates.specs.declared.cursor.Candidate.{Candidate}
use Rattle.map_by_index.specs.declared.work.MappingWork.{MappingWork}
use Rattle.map_cursor.specs.declared.Step.{Step}

-- 2^64 - 1
abbrev pub largest : ℕ
largest = 18446744073709551615

-- a count with k more; where the sum would pass the largest count, that one
abbrev pub raised_by : ℕ → ℕ → ℕ
raised_by count k = min (count + k) largest

-- the work with k postings more examined, and every other count as it was
abbrev pub examined_more : MappingWork → ℕ → MappingWork
examined_more w k = record { lookups = w.lookups; hits = w.hits; examined = raised_by w.examined k; comparisons = w.comparisons; seen = w.seen }

-- what a candidate comes to for the cursor and the work that it was taken with
abbrev pub step_on : OrientationCursor → MappingWork → Candidate → Step
step_on c w r = record { cursor = r.cursor; work = examined_more w (r.cursor.next - c.next); candidate = r }

-- cursor c and work w moved on to c' and w': the candidate and the cursor are the by-value method's, and the postings that
-- the cursor went past are counted
pub record Advanced (ss : List (List ℕ)) (n : ℕ) (rs os : List ℕ) (c : OrientationCursor) (w : MappingWork) (r : Candidate) (c' : OrientationCursor) (w' : MappingWork) : Type 0 where
  pub taken : Taken ss n rs os c r
  pub cursor_is : c' ≡ r.cursor
  pub work_is : w' ≡ examined_more w (c'.next - c.next)
