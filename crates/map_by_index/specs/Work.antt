-- The work of a search (REFERENCE.md, "Mapping").
use Rattle.std.specs.Prelude.{Bool, cond, List, ℕ, ◌+◌, ◌-◌, length, take, eqb, ltb}
use Rattle.lists.specs.Filter.{filter}
use Rattle.lists.specs.Limit.{stopped}
use Rattle.map_places.specs.Place.{Place, places, matches}
use Rattle.map_candidates.specs.Search.{lies, seed_hits, seed_count, lookups_on, chosen, every_start, compared}
use Rattle.map_every_start.specs.declared.visit.Tally.{Tally}
use Rattle.map_by_index.specs.declared.work.MappingWork.{MappingWork}

-- what comparing a list of places counts: the full comparisons, and the matches seen
abbrev pub tallied : (Place → Bool) → List Place → Tally
tallied test xs = record { comparisons = length xs; seen = length (filter test xs) }

-- lookups, postings of the chosen seeds, postings examined, and what comparing counts
abbrev pub work_of : ℕ → ℕ → ℕ → Tally → MappingWork
work_of lookups hits examined t = record { lookups = lookups; hits = hits; examined = examined; comparisons = t.comparisons; seen = t.seen }

-- ---- the search by index

abbrev pub on_strand : ℕ → Place → Bool
on_strand strand p = eqb p.strand strand

module _ (q : ℕ) (ss : List (List ℕ)) (read : List ℕ) where
  -- the compared places after which a side moves on: all, but for the one at which the limit stops the search
  abbrev pub passed : ℕ → List Place
  passed limit =
      cond (ltb limit (length (filter (matches ss read) (compared q ss read limit)))) (take (length (compared q ss read limit) - 1) (compared q ss read limit)) (compared q ss read limit)

  -- the postings that a side examines: up to and with its candidate behind those that it moved on from
  abbrev pub examined_on : ℕ → ℕ → ℕ
  examined_on limit strand =
      length (stopped (lies ss (length read) (chosen q ss read strand)) (seed_hits q ss read strand (chosen q ss read strand)) (length (filter (on_strand strand) (passed limit))))

  -- a read that is compared at every start is not looked up
  abbrev pub if_looked_up : ℕ → ℕ
  if_looked_up n = cond (every_start q read) 0 n

  unfoldable pub work : ℕ → MappingWork
  work limit =
      work_of
      (if_looked_up (lookups_on q ss read 0 + lookups_on q ss read 1))
      (if_looked_up (seed_count q ss read 0 (chosen q ss read 0) + seed_count q ss read 1 (chosen q ss read 1)))
      (if_looked_up (examined_on limit 0 + examined_on limit 1))
      (tallied (matches ss read) (compared q ss read limit))

-- ---- the search at every start

unfoldable pub scan_work : List (List ℕ) → List ℕ → ℕ → MappingWork
scan_work ss read limit = work_of 0 0 0 (tallied (matches ss read) (stopped (matches ss read) (places (length read) ss) limit))

-- ---- both ways

-- how a read is searched: by the index of seeds of q bases, or at every start
pub data Way : Type 0 where
  by_index : ℕ → Way
  plain : Way

abbrev pub work_by : Way → List (List ℕ) → List ℕ → ℕ → MappingWork
work_by (by_index q) ss read limit = work q ss read limit
work_by plain ss read limit = scan_work ss read limit
