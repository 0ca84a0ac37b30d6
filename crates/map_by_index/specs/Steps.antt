-- What the steps of a search by index are lent, and what they leave behind.
use Rattle.std.specs.Prelude.{◌≡◌, List, ℕ, ◌+◌, ◌-◌, ◌≤◌, length, take}
use Rattle.buffers.specs.Placed.{placed}
use Rattle.index_seeds.specs.Key.{SeedLength}
use Rattle.index_model.specs.Index.{ranked_sequences, Lent, Indexed}
use Rattle.map_places.specs.Place.{groups, max_read}
use Rattle.map_rarest_seed.specs.declared.SeedChoice.{SeedChoice}
use Rattle.map_candidates.specs.declared.cursor.OrientationCursor.{OrientationCursor}
use Rattle.map_candidates.specs.declared.cursor.Candidate.{Candidate}
use Rattle.map_candidates.specs.declared.sides.Sides.{Sides}
use Rattle.map_every_start.specs.declared.visit.Tally.{Tally}
use Rattle.map_every_start.specs.Entries.{entries_of}
use Rattle.map_every_start.specs.Searched.{max_count, Searchable}
use Rattle.map_by_index.specs.Work.{Way, work_by, work_of}
use Rattle.map_by_index.specs.declared.work.MappingWork.{MappingWork}

-- the entries of the groups up to a bound were written, with the work of a search in either way
pub record Found (way : Way) (ss : List (List ℕ)) (ranked read : List ℕ) (bound : ℕ) (w : MappingWork) (buffer buffer' : List ℕ) : Type 0 where
  pub work_is : w ≡ work_by way ss read bound
  pub content : buffer' ≡ placed 0 (entries_of ranked (length read) (take bound (groups ss read))) buffer

-- the work of two chosen seeds, of two cursors and of the comparisons
abbrev pub index_work : SeedChoice → SeedChoice → Sides → Tally → MappingWork
index_work plus minus sides tally =
    work_of (plus.lookups + minus.lookups) ((plus.end - plus.start) + (minus.end - minus.start)) ((sides.plus.cursor.next - plus.start) + (sides.minus.cursor.next - minus.start)) tally

-- a cursor at the front of the postings of a chosen seed
pub record Front (strand : ℕ) (choice : SeedChoice) (c : OrientationCursor) : Type 0 where
  pub strand_is : c.strand ≡ strand
  pub offset-is : c.offset ≡ choice.offset
  pub next_is : c.next ≡ choice.start
  pub end_is : c.end ≡ choice.end

-- a cursor within the postings of its seed, and counts that can be added
pub record Spans (choice : SeedChoice) (side : Candidate) : Type 0 where
  pub from : choice.start ≤ side.cursor.next
  pub upto : side.cursor.next ≤ choice.end
  pub most : choice.end ≤ max_count
  pub lookups : choice.lookups ≤ max_read + 1

-- what mapping reads is lent: sequences, and columns that are their index
pub record Mappable (q : ℕ) (bases ends ranked ks rs os : List ℕ) : Type 0 where
  pub lent : Lent bases ends ranked
  pub seed : SeedLength q
  pub indexed : Indexed q (ranked_sequences bases ends ranked) ks rs os

-- what a search by the index is lent: a search at every start could be made, and the columns are the index of the sequences
pub record IndexSearchable (q : ℕ) (bases ends ranked ks rs os read : List ℕ) : Type 0 where
  pub searchable : Searchable bases ends ranked read
  pub seed : SeedLength q
  pub indexed : Indexed q (ranked_sequences bases ends ranked) ks rs os
