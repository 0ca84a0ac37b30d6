-- The worked examples of the rules, as one table (REFERENCE.md, "Worked examples").
use Rattle.std.specs.Prelude.{◌≡◌, List, [], ◌∷◌, ℕ}
use Rattle.bases.specs.Base.{A, C, G, T}
use Rattle.bases.specs.Read.{given}
use Rattle.bases.specs.Eligibility.{Verdict, ineligible, eligibility}
use Rattle.bases.specs.Eligibility as judged
use Rattle.promises.specs.Refusal.{accepted}
use Rattle.catalogue.specs.Catalogue.{Catalogue}
use Rattle.index_columns.specs.Posting.{Posting, posting}
use Rattle.index_seeds.specs.Seeds.{keys_of, ranks_of, positions_of}
use Rattle.index_model.specs.Index.{index, mapped_sequences}
use Rattle.map_places.specs.Place.{Place, place, groups}
use Rattle.map_by_index.specs.Work.{work_of}
use Rattle.map_answers.specs.Answer.{Row, row, listed}
use Rattle.map_by_index.specs.declared.work.MappingWork.{MappingWork}
use Rattle.indexed_mapper.specs.Map.{map_answer}

pub data Example : Type 0 where
  -- the postings of the target
  indexing : List Posting → Example
  -- a read under a limit: the groups that are listed, and its row
  mapping : List ℕ → ℕ → List Place → Row → Example
  -- a quality floor, and the verdict on bases with qualities
  judging : ℕ → List ℕ → List ℕ → Verdict → Example

-- the target ACGTACGT with the identifier "t"
abbrev pub board : Catalogue
board = record { identifiers = 116 ∷ []; identifier_ends = 1 ∷ []; bases = A ∷ C ∷ G ∷ T ∷ A ∷ C ∷ G ∷ T ∷ []; base_ends = 8 ∷ []; marks = 0 ∷ [] }

-- with seeds of 3 bases, its own index and ten entries; qualities count from 33
abbrev pub Holds : Example → Type 0
Holds (indexing ps) = index 3 board ≡ ps
Holds (mapping read limit gs r) =
    (listed limit (groups (mapped_sequences board) read) ≡ gs) × (map_answer 3 board (keys_of (index 3 board)) (ranks_of (index 3 board)) (positions_of (index 3 board)) read limit 10 ≡ accepted r)
Holds (judging floor bases qualities v) = eligibility floor 33 (record { bases = bases; qualities = given qualities }) ≡ v

abbrev pub AllHold : List Example → Type 0
AllHold [] = Unit {0}
AllHold (x ∷ xs) = Holds x × AllHold xs

-- lookups, hits, examined, comparisons, seen
abbrev pub counts : ℕ → ℕ → ℕ → ℕ → ℕ → MappingWork
counts l h e c s = work_of l h e (record { comparisons = c; seen = s })

abbrev pub examples : List Example
examples =
    indexing (posting 6 0 0 ∷ posting 6 0 4 ∷ posting 27 0 1 ∷ posting 27 0 5 ∷ posting 44 0 2 ∷ posting 49 0 3 ∷ [])
    ∷ mapping (A ∷ C ∷ G ∷ []) 10 (place 0 0 0 ∷ place 0 1 1 ∷ place 0 4 0 ∷ place 0 5 1 ∷ []) (row 5 4 (counts 2 4 4 4 4))
    ∷ mapping (A ∷ C ∷ G ∷ []) 4 (place 0 0 0 ∷ place 0 1 1 ∷ place 0 4 0 ∷ place 0 5 1 ∷ []) (row 5 4 (counts 2 4 4 4 4))
    ∷ mapping (A ∷ C ∷ G ∷ []) 3 [] (row 2 0 (counts 2 4 4 4 4))
    ∷ mapping (A ∷ C ∷ G ∷ []) 1 [] (row 2 0 (counts 2 4 3 2 2))
    ∷ mapping (A ∷ C ∷ G ∷ T ∷ []) 10 (place 0 0 0 ∷ place 0 0 1 ∷ place 0 4 0 ∷ place 0 4 1 ∷ []) (row 5 4 (counts 4 4 4 4 4))
    ∷ mapping (G ∷ T ∷ A ∷ C ∷ []) 10 (place 0 2 0 ∷ place 0 2 1 ∷ []) (row 5 2 (counts 4 2 2 2 2))
    ∷ mapping (A ∷ C ∷ []) 10 (place 0 0 0 ∷ place 0 2 1 ∷ place 0 4 0 ∷ place 0 6 1 ∷ []) (row 5 4 (counts 0 0 0 14 4))
    ∷ mapping (A ∷ A ∷ A ∷ []) 10 [] (row 3 0 (counts 2 0 0 0 0))
    ∷ mapping (C ∷ G ∷ T ∷ A ∷ C ∷ G ∷ T ∷ A ∷ []) 10 [] (row 3 0 (counts 12 2 2 0 0))
    ∷ judging 20 (A ∷ []) (52 ∷ []) ineligible
    ∷ judging 20 (A ∷ C ∷ []) (52 ∷ 127 ∷ []) ineligible
    ∷ judging 20 (A ∷ C ∷ []) (127 ∷ 52 ∷ []) (judged.refused 16)
    ∷ []
