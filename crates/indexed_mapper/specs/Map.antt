-- What `map` answers, and what it leaves in the entries (REFERENCE.md, "Mapping").
use Rattle.std.specs.Prelude.{Bool, List, ℕ, length, Result}
use Rattle.promises.specs.declared.refusal.Refusal.{Refusal}
use Rattle.promises.specs.Refusal.{unless, ◌or_else◌, Outcome}
use Rattle.catalogue.specs.Catalogue.{Catalogue, proper_sequence, supplied_places}
use Rattle.index_model.specs.Index.{mapped_sequences, index_of, columns_of, index_refusal}
use Rattle.map_places.specs.Place.{groups}
use Rattle.map_every_start.specs.Entries.{entry_count}
use Rattle.map_answers.specs.Bounds.{length_right, limit_right}
use Rattle.map_by_index.specs.Work.{work}
use Rattle.map_answers.specs.Answer.{Row, room_refusal, read_answer, read_entries, Leaves, Answered}
use Rattle.map_answers.specs.declared.answer.Mapping.{Mapping}

-- ---- refusals

-- 8 where this fails: not empty, and all capitals of ACGT
abbrev pub bases_right : List ℕ → Bool
bases_right read = proper_sequence read

-- 7, 8, 9: the read and the limit
unfoldable pub read_refusal : List ℕ → ℕ → ℕ
read_refusal read limit = unless (length_right read) 7 or_else unless (bases_right read) 8 or_else unless (limit_right limit) 9

-- 7 to 10: the search of sequences by rank whose index is right
abbrev pub ranked_refusal : List (List ℕ) → List ℕ → ℕ → ℕ → ℕ
ranked_refusal ss read limit entries = read_refusal read limit or_else room_refusal entries limit (length (groups ss read))

-- 1 to 4 and 6 to 10, the first whose condition holds
unfoldable pub map_refusal : ℕ → Catalogue → List ℕ → List ℕ → List ℕ → List ℕ → ℕ → ℕ → ℕ
map_refusal q c ks rs os read limit entries = index_refusal q c ks rs os or_else ranked_refusal (mapped_sequences c) read limit entries

-- ---- map

-- what `map` answers
abbrev pub map_answer : ℕ → Catalogue → List ℕ → List ℕ → List ℕ → List ℕ → ℕ → ℕ → Outcome Row
map_answer q c ks rs os read limit entries =
    read_answer (map_refusal q c ks rs os read limit entries) limit (groups (mapped_sequences c) read) (work q (mapped_sequences c) read limit)

-- what `map` leaves in the entries
abbrev pub map_entries : ℕ → Catalogue → List ℕ → List ℕ → List ℕ → List ℕ → ℕ → List ℕ → List ℕ
map_entries q c ks rs os read limit buffer =
    read_entries (map_refusal q c ks rs os read limit (entry_count buffer)) (supplied_places c) (length read) limit (groups (mapped_sequences c) read) buffer

abbrev pub MapsTo : ℕ → Catalogue → List ℕ → List ℕ → List ℕ → List ℕ → ℕ → Result Mapping Refusal → List ℕ → List ℕ → Type 0
MapsTo q c ks rs os read limit r buffer buffer' = Leaves (map_answer q c ks rs os read limit (entry_count buffer)) (map_entries q c ks rs os read limit buffer) r buffer'

-- ---- the same for ranked sequences, which need no test

-- with the refusal of the call
abbrev pub RankedAnswered : ℕ → ℕ → List (List ℕ) → List ℕ → List ℕ → ℕ → Result Mapping Refusal → List ℕ → List ℕ → Type 0
RankedAnswered refusal q ss ranked read limit r buffer buffer' = Answered refusal ranked (length read) limit (groups ss read) (work q ss read limit) r buffer buffer'

-- the index is right: 7 to 10, or the answer
abbrev pub ReadMapped : ℕ → List (List ℕ) → List ℕ → List ℕ → ℕ → Result Mapping Refusal → List ℕ → List ℕ → Type 0
ReadMapped q ss ranked read limit r buffer buffer' = RankedAnswered (ranked_refusal ss read limit (entry_count buffer)) q ss ranked read limit r buffer buffer'

-- the index is tested: 6 to 10, or the answer
abbrev pub IndexMapped : ℕ → List (List ℕ) → List ℕ → List ℕ → List ℕ → List ℕ → List ℕ → ℕ → Result Mapping Refusal → List ℕ → List ℕ → Type 0
IndexMapped q ss ranked ks rs os read limit r buffer buffer' =
    RankedAnswered (unless (columns_of (index_of q ss) ks rs os) 6 or_else ranked_refusal ss read limit (entry_count buffer)) q ss ranked read limit r buffer buffer'
