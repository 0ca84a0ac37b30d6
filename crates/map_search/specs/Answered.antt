-- What a search in either way answers and leaves in the entries: refused by 10, or the row of the read and its groups (REFERENCE.md, "Mapping").
use Rattle.std.specs.Prelude.{◌≡◌, List, ℕ, length, Result}
use Rattle.promises.specs.declared.refusal.Refusal.{Refusal}
use Rattle.lists.specs.Cut.{window}
use Rattle.promises.specs.Refusal.{Outcome}
use Rattle.buffers.specs.Placed.{placed}
use Rattle.map_places.specs.Place.{groups}
use Rattle.map_every_start.specs.Entries.{entry_count}
use Rattle.map_by_index.specs.Work.{Way, work_by}
use Rattle.map_answers.specs.Answer.{Row, answer_of, room_refusal, read_answer, read_entries, Leaves}
use Rattle.map_answers.specs.declared.answer.Mapping.{Mapping}

abbrev pub search_answer : Way → List (List ℕ) → List ℕ → ℕ → ℕ → Outcome Row
search_answer way ss read limit entries = read_answer (room_refusal entries limit (length (groups ss read))) limit (groups ss read) (work_by way ss read limit)

abbrev pub search_entries : List (List ℕ) → List ℕ → List ℕ → ℕ → List ℕ → List ℕ
search_entries ss ranked read limit buffer =
    read_entries (room_refusal (entry_count buffer) limit (length (groups ss read))) ranked (length read) limit (groups ss read) buffer

abbrev pub SearchAnswered : Way → List (List ℕ) → List ℕ → List ℕ → ℕ → Result Mapping Refusal → List ℕ → List ℕ → Type 0
SearchAnswered way ss ranked read limit r buffer buffer' = Leaves (search_answer way ss read limit (entry_count buffer)) (search_entries ss ranked read limit buffer) r buffer'

-- a search into the `width` numbers of a buffer from a place on; the others stay
pub record PartSearched (way : Way) (ss : List (List ℕ)) (ranked read : List ℕ) (limit from width : ℕ) (r : Result Mapping Refusal) (buffer buffer' : List ℕ) : Type 0 where
  pub answer : answer_of r ≡ search_answer way ss read limit (entry_count (window buffer from width))
  pub part : buffer' ≡ placed from (search_entries ss ranked read limit (window buffer from width)) buffer
