-- Reads mapped one after the other, each into its share of the entries (REFERENCE.md, "Many reads").
use Rattle.std.specs.Prelude.{◌≡◌, List, [], ℕ, ◌*◌, ◌<◌, length, get_or, drop, Result}
use Rattle.promises.specs.declared.refusal.Refusal.{Refusal}
use Rattle.lists.specs.Cut.{window, cut}
use Rattle.promises.specs.Refusal.{Outcome}
use Rattle.buffers.specs.Placed.{placed}
use Rattle.map_places.specs.Place.{groups}
use Rattle.map_every_start.specs.Entries.{entry_count}
use Rattle.map_by_index.specs.Work.{work}
use Rattle.map_answers.specs.Answer.{Row, answer_of, read_answer, read_entries}
use Rattle.indexed_mapper.specs.Map.{ranked_refusal}
use Rattle.batch_rows.specs.Rows.{row_numbers}
use Rattle.map_answers.specs.declared.answer.Mapping.{Mapping}

-- each read has its row and its share of the entries, and nothing behind the shares is touched
pub record ReadsMapped (answer : List ℕ → Outcome Row) (after : List ℕ → List ℕ → List ℕ) (reads : List (List ℕ)) (width : ℕ) (rows' entries entries' : List ℕ) : Type 0 where
  pub row : (i : ℕ) → i < length reads → window rows' (8 * i) 8 ≡ row_numbers (answer (get_or reads i []))
  pub share : (i : ℕ) → i < length reads → window entries' (width * i) width ≡ after (get_or reads i []) (window entries (width * i) width)
  pub rest : drop (width * length reads) entries' ≡ drop (width * length reads) entries

-- ---- for ranked sequences that need no test

-- what a read is answered with a number of entries
abbrev pub ranked_answer : ℕ → List (List ℕ) → List ℕ → ℕ → ℕ → Outcome Row
ranked_answer q ss read limit entries = read_answer (ranked_refusal ss read limit entries) limit (groups ss read) (work q ss read limit)

-- what is left in the entries
abbrev pub ranked_entries : List (List ℕ) → List ℕ → List ℕ → ℕ → List ℕ → List ℕ
ranked_entries ss ranked read limit buffer = read_entries (ranked_refusal ss read limit (entry_count buffer)) ranked (length read) limit (groups ss read) buffer

-- one read was mapped into `width` numbers from a place on
pub record ShareMapped (q : ℕ) (ss : List (List ℕ)) (ranked read : List ℕ) (limit from width : ℕ) (r : Result Mapping Refusal) (entries entries' : List ℕ) : Type 0 where
  pub answer : answer_of r ≡ ranked_answer q ss read limit (entry_count (window entries from width))
  pub share : entries' ≡ placed from (ranked_entries ss ranked read limit (window entries from width)) entries

-- all reads were, each into its share
abbrev pub RankedMapped : ℕ → List (List ℕ) → List ℕ → ℕ → List ℕ → List ℕ → ℕ → List ℕ → List ℕ → List ℕ → Type 0
RankedMapped q ss ranked limit bytes ends share rows' entries entries' =
    ReadsMapped (λ read. ranked_answer q ss read limit share) (λ read part. ranked_entries ss ranked read limit part) (cut ends bytes) (4 * share) rows' entries entries'
