-- What the call answers to which an index is lent as one slice of records (REFERENCE.md, "Mapping").
use Rattle.std.specs.Prelude.{◌≡◌, List, ◌++◌, ℕ, length, drop, Result}
use Rattle.promises.specs.declared.refusal.Refusal.{Refusal}
use Rattle.promises.specs.Refusal.{refused, if_passed}
use Rattle.catalogue.specs.Catalogue.{Catalogue}
use Rattle.map_every_start.specs.Entries.{entry_count}
use Rattle.map_answers.specs.Answer.{Leaves}
use Rattle.indexed_mapper.specs.Map.{map_answer, map_entries}
use Rattle.record_copy.specs.Records.{keys_in, ranks_in, positions_in}
use Rattle.record_copy.specs.declared.SeedPosting.{SeedPosting}
use Rattle.record_checks.specs.Room.{room, copy_refusal}
use Rattle.map_answers.specs.declared.answer.Mapping.{Mapping}

-- the answer and the entries by the refusal of a check: what `map` answers and leaves with these columns, or that refusal
-- and the entries as they were
abbrev pub MapsBy : ℕ → ℕ → Catalogue → List ℕ → List ℕ → List ℕ → List ℕ → ℕ → Result Mapping Refusal → List ℕ → List ℕ → Type 0
MapsBy refusal q c ks rs os read limit r es es' =
    Leaves (if_passed refusal (map_answer q c ks rs os read limit (entry_count es)) (refused refusal)) (if_passed refusal (map_entries q c ks rs os read limit es) es) r es'

-- a column after the call: a field of the records at the front, or as it was where the check refused
abbrev pub column_after : ℕ → List ℕ → List ℕ → List ℕ
column_after refusal fields column = if_passed refusal (fields ++ drop (length fields) column) column

-- what `map` answers and leaves with columns of the records' fields, and what the columns hold
pub record MapsFields (refusal q : ℕ) (c : Catalogue) (ps : List SeedPosting) (read : List ℕ) (limit : ℕ) (r : Result Mapping Refusal) (es ks rs os es' ks' rs' os' : List ℕ) : Type 0 where
  pub mapped : MapsBy refusal q c (keys_in ps) (ranks_in ps) (positions_in ps) read limit r es es'
  pub keys : ks' ≡ column_after refusal (keys_in ps) ks
  pub ranks : rs' ≡ column_after refusal (ranks_in ps) rs
  pub positions : os' ≡ column_after refusal (positions_in ps) os

-- the same by the refusal of this call's own check: 1 to 5
abbrev pub MapsRecords : ℕ → Catalogue → List SeedPosting → List ℕ → ℕ → Result Mapping Refusal → List ℕ → List ℕ → List ℕ → List ℕ → List ℕ → List ℕ → List ℕ → List ℕ → Type 0
MapsRecords q c ps read limit r es ks rs os es' ks' rs' os' = MapsFields (copy_refusal q c (length ps) (room ks rs os)) q c ps read limit r es ks rs os es' ks' rs' os'
