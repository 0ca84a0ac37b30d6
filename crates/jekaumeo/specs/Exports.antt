-- What the exported calls return and write (REFERENCE.md, "Exports").
use Rattle.std.specs.Prelude.{◌≡◌, List, ℕ, length, leb}
use Rattle.promises.specs.Refusal.{IfRight, outcome}
use Rattle.catalogue.specs.Catalogue.{Catalogue}
use Rattle.buffers.specs.Placed.{placed}
use Rattle.index_seeds.specs.Seeds.{keys_of, ranks_of, positions_of}
use Rattle.index_model.specs.Index.{index, plan_refusal, build_refusal}
use Rattle.index_plan.specs.Answers.{planned}
use Rattle.index_calls.specs.Answers.{entries, left_in}
use Rattle.map_every_start.specs.Entries.{entry_count}
use Rattle.indexed_mapper.specs.Map.{map_refusal, map_answer, map_entries}
use Rattle.batch_rows.specs.Rows.{row_numbers}
use Rattle.c_replies.specs.Replies.{plan_numbers, build_numbers}

-- ---- 26, and everything as it was

-- the answer, where an index was to be planned
pub record PlanUntouched (answer : List ℕ) (r : ℕ) (answer' : List ℕ) : Type 0 where
  pub number : r ≡ 26
  pub numbers : answer' ≡ answer

-- the answer and the columns, where an index was to be built
pub record BuildUntouched (answer ks rs os : List ℕ) (r : ℕ) (answer' ks' rs' os' : List ℕ) : Type 0 where
  pub number : r ≡ 26
  pub numbers : answer' ≡ answer
  pub keys : ks' ≡ ks
  pub ranks : rs' ≡ rs
  pub positions : os' ≡ os

-- the answer and the entries, where a read was to be mapped
pub record MapUntouched (answer buffer : List ℕ) (r : ℕ) (answer' buffer' : List ℕ) : Type 0 where
  pub number : r ≡ 26
  pub numbers : answer' ≡ answer
  pub entries : buffer' ≡ buffer

-- ---- the call of the same name, with its answer as numbers at the front of the buffer

-- an index planned
pub record PlansIn (q : ℕ) (c : Catalogue) (answer : List ℕ) (r : ℕ) (answer' : List ℕ) : Type 0 where
  pub number : r ≡ plan_refusal q c
  pub numbers : answer' ≡ placed 0 (plan_numbers (planned q c)) answer

-- an index built
pub record BuildsIn (q : ℕ) (c : Catalogue) (answer ks rs os : List ℕ) (r : ℕ) (answer' ks' rs' os' : List ℕ) : Type 0 where
  pub number : r ≡ build_refusal q c (entries ks rs os)
  pub numbers : answer' ≡ placed 0 (build_numbers (outcome (build_refusal q c (entries ks rs os)) (length (index q c)))) answer
  pub keys : ks' ≡ left_in r (keys_of (index q c)) ks
  pub ranks : rs' ≡ left_in r (ranks_of (index q c)) rs
  pub positions : os' ≡ left_in r (positions_of (index q c)) os

-- a read mapped
pub record MapsIn (q : ℕ) (c : Catalogue) (ks rs os read : List ℕ) (limit : ℕ) (answer buffer : List ℕ) (r : ℕ) (answer' buffer' : List ℕ) : Type 0 where
  pub number : r ≡ map_refusal q c ks rs os read limit (entry_count buffer)
  pub numbers : answer' ≡ placed 0 (row_numbers (map_answer q c ks rs os read limit (entry_count buffer))) answer
  pub entries : buffer' ≡ map_entries q c ks rs os read limit buffer

-- ---- the exported calls: the call, where the answer has room for its numbers, or 26

-- a plan, of three numbers
unfoldable pub ExportsPlan : ℕ → Catalogue → ℕ → List ℕ → List ℕ → Type 0
ExportsPlan q c r answer answer' = IfRight (leb 3 (length answer)) (PlansIn q c answer r answer') (PlanUntouched answer r answer')

-- a build, of two numbers
unfoldable pub ExportsBuild : ℕ → Catalogue → ℕ → List ℕ → List ℕ → List ℕ → List ℕ → List ℕ → List ℕ → List ℕ → List ℕ → Type 0
ExportsBuild q c r answer ks rs os answer' ks' rs' os' =
    IfRight (leb 2 (length answer)) (BuildsIn q c answer ks rs os r answer' ks' rs' os') (BuildUntouched answer ks rs os r answer' ks' rs' os')

-- a mapping, of eight numbers
unfoldable pub ExportsMap : ℕ → Catalogue → List ℕ → List ℕ → List ℕ → List ℕ → ℕ → ℕ → List ℕ → List ℕ → List ℕ → List ℕ → Type 0
ExportsMap q c ks rs os read limit r answer buffer answer' buffer' =
    IfRight (leb 8 (length answer)) (MapsIn q c ks rs os read limit answer buffer r answer' buffer') (MapUntouched answer buffer r answer' buffer')
