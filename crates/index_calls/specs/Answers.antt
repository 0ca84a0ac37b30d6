-- What a build answers, and what it leaves in the columns (REFERENCE.md, "Index").
use Rattle.std.specs.Prelude.{◌≡◌, List, ◌++◌, ℕ, zero, suc, min, length, drop, leb, Result, Ok, Err}
use Rattle.promises.specs.declared.refusal.Refusal.{Refusal}
use Rattle.promises.specs.Refusal.{unless, Outcome, outcome, outcome_by, refusal_number}
use Rattle.catalogue.specs.Catalogue.{Catalogue}
use Rattle.index_columns.specs.Posting.{Posting}
use Rattle.index_seeds.specs.Seeds.{keys_of, ranks_of, positions_of}
use Rattle.index_model.specs.Index.{index_of, index, build_refusal}

-- what each answer of `build` stands for, by the numbers of refusals
abbrev pub built_by : {E : Type 0} → (E → ℕ) → Result ℕ E → Outcome ℕ
built_by number = outcome_by number (λ (k : ℕ). k)

abbrev pub built_outcome : Result ℕ Refusal → Outcome ℕ
built_outcome = built_by refusal_number

-- entries are what the shortest column holds
abbrev pub entries : List ℕ → List ℕ → List ℕ → ℕ
entries ks rs os = min (length ks) (min (length rs) (length os))

-- a buffer after a call: as it was where the call is refused, else with a list at its front
abbrev pub left_in : ℕ → List ℕ → List ℕ → List ℕ
left_in zero xs buffer = xs ++ drop (length xs) buffer
left_in (suc n) xs buffer = buffer

-- refused with no column touched, or the number of postings, which the columns hold
pub record Builds (refusal : ℕ) (ps : List Posting) (r : Result ℕ Refusal) (ks rs os ks' rs' os' : List ℕ) : Type 0 where
  pub answer : built_outcome r ≡ outcome refusal (length ps)
  pub keys : ks' ≡ left_in refusal (keys_of ps) ks
  pub ranks : rs' ≡ left_in refusal (ranks_of ps) rs
  pub positions : os' ≡ left_in refusal (positions_of ps) os

abbrev pub BuiltAs : ℕ → Catalogue → Result ℕ Refusal → List ℕ → List ℕ → List ℕ → List ℕ → List ℕ → List ℕ → Type 0
BuiltAs q c r ks rs os ks' rs' os' = Builds (build_refusal q c (entries ks rs os)) (index q c) r ks rs os ks' rs' os'

-- the same for ranked sequences, which need no test but for room
abbrev pub BuiltFrom : ℕ → List (List ℕ) → Result ℕ Refusal → List ℕ → List ℕ → List ℕ → List ℕ → List ℕ → List ℕ → Type 0
BuiltFrom q ss r ks rs os ks' rs' os' = Builds (unless (leb (length (index_of q ss)) (entries ks rs os)) 5) (index_of q ss) r ks rs os ks' rs' os'
