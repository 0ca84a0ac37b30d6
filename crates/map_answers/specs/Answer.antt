-- What a search answers, and what it leaves in the entries (REFERENCE.md, "Mapping").
use Rattle.std.specs.Prelude.{◌≡◌, not, cond, ◌&&◌, List, [], ℕ, zero, suc, length, eqb, ltb, Result, Ok, Err}
use Rattle.promises.specs.declared.refusal.Refusal.{Refusal}
use Rattle.promises.specs.Refusal.{unless, Outcome, refused, accepted, outcome, if_passed, outcome_by, refusal_number}
use Rattle.buffers.specs.Placed.{placed}
use Rattle.map_places.specs.Place.{Place, groups}
use Rattle.map_every_start.specs.Entries.{entries_of, entry_count, cleared}
use Rattle.map_answers.specs.declared.answer.ReadState.{ReadState}
use Rattle.map_answers.specs.declared.answer.ReadState.TheVariants as states
use Rattle.map_by_index.specs.declared.work.MappingWork.{MappingWork}
use Rattle.map_answers.specs.declared.answer.Mapping.{Mapping}

-- ---- answers as data

-- the number of a state
abbrev pub state_number : ReadState → ℕ
state_number states.NotRequested = 0
state_number states.Ineligible = 1
state_number states.Indeterminate = 2
state_number states.Unmapped = 3
state_number states.Single = 4
state_number states.Multiple = 5

-- the row of a read: the number of its state, the number of its groups that are listed, and the work of its search
pub record Row : Type 0 where
  pub state : ℕ
  pub groups : ℕ
  pub work : MappingWork

abbrev pub row : ℕ → ℕ → MappingWork → Row
row state groups work = record { state = state; groups = groups; work = work }

-- what each answer stands for, by the numbers of refusals
abbrev pub answer_by : {E : Type 0} → (E → ℕ) → Result Mapping E → Outcome Row
answer_by number = outcome_by number (λ (m : Mapping). row (state_number m.state) m.groups m.work)

abbrev pub answer_of : Result Mapping Refusal → Outcome Row
answer_of = answer_by refusal_number

-- ---- the groups of a read

-- unmapped, single or multiple, by the number of groups
abbrev pub state_of : ℕ → ℕ
state_of zero = 3
state_of (suc zero) = 4
state_of (suc (suc n)) = 5

-- more matches than the limit: indeterminate, and no group is listed; else all are
abbrev pub listed : ℕ → List Place → List Place
listed limit gs = cond (ltb limit (length gs)) [] gs

-- the state of a read with so many matches
abbrev pub mapped_state : ℕ → ℕ → ℕ
mapped_state limit n = cond (ltb limit n) 2 (state_of n)

abbrev pub mapped_row : ℕ → List Place → MappingWork → Row
mapped_row limit gs w = row (mapped_state limit (length gs)) (length (listed limit gs)) w

-- 10: more matches than entries, and entries fewer than the limit
abbrev pub room_refusal : ℕ → ℕ → ℕ → ℕ
room_refusal entries limit matched = unless (not (ltb entries matched && ltb entries limit)) 10

-- the entries after a call: an accepted one sets them to zero and lists groups, 10 sets them to zero, others touch nothing
abbrev pub entries_after : ℕ → List ℕ → List ℕ → List ℕ
entries_after n rows buffer = if_passed n (placed 0 rows (cleared buffer)) (cond (eqb n 10) (cleared buffer) buffer)

-- ---- the answer for a read of n bases with its groups, where the refusal is known; `ranked` holds the supplied place of each rank

abbrev pub read_answer : ℕ → ℕ → List Place → MappingWork → Outcome Row
read_answer refusal limit gs w = outcome refusal (mapped_row limit gs w)

abbrev pub read_entries : ℕ → List ℕ → ℕ → ℕ → List Place → List ℕ → List ℕ
read_entries refusal ranked n limit gs buffer = entries_after refusal (entries_of ranked n (listed limit gs)) buffer

-- a call answers with an outcome, and leaves numbers in the entries
pub record Leaves (outcome : Outcome Row) (numbers : List ℕ) (r : Result Mapping Refusal) (buffer' : List ℕ) : Type 0 where
  pub answer : answer_of r ≡ outcome
  pub entries : buffer' ≡ numbers

abbrev pub Answered : ℕ → List ℕ → ℕ → ℕ → List Place → MappingWork → Result Mapping Refusal → List ℕ → List ℕ → Type 0
Answered refusal ranked n limit gs w r buffer buffer' = Leaves (read_answer refusal limit gs w) (read_entries refusal ranked n limit gs buffer) r buffer'

-- ---- the answer of a search

-- the answer by the matches seen under a bound, and the entries set to zero where there are more
pub record Concluded (limit bound : ℕ) (w : MappingWork) (r : Result Mapping Refusal) (buffer buffer' : List ℕ) : Type 0 where
  pub answer :
      answer_of r ≡ cond (ltb bound w.seen) (cond (ltb (entry_count buffer) limit) (refused 10) (accepted (row 2 0 w))) (accepted (row (state_of w.seen) w.seen w))
  pub entries : buffer' ≡ cond (ltb bound w.seen) (cleared buffer) buffer
