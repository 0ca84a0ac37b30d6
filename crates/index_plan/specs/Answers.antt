-- What a plan answers (REFERENCE.md, "Index").
use Rattle.std.specs.Prelude.{◌≡◌, List, ℕ, length, Result, Ok, Err}
use Rattle.promises.specs.declared.refusal.Refusal.{Refusal}
use Rattle.promises.specs.Refusal.{Outcome, outcome, outcome_by, refusal_number}
use Rattle.catalogue.specs.Catalogue.{Catalogue, mapped}
use Rattle.catalogue.specs.Ranking.{ranking_outcome, RanksIn}
use Rattle.index_model.specs.Index.{index, plan_refusal}
use Rattle.index_plan.specs.declared.Counts.{Counts}

-- what each answer of `plan` stands for, by the numbers of refusals
abbrev pub plan_by : {E : Type 0} → (E → ℕ) → Result Counts E → Outcome Counts
plan_by number = outcome_by number (λ (counts : Counts). counts)

abbrev pub plan_outcome : Result Counts Refusal → Outcome Counts
plan_outcome = plan_by refusal_number

-- refused, or the numbers of mapped targets and of postings
abbrev pub planned : ℕ → Catalogue → Outcome Counts
planned q c = outcome (plan_refusal q c) (record { targets = length (mapped c); postings = length (index q c) })

-- the ranking of a catalogue whose seed length is tested too
pub record PlanRanked (q : ℕ) (c : Catalogue) (r : Result ℕ Refusal) (buffer : List ℕ) : Type 0 where
  pub answer : ranking_outcome r ≡ outcome (plan_refusal q c) (length (mapped c))
  pub ranks : RanksIn c r buffer
