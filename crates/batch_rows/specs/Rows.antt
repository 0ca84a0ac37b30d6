-- The row of a read (REFERENCE.md, "Many reads").
use Rattle.std.specs.Prelude.{List, [], ◌∷◌, ℕ, replicate}
use Rattle.promises.specs.Refusal.{Outcome, refused, accepted}
use Rattle.map_answers.specs.Answer.{Row}
use Rattle.map_by_index.specs.declared.work.MappingWork.{MappingWork}

-- the work counts as numbers
abbrev pub counts_of : MappingWork → List ℕ
counts_of w = w.lookups ∷ w.hits ∷ w.examined ∷ w.comparisons ∷ w.seen ∷ []

-- the row of an outcome: refusal, state, groups and work counts; all but the first are zero where it is refused
abbrev pub row_numbers : Outcome Row → List ℕ
row_numbers (refused n) = n ∷ replicate 7 0
row_numbers (accepted a) = 0 ∷ a.state ∷ a.groups ∷ counts_of a.work
