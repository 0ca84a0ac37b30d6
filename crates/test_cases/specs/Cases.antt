-- Where lists stand in the bytes of a case.
use Rattle.std.specs.Prelude.{ℕ, ◌+◌, ◌*◌, ◌≤◌, ◌≡◌}
use Rattle.test_cases.specs.declared.targets.Lists.{Lists}

-- the lists of targets, within n bytes
pub record ListsIn (l : Lists) (n : ℕ) : Type 0 where
  pub behind : l.start ≤ l.identifiers
  pub few_names : l.names ≤ 16
  pub names_end : l.named ≡ l.identifiers + l.names * 2
  pub bases_behind : l.named ≤ l.bases
  pub few_sequences : l.sequences ≤ 16
  pub sequences_end : l.ended ≡ l.bases + l.sequences * 2
  pub marks_behind : l.ended ≤ l.marks
  pub within : l.marks ≤ n
