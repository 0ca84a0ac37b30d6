-- One read of a fragment observed (REFERENCE.md, "Observing").
use Rattle.std.specs.Prelude.{◌≡◌, Bool, true, false, cond, List, ℕ, ◌≤◌, length, Result}
use Rattle.promises.specs.declared.refusal.Refusal.{Refusal}
use Rattle.lists.specs.Cut.{window}
use Rattle.promises.specs.Refusal.{outcome}
use Rattle.bases.specs.Read.{letters}
use Rattle.index_seeds.specs.Key.{SeedLength}
use Rattle.buffers.specs.Placed.{placed}
use Rattle.index_model.specs.Index.{ranked_sequences, Lent, Indexed}
use Rattle.map_places.specs.Place.{max_read}
use Rattle.map_every_start.specs.Entries.{entry_count}
use Rattle.map_by_index.specs.Work.{Way, by_index, plain}
use Rattle.map_answers.specs.Answer.{answer_of}
use Rattle.map_answers.specs.declared.answer.Mapping.{Mapping}
use Rattle.map_search.specs.Answered.{search_entries}
use Rattle.audit_model.specs.declared.settings.Settings.{Settings}
use Rattle.audit_model.specs.Observing.{Observed, observed_room, observed_row}

-- how a search is made
abbrev pub way_if : Bool → ℕ → Way
way_if true q = by_index q
way_if false q = plain

-- what reads are observed in: sequences of capitals, and columns that are their index, if there is one
pub record Observable (indexed : Bool) (q : ℕ) (bases ends ranked ks rs os : List ℕ) : Type 0 where
  pub lent : Lent bases ends ranked
  pub seed : SeedLength q
  pub index : indexed ≡ true → Indexed q (ranked_sequences bases ends ranked) ks rs os

-- a read that passed its checks: where it is searched, it has letters only, and no more than the bound
pub record ReadPassed (searched : Bool) (read : List ℕ) : Type 0 where
  pub letters_right : searched ≡ true → letters read ≡ true
  pub short : searched ≡ true → length read ≤ max_read

abbrev pub as_observed : Bool → List ℕ → Observed
as_observed searched read = record { searched = searched; bases = read }

-- one read observed into `width` numbers of the entries from a place on; where it is not searched they stay
pub record ReadObserved (s : Settings) (ss : List (List ℕ)) (way : Way) (ranked : List ℕ) (read : List ℕ) (searched : Bool) (from width : ℕ) (r : Result Mapping Refusal) (buffer buffer' : List ℕ) : Type 0 where
  pub answer : answer_of r ≡ outcome (observed_room s ss (entry_count (window buffer from width)) (as_observed searched read)) (observed_row s ss way (as_observed searched read))
  pub entries : buffer' ≡ placed from (cond searched (search_entries ss ranked read s.limit (window buffer from width)) (window buffer from width)) buffer
