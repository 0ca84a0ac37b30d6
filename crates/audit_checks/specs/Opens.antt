-- The checks of an opening, step by step (REFERENCE.md, "Opening").
use Rattle.std.specs.Prelude.{◌≡◌, Bool, not, ◌||◌, List, ℕ, ◌≤◌, length, Result}
use Rattle.promises.specs.declared.refusal.Refusal.{Refusal}
use Rattle.promises.specs.Refusal.{unless, ◌or_else◌, outcome}
use Rattle.catalogue.specs.Catalogue.{Catalogue, mapped, max_targets}
use Rattle.catalogue.specs.Ranking.{ranking_outcome, RanksIn}
use Rattle.index_seeds.specs.Key.{SeedLength}
use Rattle.index_model.specs.Index.{index_of, columns_of}
use Rattle.map_answers.specs.Bounds.{limit_right}
use Rattle.audit_ledger.specs.Booking.{Counters}
use Rattle.bases.specs.Eligibility.{last_quality}
use Rattle.audit_model.specs.declared.settings.Settings.{Settings}
use Rattle.audit_model.specs.Settings.{floor_right}
use Rattle.audit_model.specs.Opening.{IndexLent, opening_refusal}

-- 11 and 9
abbrev pub settings_refusal : ℕ → Settings → ℕ
settings_refusal offset s = unless (floor_right offset s.floor) 11 or_else unless (limit_right s.limit) 9

-- the columns are the index of sequences, where they are tested
abbrev pub index_fits : Bool → ℕ → List (List ℕ) → List ℕ → List ℕ → List ℕ → Bool
index_fits tested q ss ks rs os = not tested || columns_of (index_of q ss) ks rs os

-- what the checks are lent: seeds and an offset within their bounds, and room for the ranks
pub record Checkable (q offset : ℕ) (ranked : List ℕ) : Type 0 where
  pub seed : SeedLength q
  pub offset_right : offset ≤ last_quality
  pub room : length ranked ≡ max_targets

-- refused, or ranked as a catalogue is
pub record OpeningRanked (q offset : ℕ) (c : Catalogue) (lent : IndexLent) (s : Settings) (k : Counters) (r : Result ℕ Refusal) (buffer : List ℕ) : Type 0 where
  pub answer : ranking_outcome r ≡ outcome (opening_refusal q offset c lent s k) (length (mapped c))
  pub ranks : RanksIn c r buffer
