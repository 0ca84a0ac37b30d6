-- A step of a job that was opened (REFERENCE.md, "Stream").
use Rattle.std.specs.Prelude.{◌≡◌, Bool, List, ℕ, ◌*◌, ◌≤◌, length, Result, Ok, Err}
use Rattle.promises.specs.declared.refusal.Refusal.{Refusal}
use Rattle.catalogue.specs.Catalogue.{Catalogue, supplied_places}
use Rattle.audit_ledger.specs.Booking.{Counters}
use Rattle.audit_model.specs.declared.calls.FragmentRows.{FragmentRows}
use Rattle.audit_model.specs.Settings.{Held, audit_seed, audit_offset}
use Rattle.audit_model.specs.Opening.{columns, opening_refusal}
use Rattle.catch_commands.specs.Commands.{max_stream_targets}
use Rattle.catch_model.specs.Job.{lent_of, stream_entries, running}
use Rattle.catch_progress.specs.declared.Progress.{Progress}
use Rattle.catch_progress.specs.declared.Progress.TheVariants as progress
use Rattle.catch_advance.specs.Advancing.{Advances}
use Rattle.catch_run.specs.declared.RunStep.{RunStep}

-- the catalogue of five lists
abbrev pub catalogue_of : List ℕ → List ℕ → List ℕ → List ℕ → List ℕ → Catalogue
catalogue_of is ies bs bes ms = record { identifiers = is; identifier_ends = ies; bases = bs; base_ends = bes; marks = ms }

-- a fragment of n bytes was audited, or its refusal is the end
abbrev pub progress_of : Result FragmentRows Refusal → ℕ → Progress
progress_of (Ok rows) n = progress.Went n
progress_of (Err e) n = progress.Ended

-- the opening's checks pass
abbrev pub Passes : Catalogue → Held → Type 0
Passes c h = opening_refusal audit_seed audit_offset c (lent_of c) h.state.settings h.counters ≡ 0

-- what a step is lent: they pass, the targets are ranked and indexed, and there are the entries of a stream
pub record Runs (c : Catalogue) (ranked ks rs os : List ℕ) (h : Held) (entries : List ℕ) : Type 0 where
  pub passes : Passes c h
  pub few : length c.identifier_ends ≤ max_stream_targets
  pub places : ranked ≡ supplied_places c
  pub index : columns ks rs os ≡ lent_of c
  pub whole : length entries ≡ 4 * stream_entries

-- a step, behind which the checks still pass
pub record Ran (ended : Bool) (c : Catalogue) (h : Held) (bytes out : List ℕ) (at : ℕ) (out' : List ℕ) (r : RunStep) (k : Counters) : Type 0 where
  pub advances : Advances ended (running c h) bytes out at out' r.advance (running c (record { state = r.state; counters = k }))
  pub still_passes : Passes c (record { state = r.state; counters = k })
