-- A job and its buffers: the stage that they stand for, and what a step leaves (REFERENCE.md, "Stream").
use Rattle.std.specs.Prelude.{◌≡◌, Bool, List, ℕ, length, take, Result, Ok, Err}
use Rattle.catch_advance.specs.declared.Advance.{Advance}
use Rattle.catch_opening.specs.declared.Indexed.{Indexed}
use Rattle.audit_model.specs.declared.settings.Settings.{Settings}
use Rattle.catalogue.specs.Catalogue.{Catalogue, max_targets}
use Rattle.audit_ledger.specs.Booking.{counters_of, empty_counters}
use Rattle.audit_model.specs.Settings.{Held, fresh_state, zero_state}
use Rattle.audit_model.specs.Calls.{held_of}
use Rattle.catch_commands.specs.Commands.{max_stream_targets, max_stream_bases}
use Rattle.catch_targets.specs.declared.Supply.{Supply}
use Rattle.catch_targets.specs.Supplied.{supplied_in}
use Rattle.catch_model.specs.Job.{Stage, beginning, supplying, running}
use Rattle.catch_opening.specs.Opened.{JobIndexed}
use Rattle.catch_advance.specs.Advancing.{Advances}
use Rattle.catch_supply.specs.Supplying.{went, SupplyKept}
use Rattle.catch_run.specs.Running.{Passes}
use Rattle.catch_state.specs.declared.JobStage.{JobStage}
use Rattle.catch_state.specs.declared.JobStage.TheVariants as stages
use Rattle.catch_state.specs.declared.Job.{Job}
use Rattle.catch_state.specs.declared.Advanced.{Advanced}

-- ---- a job

abbrev pub no_supply : Supply
no_supply = record { targets = 0; names = 0; bases = 0 }

-- nothing is read
abbrev pub new_job : Job
new_job = record { stage = stages.Beginning; supply = no_supply; indexed = record { ranked = 0; postings = 0 }; state = zero_state }

-- behind 01: a state with its settings, or the job as it was
abbrev pub begun_job : ℕ → Job → Result Settings Advance → Advanced
begun_job at j (Ok s) = record { job = record { stage = stages.Supplying; supply = j.supply; indexed = j.indexed; state = fresh_state s }; advance = went at 12 }
begun_job at j (Err a) = record { job = j; advance = a }

-- behind the opening
abbrev pub opened_job : ℕ → Job → Result Indexed Advance → Advanced
opened_job at j (Ok i) = record { job = record { stage = stages.Running; supply = j.supply; indexed = i; state = j.state }; advance = went at 0 }
opened_job at j (Err a) = record { job = j; advance = a }

-- ---- its buffers

-- targets behind each other; ranks and postings; counters
pub record Buffers : Type 0 where
  pub identifiers : List ℕ
  pub identifier_ends : List ℕ
  pub bases : List ℕ
  pub base_ends : List ℕ
  pub marks : List ℕ
  pub ranked : List ℕ
  pub keys : List ℕ
  pub ranks : List ℕ
  pub positions : List ℕ
  pub placements : List ℕ
  pub singles : List ℕ
  pub multi : List ℕ

abbrev pub buffers_of : List ℕ → List ℕ → List ℕ → List ℕ → List ℕ → List ℕ → List ℕ → List ℕ → List ℕ → List ℕ → List ℕ → List ℕ → Buffers
buffers_of is ies bs bes ms ranked ks rs os ps ss mu =
    record { identifiers = is; identifier_ends = ies; bases = bs; base_ends = bes; marks = ms; ranked = ranked; keys = ks; ranks = rs; positions = os; placements = ps; singles = ss; multi = mu }

-- those that the slices of a call hold when it is made
abbrev pub lent_buffers : List ℕ → List ℕ → List ℕ → List ℕ → List ℕ → List ℕ → List ℕ → List ℕ → List ℕ → List ℕ → List ℕ → List ℕ → Buffers
lent_buffers is ies bs bes ms ranked ks rs os ps ss mu =
    buffers_of is ies bs bes ms ranked ks rs os ps ss mu

-- and when it returns
abbrev pub left_buffers : List ℕ → List ℕ → List ℕ → List ℕ → List ℕ → List ℕ → List ℕ → List ℕ → List ℕ → List ℕ → List ℕ → List ℕ → Buffers
left_buffers is ies bs bes ms ranked ks rs os ps ss mu =
    buffers_of is ies bs bes ms ranked ks rs os ps ss mu

-- ---- the stage that they stand for

-- the targets, at the front of the buffers
abbrev pub supplied_of : Job → Buffers → Catalogue
supplied_of j b = supplied_in j.supply b.identifiers b.identifier_ends b.bases b.base_ends b.marks

-- the state, and a counter of each kind for each target
abbrev pub held_by : Job → Buffers → Held
held_by j b = held_of j.state (take j.supply.targets b.placements) (take j.supply.targets b.singles) (take j.supply.targets b.multi)

abbrev pub stage_at : JobStage → Catalogue → Held → Stage
stage_at stages.Beginning c h = beginning
stage_at stages.Supplying c h = supplying h.state.settings c
stage_at stages.Running c h = running c h

abbrev pub stage_of : Job → Buffers → Stage
stage_of j b = stage_at j.stage (supplied_of j b) (held_by j b)

-- ---- what is kept from step to step

-- all counters are zero
abbrev pub Unbooked : Buffers → Type 0
Unbooked b = counters_of b.placements b.singles b.multi ≡ empty_counters max_stream_targets

-- nothing read: no target, nothing booked; settings read: nothing booked; opened: the checks pass, and the targets are ranked and indexed
abbrev pub KeptAt : JobStage → Job → Buffers → Type 0
KeptAt stages.Beginning j b = (j.supply ≡ no_supply) × Unbooked b
KeptAt stages.Supplying j b = (j.state ≡ fresh_state j.state.settings) × Unbooked b
KeptAt stages.Running j b = Passes (supplied_of j b) (held_by j b) × JobIndexed (supplied_of j b) j.indexed b.ranked b.keys b.ranks b.positions

pub record JobKept (j : Job) (b : Buffers) : Type 0 where
  pub supply : SupplyKept j.supply b.identifiers b.identifier_ends b.bases b.base_ends b.marks
  pub ranked : length b.ranked ≡ max_targets
  pub keys : length b.keys ≡ max_stream_bases
  pub ranks : length b.ranks ≡ max_stream_bases
  pub positions : length b.positions ≡ max_stream_bases
  pub placements : length b.placements ≡ max_stream_targets
  pub singles : length b.singles ≡ max_stream_targets
  pub multi : length b.multi ≡ max_stream_targets
  pub at_stage : KeptAt j.stage j b

-- a step
pub record JobAdvances (ended : Bool) (j : Job) (b : Buffers) (bytes out : List ℕ) (at : ℕ) (out' : List ℕ) (r : Advanced) (b' : Buffers) : Type 0 where
  pub advances : Advances ended (stage_of j b) bytes out at out' r.advance (stage_of r.job b')
  pub kept : JobKept r.job b'
