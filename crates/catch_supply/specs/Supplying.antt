-- The first steps of a job: settings, targets, and the opening (REFERENCE.md, "Stream").
use Rattle.std.specs.Prelude.{◌≡◌, Bool, List, ◌∷◌, ℕ, ◌*◌, ◌≤◌, length, Result, Ok, Err}
use Rattle.catch_opening.specs.declared.Indexed.{Indexed}
use Rattle.catalogue.specs.Catalogue.{Catalogue, max_identifier}
use Rattle.audit_ledger.specs.Booking.{Counters}
use Rattle.audit_model.specs.declared.settings.Settings.{Settings}
use Rattle.audit_model.specs.Settings.{audit_seed, audit_offset}
use Rattle.audit_model.specs.Opening.{opening_refusal, started}
use Rattle.catch_commands.specs.Commands.{max_stream_targets, max_stream_bases}
use Rattle.catch_targets.specs.declared.Supply.{Supply}
use Rattle.catch_model.specs.Job.{no_targets, lent_of, beginning, supplying, running}
use Rattle.catch_opening.specs.Opened.{JobIndexed}
use Rattle.catch_advance.specs.declared.Advance.{Advance}
use Rattle.catch_progress.specs.declared.Progress.TheVariants as progress
use Rattle.catch_advance.specs.Advancing.{Advances}
use Rattle.catch_supply.specs.declared.Supplied.{Supplied}

-- a step that writes nothing and goes n bytes
abbrev pub went : ℕ → ℕ → Advance
went at n = record { at = at; progress = progress.Went n }

-- ---- 01

-- settings are read from a code and eleven bytes, or nothing is
abbrev pub Begins : Bool → List ℕ → List ℕ → ℕ → List ℕ → Result Settings Advance → Type 0
Begins ended bytes out at out' (Ok s) = Advances ended beginning bytes out at out' (went at 12) (supplying s no_targets)
Begins ended bytes out at out' (Err a) = Advances ended beginning bytes out at out' a beginning

-- ---- 02

-- the room for the identifiers of all targets
abbrev pub max_stream_names : ℕ
max_stream_names = 4080

-- targets within the bounds of a stream, in lists that have room for all that a stream may have
pub record SupplyKept (s : Supply) (is ies bs bes ms : List ℕ) : Type 0 where
  pub targets : s.targets ≤ max_stream_targets
  pub names : s.names ≤ s.targets * max_identifier
  pub bases : s.bases ≤ max_stream_bases
  pub identifiers : length is ≡ max_stream_names
  pub identifier_ends : length ies ≡ max_stream_targets
  pub sequences : length bs ≡ max_stream_bases
  pub base_ends : length bes ≡ max_stream_targets
  pub marks : length ms ≡ max_stream_targets

-- a target more, or the targets as they were; whatever the settings are
abbrev pub SupplyTold : Bool → Catalogue → List ℕ → List ℕ → ℕ → List ℕ → Supplied → Catalogue → Type 0
SupplyTold ended c bytes out at out' r c' = (s : Settings) → Advances ended (supplying s c) bytes out at out' r.advance (supplying s c')

-- ---- the opening

-- the targets are ranked and indexed, and the same code is read by a job that runs; or the step ends here
module _ (ended : Bool) (bytes : List ℕ) (c : Catalogue) (s : Settings) (out : List ℕ) (at : ℕ) (out' : List ℕ) where
  abbrev pub OpenTold : Result Indexed Advance → List ℕ → List ℕ → List ℕ → List ℕ → Type 0
  OpenTold (Ok i) ranked ks rs os =
      Advances ended (supplying s c) bytes out at out' (went at 0) (running c (started c s)) × JobIndexed c i ranked ks rs os
      × (opening_refusal audit_seed audit_offset c (lent_of c) s (started c s).counters ≡ 0)
  OpenTold (Err a) ranked ks rs os = Advances ended (supplying s c) bytes out at out' a (supplying s c)

-- with counters of zero, whatever stands behind the code
abbrev pub OpensAt : ℕ → Catalogue → Settings → Counters → List ℕ → ℕ → List ℕ → Result Indexed Advance → List ℕ → List ℕ → List ℕ → List ℕ → Type 0
OpensAt code c s k out at out' r ranked ks rs os =
    k ≡ (started c s).counters → (ended : Bool) (bytes : List ℕ) → OpenTold ended (code ∷ bytes) c s out at out' r ranked ks rs os
