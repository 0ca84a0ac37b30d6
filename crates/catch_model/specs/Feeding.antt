-- A stream that comes in pieces (REFERENCE.md, "Stream").
use Rattle.std.specs.Prelude.{◌≡◌, List, [], ◌∷◌, ◌++◌, ℕ, ◌≤◌}
use Rattle.catalogue.specs.Catalogue.{Catalogue}
use Rattle.audit_model.specs.declared.settings.Settings.{Settings}
use Rattle.audit_model.specs.Settings.{Held}
use Rattle.catch_commands.specs.Operands.{short}
use Rattle.catch_commands.specs.Commands.{settings_in, target_in, fragment_in}
use Rattle.catch_model.specs.Job.{Stage, beginning, supplying, running, still}

-- whatever follows the bytes that are there: some are written, and the run goes on at a stage with what is left of them
abbrev pub Goes : Stage → List ℕ → List ℕ → Stage → List ℕ → Type 0
Goes stage bytes out stage' left = (more : List ℕ) → still stage (bytes ++ more) ≡ out ++ still stage' (left ++ more)

-- whatever follows: these are written, and that is all
abbrev pub Ends : Stage → List ℕ → List ℕ → Type 0
Ends stage bytes out = (more : List ℕ) → still stage (bytes ++ more) ≡ out

-- how far a run has come: nothing read, targets, opened
abbrev pub reached : Stage → ℕ
reached beginning = 0
reached (supplying s c) = 1
reached (running c h) = 2

-- a step that went n bytes is further than before: by a byte at least, and no stage back; or by the opening, which takes none
pub data Further : Stage → ℕ → Stage → Type 0 where
  by_bytes : (before : Stage) (n : ℕ) (after : Stage) → 1 ≤ n → reached before ≤ reached after → Further before n after
  by_opening : (s : Settings) (c d : Catalogue) (h : Held) → Further (supplying s c) 0 (running d h)

-- the bytes at hand are no whole command: there is none; what stands behind the code is not all there; or they are 05, behind which no byte may stand
pub data MustWait : Stage → List ℕ → Type 0 where
  no_byte : (stage : Stage) → MustWait stage []
  settings_lack : (bytes : List ℕ) → settings_in bytes ≡ short → MustWait beginning (1 ∷ bytes)
  target_lacks : (s : Settings) (c : Catalogue) (bytes : List ℕ) → target_in c bytes ≡ short → MustWait (supplying s c) (2 ∷ bytes)
  fragment_lacks : (c : Catalogue) (h : Held) (bytes : List ℕ) → fragment_in bytes ≡ short → MustWait (running c h) (3 ∷ bytes)
  at_the_end : (c : Catalogue) (h : Held) → MustWait (running c h) (5 ∷ [])

-- pieces joined
abbrev pub joined : List (List ℕ) → List ℕ
joined [] = []
joined (p ∷ ps) = p ++ joined ps
