-- `catch` on paper: what it writes for every list of bytes (REFERENCE.md, "Stream").
use Rattle.std.specs.Prelude.{cond, ◌||◌, List, [], ◌∷◌, ◌++◌, ℕ, zero, suc, length, eqb}
use Rattle.catalogue.specs.Catalogue.{Catalogue}
use Rattle.index_seeds.specs.Seeds.{keys_of, ranks_of, positions_of}
use Rattle.index_model.specs.Index.{index}
use Rattle.audit_model.specs.declared.settings.Settings.{Settings}
use Rattle.audit_model.specs.Settings.{Held, audit_seed, audit_offset}
use Rattle.audit_model.specs.Opening.{IndexLent, columns, opening_refusal, started, way_of}
use Rattle.audit_model.specs.Fragment.{Fragment, fragment_refusal, fragment_accepted}
use Rattle.audit_model.specs.Sheet.{finish_refusal}
use Rattle.catch_lines.specs.Lines.{refusal_line}
use Rattle.catch_commands.specs.Operands.{Parsed, parsed, wrong, short}
use Rattle.catch_commands.specs.Commands.{settings_in, target_in, fragment_in}
use Rattle.catch_sheet_lines.specs.Sheets.{fragment_lines, sheet_lines}

-- ---- what is lent

abbrev pub no_targets : Catalogue
no_targets = record { identifiers = []; identifier_ends = []; bases = []; base_ends = []; marks = [] }

-- the index of the targets
abbrev pub lent_of : Catalogue → IndexLent
lent_of c = columns (keys_of (index audit_seed c)) (ranks_of (index audit_seed c)) (positions_of (index audit_seed c))

-- how many placement entries
abbrev pub stream_entries : ℕ
stream_entries = 256

-- ---- one command

-- nothing read; settings and targets so far; the opening accepted, and what is held
pub data Stage : Type 0 where
  beginning : Stage
  supplying : Settings → Catalogue → Stage
  running : Catalogue → Held → Stage

-- some bytes are written, and that is all; or they are written, and the run goes on at a stage with the bytes that are left
pub data Step : Type 0 where
  ends : List ℕ → Step
  goes : List ℕ → Stage → List ℕ → Step

-- a refusal prints E and its number, then nothing more
abbrev pub refuses : ℕ → Step
refuses n = ends (refusal_line n)

-- something is read, and the run goes on with it; or 20
abbrev pub when_read : {A : Type 0} → Parsed A → (A → List ℕ → Step) → Step
when_read (parsed a rest) next = next a rest
when_read wrong next = refuses 20
when_read short next = refuses 20

-- 01 comes first
abbrev pub begin : List ℕ → Step
begin [] = refuses 20
begin (code ∷ bytes) = cond (eqb code 1) (when_read (settings_in bytes) λ s. goes [] (supplying s no_targets)) (refuses 20)

-- a whole fragment is audited: its lines, where it is not refused
abbrev pub audited : ℕ → Catalogue → Held → Fragment → List ℕ → Step
audited zero c h f rest =
    goes (fragment_lines audit_offset c h.state.settings (way_of audit_seed (lent_of c)) f.ordinal f.reads) (running c (fragment_accepted audit_offset c h f)) rest
audited (suc n) c h f rest = refuses (suc n)

-- 05 with nothing behind it: the sheet, where `finish` is not refused
abbrev pub finished : ℕ → Catalogue → Held → List ℕ → Step
finished zero c h [] = ends (sheet_lines c h)
finished (suc n) c h [] = refuses (suc n)
finished n c h (b ∷ bytes) = refuses 20

-- 03 with its 04s, or 05
abbrev pub run : Catalogue → Held → List ℕ → Step
run c h [] = refuses 20
run c h (code ∷ bytes) =
    cond (eqb code 3) (when_read (fragment_in bytes) λ f. audited (fragment_refusal audit_seed audit_offset c (lent_of c) h f stream_entries) c h f)
    (cond (eqb code 5) (finished (finish_refusal audit_seed audit_offset c (lent_of c) h) c h bytes) (refuses 20))

-- the opening, before anything behind the code that it is run at
abbrev pub opened : ℕ → Settings → Catalogue → List ℕ → Step
opened zero s c bytes = run c (started c s) bytes
opened (suc n) s c bytes = refuses (suc n)

-- any 02s; at 03 or 05 the opening is run
abbrev pub supply : Settings → Catalogue → List ℕ → Step
supply s c [] = refuses 20
supply s c (code ∷ bytes) =
    cond (eqb code 2) (when_read (target_in c bytes) λ c'. goes [] (supplying s c'))
    (cond (eqb code 3 || eqb code 5) (opened (opening_refusal audit_seed audit_offset c (lent_of c) s (started c s).counters) s c (code ∷ bytes)) (refuses 20))

abbrev pub command : Stage → List ℕ → Step
command beginning bytes = begin bytes
command (supplying s c) bytes = supply s c bytes
command (running c h) bytes = run c h bytes

-- ---- the whole stream

-- a command, and what is written behind it
abbrev pub onward : (Stage → List ℕ → List ℕ) → Step → List ℕ
onward behind (ends out) = out
onward behind (goes out stage bytes) = out ++ behind stage bytes

-- what n commands write from a stage on, with these bytes to come
unfoldable pub written : ℕ → Stage → List ℕ → List ℕ
written zero stage bytes = []
written (suc n) stage bytes = onward (written n) (command stage bytes)

-- there are no more commands than bytes, and one at the end of the stream
abbrev pub still : Stage → List ℕ → List ℕ
still stage bytes = written (suc (length bytes)) stage bytes

abbrev pub catch : List ℕ → List ℕ
catch bytes = still beginning bytes
