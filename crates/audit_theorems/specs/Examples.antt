-- The worked examples of the rules, those of the mapper, a whole run and a stream, as one table (REFERENCE.md, "Worked examples").
use Rattle.std.specs.Prelude.{◌≡◌, true, List, [], ◌∷◌, map, ℕ, replicate, None}
use Prim.Native.String.{String}
use Rattle.lists.specs.Triple.{Triple}
use Rattle.promises.specs.Refusal.{Outcome, accepted}
use Rattle.bases.specs.Base.{A, C, G, T}
use Rattle.bases.specs.Read.{absent}
use Rattle.catalogue.specs.Catalogue.{Catalogue, targets}
use Rattle.map_answers.specs.Answer.{Row, row}
use Rattle.indexed_mapper.specs.Board as board
use Rattle.audit_model.specs.declared.settings.AuditInputMode.TheVariants as modes
use Rattle.audit_model.specs.declared.settings.MateRole.TheVariants as roles
use Rattle.audit_model.specs.declared.settings.Settings.{Settings}
use Rattle.audit_model.specs.declared.sheet.Status.TheVariants as statuses
use Rattle.audit_model.specs.declared.sheet.Shown.{Shown}
use Rattle.audit_model.specs.Settings.{Held, audit_seed, audit_offset}
use Rattle.audit_model.specs.Opening.{IndexLent, columns, opening_refusal, started}
use Rattle.audit_model.specs.Sheet.{shown, totals_of, status_word, sheet_of, counts_shown, targets_shown, finish_refusal}
use Rattle.audit_model.specs.Run.{Call, Answer, answers, after}
use Rattle.catch_model.specs.Job.{catch}
use Rattle.catch_model.specs.Example.{example_stream, example_lines}
use Rattle.audit_theorems.specs.Placements.{Placement, placements_in}

-- a run with one index throughout: its calls, and what is seen of it
pub record Run : Type 0 where
  pub catalogue : Catalogue
  pub settings : Settings
  pub lent : IndexLent
  pub calls : List Call
  -- the rows that each call answers
  pub rows : List (Outcome (List Row))
  -- the first n entries that each call leaves
  pub number : ℕ
  pub placements : List (List Placement)
  -- on the sheet: the counts of states, and totals with status of each target and of the run
  pub counts : List Triple
  pub targets : List Shown
  pub total : Shown
  -- the words of the statuses: of the run, and of each target
  pub words : List String

-- of the mapper; a run; a stream of `catch` and the lines that are written for it
pub data Example : Type 0 where
  mapper : board.Example → Example
  run : Run → Example
  job : List ℕ → List ℕ → Example

abbrev at_end : Run → Held
at_end r = after audit_seed audit_offset r.catalogue (started r.catalogue r.settings) r.calls

abbrev given : Run → List Answer
given r = answers audit_seed audit_offset r.catalogue (started r.catalogue r.settings) r.calls

-- opening and `finish` are accepted, and everything is as it is said
pub record RunHolds (r : Run) : Type 0 where
  pub opened : opening_refusal audit_seed audit_offset r.catalogue r.lent r.settings (started r.catalogue r.settings).counters ≡ 0
  pub answered : map (λ (a : Answer). a.rows) (given r) ≡ r.rows
  pub listed : map (λ (a : Answer). placements_in r.number a.entries) (given r) ≡ r.placements
  pub finished : finish_refusal audit_seed audit_offset r.catalogue r.lent (at_end r) ≡ 0
  pub counted : counts_shown (sheet_of (at_end r)) ≡ r.counts
  pub by_target : targets_shown (sheet_of (at_end r)) (at_end r).counters r.catalogue ≡ r.targets
  pub in_all : (sheet_of (at_end r)).run ≡ r.total
  pub worded : map (λ (x : Shown). status_word x.status) (r.total ∷ r.targets) ≡ r.words

abbrev pub Holds : Example → Type 0
Holds (mapper e) = board.Holds e
Holds (run r) = RunHolds r
Holds (job bytes lines) = catch bytes ≡ lines

abbrev pub AllHold : List Example → Type 0
AllHold [] = Unit {0}
AllHold (x ∷ xs) = Holds x × AllHold xs

-- ---- the run of the program `catch`

-- t1 linear ACGT, b closed AAAA; single, remap on, floor 0, limit 10; ordinal 0, an S read AC without qualities
abbrev pub catch_run : Run
catch_run =
    record {
      catalogue = record { identifiers = 116 ∷ 49 ∷ 98 ∷ []; identifier_ends = 2 ∷ 3 ∷ []; bases = A ∷ C ∷ G ∷ T ∷ A ∷ A ∷ A ∷ A ∷ []; base_ends = 4 ∷ 8 ∷ []; marks = 0 ∷ 1 ∷ [] };
      settings = record { mode = modes.SingleEnd; remap = true; floor = 0; limit = 10 };
      lent = columns [] [] [];
      calls =
          record {
            lent = columns [] [] [];
            fragment = record { ordinal = 0; reads = record { role = roles.S; read = record { bases = A ∷ C ∷ []; qualities = absent } } ∷ [] };
            entries = replicate 1024 0;
          } ∷ [];
      rows = accepted (row 5 2 (board.counts 0 0 0 6 2) ∷ []) ∷ [];
      number = 3;
      placements = (record { target = 0; start = 0; end = 2; strand = 0 } ∷ record { target = 0; start = 2; end = 4; strand = 1 } ∷ record { target = 0; start = 0; end = 0; strand = 0 } ∷ []) ∷ [];
      counts = (0, 1, 0) ∷ (0, 2, 0) ∷ (0, 3, 0) ∷ (0, 4, 0) ∷ (0, 5, 1) ∷ [];
      targets = shown statuses.Complete (totals_of 2 0 1) ∷ record { status = statuses.ClosedUnsupported; totals = None } ∷ [];
      total = shown statuses.Complete (totals_of 2 0 1);
      words = "placement_enumeration_complete" ∷ "placement_enumeration_complete" ∷ "unavailable_closed_walk_audit_unsupported" ∷ [];
    }

abbrev pub examples : List Example
examples = job example_stream example_lines ∷ run catch_run ∷ map mapper board.examples
