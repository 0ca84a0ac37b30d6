-- Two audits of one list of calls: the first by the index, the second at every start, which gets some reads turned round. Demand 3.
use Rattle.std.specs.Prelude.{◌≡◌, Bool, false, cond, List, map, ℕ, ◌*◌, ◌≤◌}
use Rattle.lists.specs.Cut.{window}
use Rattle.promises.specs.Refusal.{Outcome, refused, accepted, is_refused}
use Rattle.bases.specs.Read.{turned}
use Rattle.catalogue.specs.Catalogue.{Catalogue}
use Rattle.map_every_start.specs.Entries.{entry_count}
use Rattle.map_answers.specs.Answer.{Row}
use Rattle.audit_model.specs.declared.settings.Settings.{Settings}
use Rattle.audit_model.specs.declared.sheet.Sheet.{Sheet}
use Rattle.audit_model.specs.Settings.{Held}
use Rattle.audit_model.specs.Opening.{columns, none}
use Rattle.audit_model.specs.Observing.{MateRead}
use Rattle.audit_model.specs.Fragment.{share_of}
use Rattle.audit_model.specs.Sheet.{targets_shown}
use Rattle.audit_model.specs.Run.{Call, Answer}
use Rattle.lists.specs.Each.{Each}
use Rattle.audit_theorems.specs.Placements.{placements_in, placements_if}

-- ---- one list of calls for both

-- a read, and whether the second audit gets it turned round
pub record TwinRead : Type 0 where
  pub mate : MateRead
  pub turns : Bool

-- a fragment call: the columns of the first audit's index, the ordinal, the reads, and the entries that each audit is lent
pub record TwinCall : Type 0 where
  pub keys : List ℕ
  pub ranks : List ℕ
  pub positions : List ℕ
  pub ordinal : ℕ
  pub reads : List TwinRead
  pub entries : List ℕ
  pub plain_entries : List ℕ

abbrev pub turned_mate : MateRead → MateRead
turned_mate m = record { role = m.role; read = turned m.read }

-- the read as the second audit gets it
abbrev pub plain_mate : TwinRead → MateRead
plain_mate t = cond t.turns (turned_mate t.mate) t.mate

-- the call of the audit by the index
abbrev pub indexed_call : TwinCall → Call
indexed_call x =
    record {
      lent = columns x.keys x.ranks x.positions;
      fragment = record { ordinal = x.ordinal; reads = map (λ (t : TwinRead). t.mate) x.reads };
      entries = x.entries;
    }

-- the call of the plain audit
abbrev pub plain_call : TwinCall → Call
plain_call x = record { lent = none; fragment = record { ordinal = x.ordinal; reads = map plain_mate x.reads }; entries = x.plain_entries }

-- ---- what agrees

-- a read's rows and its parts of the entries: the same state and number of groups, the same placements, and no more comparisons by the
-- index than by the plain audit of the same read
pub record ReadAgrees (c : Catalogue) (t : TwinRead) (a b : Row) (part part' : List ℕ) : Type 0 where
  pub state : a.state ≡ b.state
  pub groups : a.groups ≡ b.groups
  pub placements : placements_in b.groups part' ≡ placements_if t.turns c (placements_in a.groups part)
  pub fewer : t.turns ≡ false → a.work.comparisons ≤ b.work.comparisons

-- a read's row in each audit
pub record TwinRow : Type 0 where
  pub first : Row
  pub second : Row

-- the reads of a fragment, in parts of the entries one behind the other
pub record ReadsAgree (c : Catalogue) (width width' : ℕ) (ts : List TwinRead) (firsts seconds : List Row) (entries entries' : List ℕ) : Type 0 where
  pub rows : List TwinRow
  pub firsts_are : map (λ (x : TwinRow). x.first) rows ≡ firsts
  pub seconds_are : map (λ (x : TwinRow). x.second) rows ≡ seconds
  pub each : Each (λ i (t : TwinRead) (x : TwinRow). ReadAgrees c t x.first x.second (window entries (width * i) width) (window entries' (width' * i) width')) 0 ts rows

-- an accepted call: each read agrees; a refused one answers nothing
abbrev pub RowsAgree : Settings → Catalogue → TwinCall → Outcome (List Row) → Outcome (List Row) → List ℕ → List ℕ → Type 0
RowsAgree s c x (refused m) (refused n) entries entries' = Unit {0}
RowsAgree s c x (refused m) (accepted seconds) entries entries' = ⊥
RowsAgree s c x (accepted firsts) (refused n) entries entries' = ⊥
RowsAgree s c x (accepted firsts) (accepted seconds) entries entries' =
    ReadsAgree c (4 * share_of s.mode (entry_count x.entries)) (4 * share_of s.mode (entry_count x.plain_entries)) x.reads firsts seconds entries entries'

-- what each audit answers to a call
pub record TwinAnswer : Type 0 where
  pub first : Answer
  pub second : Answer

-- call by call
pub record CallsAgree (s : Settings) (c : Catalogue) (xs : List TwinCall) (firsts seconds : List Answer) : Type 0 where
  pub answered : List TwinAnswer
  pub firsts_are : map (λ (a : TwinAnswer). a.first) answered ≡ firsts
  pub seconds_are : map (λ (a : TwinAnswer). a.second) answered ≡ seconds
  pub each : Each (λ i (x : TwinCall) (a : TwinAnswer). RowsAgree s c x a.first.rows a.second.rows a.first.entries a.second.entries) 0 xs answered

-- ---- both runs

-- which calls are refused
abbrev pub refusals : List Answer → List Bool
refusals answered = map (λ (a : Answer). is_refused a.rows) answered

-- no call is refused by one audit alone
abbrev pub RefusedTogether : List Answer → List Answer → Type 0
RefusedTogether firsts seconds = refusals firsts ≡ refusals seconds

-- what both answered, what each held at its end, and what `finish` answered: every read of an accepted call agrees; accepted sheets are the
-- same, and show the same of each target
pub record RunsAgree (s : Settings) (c : Catalogue) (xs : List TwinCall) (firsts seconds : List Answer) (end end' : Held) (finish finish' : Outcome Sheet) : Type 0 where
  pub calls : CallsAgree s c xs firsts seconds
  pub sheets : (a b : Sheet) → finish ≡ accepted a → finish' ≡ accepted b → (a ≡ b) × (targets_shown a end.counters c ≡ targets_shown b end'.counters c)
