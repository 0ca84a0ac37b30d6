-- The calls of an audit on numbers: what each returns, and what each buffer holds afterwards (REFERENCE.md, "Exports").
use Rattle.std.specs.Prelude.{◌≡◌, Bool, ◌&&◌, List, ℕ, length, eqb, leb}
use Rattle.promises.specs.Refusal.{IfRight}
use Rattle.catalogue.specs.Catalogue.{Catalogue}
use Rattle.buffers.specs.Placed.{placed}
use Rattle.map_every_start.specs.Entries.{entry_count}
use Rattle.audit_ledger.specs.Booking.{Counters}
use Rattle.audit_model.specs.declared.settings.Settings.{Settings}
use Rattle.audit_model.specs.declared.sheet.Sheet.{Sheet}
use Rattle.audit_model.specs.Settings.{Held, audit_seed, audit_offset}
use Rattle.audit_model.specs.Opening.{IndexLent, opening_refusal, opening_held}
use Rattle.audit_model.specs.Observing.{MateRead}
use Rattle.audit_model.specs.Fragment.{Fragment, fragment_refusal, fragment_answer, fragment_held, fragment_entries}
use Rattle.audit_model.specs.Sheet.{finish_refusal, finish_answer}
use Rattle.audit_model.specs.Unitigs.{apply_refusal, applied}
use Rattle.audit_model.specs.Calls.{mate_of, fragment_of}
use Rattle.audit_codes.specs.Codes.{mode_of, role_of, is_role, is_mark, is_set}
use Rattle.batch_lists.specs.Lists.{FragmentLists}
use Rattle.batch_lists.specs.Listed.{outcome_rows, list_refusal, list_held, list_rows, list_entries}
use Rattle.c_state.specs.Layout.{state_length, state_numbers, state_in, is_state}
use Rattle.c_sheet.specs.Sheet.{finish_length, finish_numbers, sheet_in, is_sheet}

-- ---- what is lent

-- settings by their numbers
abbrev pub coded_settings : ℕ → ℕ → ℕ → ℕ → Settings
coded_settings mode remap floor limit = record { mode = mode_of mode; remap = is_set remap; floor = floor; limit = limit }

-- a read with the numbers of its role and of its quality mark
pub record CodedRead : Type 0 where
  pub role : ℕ
  pub mark : ℕ
  pub bases : List ℕ
  pub qualities : List ℕ

abbrev pub lent_coded : ℕ → ℕ → List ℕ → List ℕ → CodedRead
lent_coded role mark bases qualities = record { role = role; mark = mark; bases = bases; qualities = qualities }

abbrev pub codes_right : CodedRead → Bool
codes_right r = is_role r.role && is_mark r.mark

abbrev pub mate_in : CodedRead → MateRead
mate_in r = mate_of (role_of r.role) r.bases (is_set r.mark) r.qualities

-- a fragment of which two reads are lent
pub record CodedFragment : Type 0 where
  pub ordinal : ℕ
  pub count : ℕ
  pub first : CodedRead
  pub second : CodedRead

abbrev pub coded_fragment : ℕ → ℕ → CodedRead → CodedRead → CodedFragment
coded_fragment ordinal count first second = record { ordinal = ordinal; count = count; first = first; second = second }

abbrev pub fragment_in : CodedFragment → Fragment
fragment_in f = fragment_of f.ordinal f.count (mate_in f.first) (mate_in f.second)

-- the state that numbers stand for, with counters
abbrev pub held_in : List ℕ → Counters → Held
held_in ns k = record { state = state_in ns; counters = k }

-- ---- 26, where these fail

-- room for a state, and settings that there are
abbrev pub open_right : ℕ → ℕ → List ℕ → Bool
open_right mode remap ns = eqb (length ns) state_length && is_mark mode && is_mark remap

-- room for two rows, reads that there are, and a state
abbrev pub fragment_right : CodedFragment → List ℕ → List ℕ → Bool
fragment_right f ns answer = leb 16 (length answer) && codes_right f.first && codes_right f.second && is_state ns

-- room for a sheet, and a state
abbrev pub finish_right : List ℕ → List ℕ → Bool
finish_right ns answer = leb finish_length (length answer) && is_state ns

-- ---- 26, and everything as it was

-- the state and the counters, where an audit was to be opened
pub record OpenUntouched (k : Counters) (ns : List ℕ) (r : ℕ) (k' : Counters) (ns' : List ℕ) : Type 0 where
  pub number : r ≡ 26
  pub state : ns' ≡ ns
  pub counters : k' ≡ k

-- the state, the counters, the rows and the entries, where a fragment or many were to be audited
pub record AuditUntouched (k : Counters) (ns rows entries : List ℕ) (r : ℕ) (k' : Counters) (ns' rows' entries' : List ℕ) : Type 0 where
  pub number : r ≡ 26
  pub state : ns' ≡ ns
  pub counters : k' ≡ k
  pub told : rows' ≡ rows
  pub left : entries' ≡ entries

-- the answer, where an audit was to be finished
pub record FinishUntouched (answer : List ℕ) (r : ℕ) (answer' : List ℕ) : Type 0 where
  pub number : r ≡ 26
  pub told : answer' ≡ answer

-- the rows, where a sheet was to be applied
pub record ApplyUntouched (rows : List ℕ) (r : ℕ) (rows' : List ℕ) : Type 0 where
  pub number : r ≡ 26
  pub left : rows' ≡ rows

-- ---- the call of the same name, with what it leaves as numbers

module _ (c : Catalogue) (lent : IndexLent) where
  -- an audit opened
  pub record OpensIn (s : Settings) (k : Counters) (r : ℕ) (k' : Counters) (ns' : List ℕ) : Type 0 where
    pub number : r ≡ opening_refusal audit_seed audit_offset c lent s k
    pub state : ns' ≡ state_numbers (opening_held audit_seed audit_offset c lent s k).state
    pub counters : k' ≡ (opening_held audit_seed audit_offset c lent s k).counters

  -- a fragment audited; a refusal stands in both rows
  pub record AuditsIn (h : Held) (f : Fragment) (answer entries : List ℕ) (r : ℕ) (k' : Counters) (ns' answer' entries' : List ℕ) : Type 0 where
    pub number : r ≡ fragment_refusal audit_seed audit_offset c lent h f (entry_count entries)
    pub state : ns' ≡ state_numbers (fragment_held audit_seed audit_offset c lent h f (entry_count entries)).state
    pub counters : k' ≡ (fragment_held audit_seed audit_offset c lent h f (entry_count entries)).counters
    pub told : answer' ≡ placed 0 (outcome_rows 2 (fragment_answer audit_seed audit_offset c lent h f (entry_count entries))) answer
    pub left : entries' ≡ fragment_entries audit_seed audit_offset c lent h f entries

  -- many fragments audited
  pub record AuditsListIn (h : Held) (l : FragmentLists) (rows entries : List ℕ) (r : ℕ) (k' : Counters) (ns' rows' entries' : List ℕ) : Type 0 where
    pub number : r ≡ list_refusal audit_seed audit_offset c lent h l rows
    pub state : ns' ≡ state_numbers (list_held audit_seed audit_offset c lent h l rows entries).state
    pub counters : k' ≡ (list_held audit_seed audit_offset c lent h l rows entries).counters
    pub told : rows' ≡ list_rows audit_seed audit_offset c lent h l rows entries
    pub left : entries' ≡ list_entries audit_seed audit_offset c lent h l rows entries

  -- an audit finished
  pub record FinishesIn (h : Held) (answer : List ℕ) (r : ℕ) (answer' : List ℕ) : Type 0 where
    pub number : r ≡ finish_refusal audit_seed audit_offset c lent h
    pub told : answer' ≡ placed 0 (finish_numbers (finish_answer audit_seed audit_offset c lent h)) answer

-- a sheet applied
pub record AppliesIn (audited c : Catalogue) (s : Sheet) (k : Counters) (rows : List ℕ) (r : ℕ) (rows' : List ℕ) : Type 0 where
  pub number : r ≡ apply_refusal audited c s k rows
  pub left : rows' ≡ applied audited c s k rows

-- ---- the calls on numbers: the call on what they stand for, or 26

module _ (c : Catalogue) (lent : IndexLent) (k : Counters) where
  -- an audit opened, with the settings of these numbers
  unfoldable pub OpensNumbers : ℕ → ℕ → ℕ → ℕ → List ℕ → ℕ → Counters → List ℕ → Type 0
  OpensNumbers mode remap floor limit ns r k' ns' =
      IfRight (open_right mode remap ns) (OpensIn c lent (coded_settings mode remap floor limit) k r k' ns') (OpenUntouched k ns r k' ns')

  -- a fragment audited, on the state of these numbers
  unfoldable pub AuditsNumbers : CodedFragment → List ℕ → List ℕ → List ℕ → ℕ → Counters → List ℕ → List ℕ → List ℕ → Type 0
  AuditsNumbers f ns answer entries r k' ns' answer' entries' =
      IfRight (fragment_right f ns answer) (AuditsIn c lent (held_in ns k) (fragment_in f) answer entries r k' ns' answer' entries')
      (AuditUntouched k ns answer entries r k' ns' answer' entries')

  -- many fragments audited, on the state of these numbers
  unfoldable pub AuditsListNumbers : FragmentLists → List ℕ → List ℕ → List ℕ → ℕ → Counters → List ℕ → List ℕ → List ℕ → Type 0
  AuditsListNumbers l ns rows entries r k' ns' rows' entries' =
      IfRight (is_state ns) (AuditsListIn c lent (held_in ns k) l rows entries r k' ns' rows' entries') (AuditUntouched k ns rows entries r k' ns' rows' entries')

  -- an audit finished, on the state of these numbers
  unfoldable pub FinishesNumbers : List ℕ → List ℕ → ℕ → List ℕ → Type 0
  FinishesNumbers ns answer r answer' = IfRight (finish_right ns answer) (FinishesIn c lent (held_in ns k) answer r answer') (FinishUntouched answer r answer')

-- a sheet applied, that of these numbers, as `finish` wrote it
unfoldable pub AppliesNumbers : Catalogue → Catalogue → Counters → List ℕ → List ℕ → ℕ → List ℕ → Type 0
AppliesNumbers audited c k ns rows r rows' = IfRight (is_sheet ns) (AppliesIn audited c (sheet_in ns) k rows r rows') (ApplyUntouched rows r rows')
