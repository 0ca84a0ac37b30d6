-- Many fragments audited in one call (REFERENCE.md, "Many fragments").
use Rattle.std.specs.Prelude.{◌≡◌, List, [], ◌∷◌, ◌++◌, ℕ, zero, suc, ◌*◌, ◌/◌, length, take, drop}
use Rattle.promises.specs.Refusal.{unless, ◌or_else◌, Outcome, refused, accepted, outcome, if_passed}
use Rattle.catalogue.specs.Catalogue.{Catalogue}
use Rattle.map_every_start.specs.Entries.{entry_count}
use Rattle.map_answers.specs.Answer.{Row}
use Rattle.batch_rows.specs.Rows.{row_numbers}
use Rattle.audit_ledger.specs.Booking.{Counters}
use Rattle.audit_model.specs.Settings.{Held}
use Rattle.audit_model.specs.Opening.{IndexLent, opening_refusal}
use Rattle.audit_model.specs.Fragment.{Fragment}
use Rattle.audit_model.specs.Run.{Call, Answer, answers, after}
use Rattle.audit_model.specs.Calls.{call_outcome}
use Rattle.batch_lists.specs.Lists.{FragmentLists, fragments_in, lists_fit}
use Rattle.batch_lists.specs.declared.FragmentsAudit.{FragmentsAudit}

-- ---- the single calls, and what they answer

-- the numbers of each fragment's share: as many whole entries as each of n fragments can have
abbrev pub share_width : List ℕ → ℕ → ℕ
share_width entries n = 4 * (entry_count entries / n)

-- a call for each fragment, with its share of the entries
abbrev pub calls_of : IndexLent → ℕ → List ℕ → List Fragment → List Call
calls_of lent width entries [] = []
calls_of lent width entries (f ∷ fs) = record { lent = lent; fragment = f; entries = take width entries } ∷ calls_of lent width (drop width entries) fs

-- the rows of reads
abbrev pub rows_in : List Row → List ℕ
rows_in [] = []
rows_in (r ∷ rs) = row_numbers (accepted r) ++ rows_in rs

-- the refusal of a fragment as the row of each of its reads
abbrev pub refused_rows : ℕ → ℕ → List ℕ
refused_rows number zero = []
refused_rows number (suc n) = row_numbers (refused number) ++ refused_rows number n

-- the rows of a fragment of n reads
abbrev pub outcome_rows : ℕ → Outcome (List Row) → List ℕ
outcome_rows n (refused number) = refused_rows number n
outcome_rows n (accepted rs) = rows_in rs

-- the rows of all fragments
abbrev pub all_rows : List Call → List Answer → List ℕ
all_rows [] given = []
all_rows (x ∷ xs) [] = []
all_rows (x ∷ xs) (a ∷ given) = outcome_rows (length x.fragment.reads) a.rows ++ all_rows xs given

-- the shares that they leave
abbrev pub all_shares : List Answer → List ℕ
all_shares [] = []
all_shares (a ∷ given) = a.entries ++ all_shares given

-- ---- the call

module _ (q offset : ℕ) (c : Catalogue) (lent : IndexLent) (h : Held) (l : FragmentLists) where
  -- the opening's checks, then 25
  unfoldable pub list_refusal : List ℕ → ℕ
  list_refusal rows = opening_refusal q offset c lent h.state.settings h.counters or_else unless (lists_fit l (length rows)) 25

  abbrev pub list_width : List ℕ → ℕ
  list_width entries = share_width entries (length l.ordinals)

  -- the single calls that it stands for
  abbrev pub list_calls : List ℕ → List Call
  list_calls entries = calls_of lent (list_width entries) entries (fragments_in l)

  abbrev pub list_answers : List ℕ → List Answer
  list_answers entries = answers q offset c h (list_calls entries)

  -- state and counters, rows, and entries behind it: what the single calls give one after the other; nothing behind the shares is touched;
  -- a refusal writes nothing
  abbrev pub list_held : List ℕ → List ℕ → Held
  list_held rows entries = if_passed (list_refusal rows) (after q offset c h (list_calls entries)) h

  abbrev pub list_rows : List ℕ → List ℕ → List ℕ
  list_rows rows entries = if_passed (list_refusal rows) (all_rows (list_calls entries) (list_answers entries)) rows

  abbrev pub list_entries : List ℕ → List ℕ → List ℕ
  list_entries rows entries = if_passed (list_refusal rows) (all_shares (list_answers entries) ++ drop (list_width entries * length l.ordinals) entries) entries

  -- the call
  pub record AuditsList (r : FragmentsAudit) (k' : Counters) (rows entries rows' entries' : List ℕ) : Type 0 where
    pub answer : call_outcome r.answer ≡ outcome (list_refusal rows) tt
    pub held : record { state = r.state; counters = k' } ≡ list_held rows entries
    pub told : rows' ≡ list_rows rows entries
    pub left : entries' ≡ list_entries rows entries
