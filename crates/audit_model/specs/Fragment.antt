-- A fragment: its refusals, its rows, and what it leaves (REFERENCE.md, "Fragment").
use Rattle.std.specs.Prelude.{Bool, true, cond, ◌||◌, List, [], ◌∷◌, map, ℕ, ◌+◌, ◌*◌, ◌/◌, eqb, ltb, Option, Some, None}
use Rattle.lists.specs.Same.{same}
use Rattle.promises.specs.Refusal.{unless, ◌or_else◌, Outcome, outcome, if_passed}
use Rattle.catalogue.specs.Catalogue.{Catalogue, supplied_places}
use Rattle.buffers.specs.Placed.{placed}
use Rattle.index_model.specs.Index.{mapped_sequences}
use Rattle.map_every_start.specs.Entries.{entry_count, cleared}
use Rattle.map_by_index.specs.Work.{Way}
use Rattle.map_answers.specs.Answer.{Row}
use Rattle.audit_ledger.specs.Booking.{Booked, Books, booked_all, countable}
use Rattle.audit_model.specs.declared.settings.AuditInputMode.{AuditInputMode}
use Rattle.audit_model.specs.declared.settings.AuditInputMode.TheVariants as modes
use Rattle.audit_model.specs.declared.settings.Settings.{Settings}
use Rattle.audit_model.specs.Settings.{Held, held_books, role_number, roles_of}
use Rattle.audit_model.specs.Opening.{IndexLent, way_of, opening_refusal}
use Rattle.audit_model.specs.Observing.{MateRead, mate_refusal, mate_booked, observe, observed_room, observed_entries, observed_row}

pub record Fragment : Type 0 where
  pub ordinal : ℕ
  pub reads : List MateRead

-- ---- its own checks

-- 12 where this fails: the ordinal is above the last accepted one
abbrev pub in_order : Option ℕ → ℕ → Bool
in_order None ordinal = true
in_order (Some last) ordinal = ltb last ordinal

-- 13 where this fails: exactly S, or R1 then R2, by mode
abbrev pub roles_right : AuditInputMode → List MateRead → Bool
roles_right mode reads = same (map (λ (r : MateRead). role_number r.role) reads) (roles_of mode)

-- the first refusal of some reads, each by a check
abbrev pub first_refusal : {A : Type 0} → (A → ℕ) → List A → ℕ
first_refusal check [] = 0
first_refusal check (r ∷ rs) = check r or_else first_refusal check rs

-- ---- the entries of each read

-- how many each gets: all, or half of them where there are two
abbrev pub share_of : AuditInputMode → ℕ → ℕ
share_of modes.SingleEnd entries = entries
share_of modes.PairedEnd entries = entries / 2

-- lists put into parts of a buffer, each part as many numbers behind the one before, the first at `from`
abbrev pub in_parts : ℕ → ℕ → List (List ℕ) → List ℕ → List ℕ
in_parts width from [] buffer = buffer
in_parts width from (l ∷ ls) buffer = in_parts width (from + width) ls (placed from l buffer)

-- 10 and 17 set all entries to zero, other refusals touch nothing
abbrev pub entries_left : ℕ → List ℕ → List ℕ → List ℕ
entries_left n written buffer = if_passed n written (cond (eqb n 10 || eqb n 17) (cleared buffer) buffer)

-- ---- a fragment in a catalogue that was tested: sequences by rank, and the supplied place of each

module _ (offset : ℕ) (ss : List (List ℕ)) (ranked : List ℕ) (h : Held) (f : Fragment) where
  abbrev settings : Settings
  settings = h.state.settings

  -- what is booked of its reads
  abbrev pub tested_booked : List Booked
  tested_booked = map (mate_booked offset settings ss) f.reads

  -- the books with its reads
  abbrev pub tested_books : Books
  tested_books = booked_all ranked tested_booked (held_books h)

  -- 12; 13; 7 and 14 to 16 of each read in turn; 10 of each read; 17: the first that holds
  unfoldable pub tested_refusal : ℕ → ℕ
  tested_refusal entries =
      unless (in_order h.state.last f.ordinal) 12
      or_else unless (roles_right settings.mode f.reads) 13
      or_else first_refusal (mate_refusal offset settings) f.reads
      or_else first_refusal (λ (r : MateRead). observed_room settings ss (share_of settings.mode entries) (observe offset settings r)) f.reads
      or_else unless (countable tested_books) 17

  -- a row for each read, searched in some way
  abbrev pub tested_rows : Way → List Row
  tested_rows way = map (λ (r : MateRead). observed_row settings ss way (observe offset settings r)) f.reads

  -- accepted, its ordinal is the last, and its reads are booked
  abbrev pub tested_accepted : Held
  tested_accepted =
      record {
        state = record { settings = settings; last = Some f.ordinal; ledger = tested_books.ledger };
        counters = tested_books.counters;
      }

  -- the entries of an accepted fragment: the listed groups of each read at the front of its part, and zero behind them
  abbrev pub tested_written : List ℕ → List ℕ
  tested_written buffer =
      in_parts (4 * share_of settings.mode (entry_count buffer)) 0
      (map (λ (r : MateRead). observed_entries settings ss ranked (observe offset settings r)) f.reads) (cleared buffer)

-- ---- the call, of an audit with seeds of q bases and qualities from an offset on

-- what an accepted one books, leaves and writes does not depend on the index
module _ (offset : ℕ) (c : Catalogue) (h : Held) (f : Fragment) where
  abbrev pub fragment_booked : List Booked
  fragment_booked = tested_booked offset (mapped_sequences c) (supplied_places c) h f

  abbrev pub fragment_books : Books
  fragment_books = tested_books offset (mapped_sequences c) (supplied_places c) h f

  abbrev pub fragment_accepted : Held
  fragment_accepted = tested_accepted offset (mapped_sequences c) (supplied_places c) h f

  abbrev pub fragment_written : List ℕ → List ℕ
  fragment_written = tested_written offset (mapped_sequences c) (supplied_places c) h f

module _ (q offset : ℕ) (c : Catalogue) (lent : IndexLent) (h : Held) (f : Fragment) where
  -- the opening's checks, then its own: the first that holds
  unfoldable pub fragment_refusal : ℕ → ℕ
  fragment_refusal entries =
      opening_refusal q offset c lent h.state.settings h.counters
      or_else tested_refusal offset (mapped_sequences c) (supplied_places c) h f entries

  abbrev pub fragment_rows : List Row
  fragment_rows = tested_rows offset (mapped_sequences c) (supplied_places c) h f (way_of q lent)

  -- the answer: a row for each read
  abbrev pub fragment_answer : ℕ → Outcome (List Row)
  fragment_answer entries = outcome (fragment_refusal entries) fragment_rows

  -- a refusal leaves state and counters as they were
  abbrev pub fragment_held : ℕ → Held
  fragment_held entries = if_passed (fragment_refusal entries) (fragment_accepted offset c h f) h

  abbrev pub fragment_entries : List ℕ → List ℕ
  fragment_entries buffer = entries_left (fragment_refusal (entry_count buffer)) (fragment_written offset c h f buffer) buffer
