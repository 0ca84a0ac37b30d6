-- The fragments of a list audited one after the other, in a catalogue that was tested (REFERENCE.md, "Many fragments").
use Rattle.std.specs.Prelude.{◌≡◌, List, [], ◌∷◌, ◌++◌, ℕ, ◌*◌, ◌≤◌, length, drop}
use Rattle.lists.specs.Sum.{sum}
use Rattle.promises.specs.Refusal.{outcome, if_passed}
use Rattle.identifiers.specs.Lent.{EndsRight}
use Rattle.buffers.specs.Placed.{placed}
use Rattle.map_every_start.specs.Entries.{entry_count}
use Rattle.map_by_index.specs.Work.{Way}
use Rattle.audit_ledger.specs.Booking.{Counters}
use Rattle.audit_model.specs.declared.settings.AuditState.{AuditState}
use Rattle.audit_model.specs.Settings.{Held}
use Rattle.audit_model.specs.Opening.{IndexLent}
use Rattle.audit_model.specs.Fragment.{entries_left, tested_refusal, tested_rows, tested_accepted, tested_written}
use Rattle.audit_model.specs.Run.{Call, Answer}
use Rattle.batch_lists.specs.Lists.{ReadLists, FragmentLists, reads_from}
use Rattle.batch_lists.specs.Listed.{outcome_rows, all_rows, all_shares}

-- reads whose ends are right
pub record ReadsLent (l : ReadLists) : Type 0 where
  pub bases_right : EndsRight l.bases l.base_ends
  pub qualities_right : EndsRight l.qualities l.quality_ends

-- a count for each fragment, a row for each read, and `width` numbers of the entries for each fragment
pub record ListsLent (l : FragmentLists) (width : ℕ) (rows entries : List ℕ) : Type 0 where
  pub reads_lent : ReadsLent l.reads
  pub counted : length l.counts ≡ length l.ordinals
  pub rows-lent : length rows ≡ 8 * sum l.counts
  pub shared : width * length l.ordinals ≤ length entries

-- the call of a fragment of n reads from a place on, with its share
abbrev pub call_at : IndexLent → ReadLists → ℕ → ℕ → ℕ → List ℕ → Call
call_at lent l ordinal at n share = record { lent = lent; fragment = record { ordinal = ordinal; reads = reads_from l at n }; entries = share }

module _ (offset : ℕ) (ss : List (List ℕ)) (way : Way) (ranked : List ℕ) where
  -- ---- one call

  abbrev pub tested_answer : Held → Call → Answer
  tested_answer h x =
      let refusal : ℕ = tested_refusal offset ss ranked h x.fragment (entry_count x.entries) in
      record {
        rows = outcome refusal (tested_rows offset ss ranked h x.fragment way);
        entries = entries_left refusal (tested_written offset ss ranked h x.fragment x.entries) x.entries;
      }

  abbrev pub tested_next : Held → Call → Held
  tested_next h x = if_passed (tested_refusal offset ss ranked h x.fragment (entry_count x.entries)) (tested_accepted offset ss ranked h x.fragment) h

  -- ---- calls one after the other

  abbrev pub tested_answers : Held → List Call → List Answer
  tested_answers h [] = []
  tested_answers h (x ∷ xs) = tested_answer h x ∷ tested_answers (tested_next h x) xs

  abbrev pub tested_after : Held → List Call → Held
  tested_after h [] = h
  tested_after h (x ∷ xs) = tested_after (tested_next h x) xs

  -- ---- what the functions promise

  -- one fragment, with its share from a place of the entries on, and its first row at a place
  pub record FragmentListed (h : Held) (x : Call) (from at : ℕ) (state : AuditState) (k' : Counters) (rows entries rows' entries' : List ℕ) : Type 0 where
    pub held : record { state = state; counters = k' } ≡ tested_next h x
    pub told : rows' ≡ placed (8 * at) (outcome_rows (length x.fragment.reads) (tested_answer h x).rows) rows
    pub left : entries' ≡ placed from (tested_answer h x).entries entries

  -- the whole list; nothing behind the shares is touched
  pub record ListAudited (h : Held) (xs : List Call) (shares : ℕ) (state : AuditState) (k' : Counters) (rows' entries entries' : List ℕ) : Type 0 where
    pub held : record { state = state; counters = k' } ≡ tested_after h xs
    pub told : rows' ≡ all_rows xs (tested_answers h xs)
    pub left : entries' ≡ all_shares (tested_answers h xs) ++ drop shares entries
