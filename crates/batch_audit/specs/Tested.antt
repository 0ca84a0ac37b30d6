-- Many fragments in a catalogue that was tested: refusal 25, or all audited (REFERENCE.md, "Many fragments").
use Rattle.std.specs.Prelude.{◌≡◌, List, ℕ, ◌*◌, length}
use Rattle.promises.specs.Refusal.{unless, outcome}
use Rattle.map_by_index.specs.Work.{Way}
use Rattle.audit_ledger.specs.Booking.{Counters}
use Rattle.audit_model.specs.Settings.{Held}
use Rattle.audit_model.specs.Opening.{IndexLent}
use Rattle.audit_model.specs.Calls.{call_outcome}
use Rattle.batch_lists.specs.declared.FragmentsAudit.{FragmentsAudit}
use Rattle.batch_lists.specs.Lists.{FragmentLists, fragments_in, lists_fit}
use Rattle.batch_lists.specs.Listed.{share_width, calls_of}
use Rattle.batch_fragments.specs.Listed.{ListAudited}

module _ (offset : ℕ) (ss : List (List ℕ)) (way : Way) (ranked : List ℕ) (lent : IndexLent) (h : Held) (l : FragmentLists) where
  abbrev pub fit_refusal : List ℕ → ℕ
  fit_refusal rows = unless (lists_fit l (length rows)) 25

  abbrev width : List ℕ → ℕ
  width entries = share_width entries (length l.ordinals)

  -- refused with nothing touched, or the whole list audited
  pub record TestedList (r : FragmentsAudit) (k' : Counters) (rows entries rows' entries' : List ℕ) : Type 0 where
    pub answer : call_outcome r.answer ≡ outcome (fit_refusal rows) tt
    pub untouched : (fit_refusal rows ≡ 0 → ⊥) → (record { state = r.state; counters = k' } ≡ h) × (rows' ≡ rows) × (entries' ≡ entries)
    pub audited :
        fit_refusal rows ≡ 0
        → ListAudited offset ss way ranked h (calls_of lent (width entries) entries (fragments_in l)) (width entries * length l.ordinals) r.state k' rows' entries entries'
