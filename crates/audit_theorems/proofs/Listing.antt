-- What an accepted fragment answers and books of each read.
use mathlib.Core.Path.{◌≡◌, refl, sym, ap, subst, ◌∙◌}
use mathlib.Core.List.{List, [], ◌∷◌, map, map-map}
use Prim.Native.Nat.{ℕ, zero, suc, ◌*◌}
use native.Mathlib.Nat.{mul-zero, mul-suc}
use Rattle.lists.specs.Cut.{window}
use Rattle.promises.specs.Refusal.{refused, accepted, if_passed}
use Rattle.promises.proofs.Refusing.{outcome_accepted, outcome_number}
use Rattle.catalogue.specs.Catalogue.{Catalogue, Valid, supplied_places}
use Rattle.buffers.specs.Placed.{placed}
use Rattle.index_model.specs.Index.{mapped_sequences}
use Rattle.map_every_start.specs.Entries.{entry_count, cleared}
use Rattle.map_by_index.specs.Work.{Way, work_by}
use Rattle.map_answers.specs.Answer.{Row}
use Rattle.indexed_mapper.proofs.Laws.{row_lists}
use Rattle.audit_model.specs.declared.settings.Settings.{Settings}
use Rattle.audit_model.specs.Settings.{Held}
use Rattle.audit_model.specs.Opening.{way_of}
use Rattle.audit_model.specs.Observing.{MateRead, mate_booked, observe, observed_entries, observed_row}
use Rattle.audit_model.specs.Fragment.{share_of, entries_left, fragment_refusal, fragment_booked, fragment_written}
use Rattle.audit_model.specs.Run.{Call, answer_to, next, books, answers}
use Rattle.audit_model.proofs.Opening.{opening_passed}
use Rattle.audit_model.proofs.Checking.{Checked, fragment_checked}
use Rattle.audit_model.proofs.Parts.{InParts, reads_in_parts}
use Rattle.lists.specs.Each.{Each, no_more, both}
use Rattle.audit_theorems.specs.Meaning.{ReadMeans, Told, ReadsMean, CallsMean, no_call, a_call}
use Rattle.audit_theorems.proofs.Accepting.{accepted_when}
use Rattle.audit_theorems.proofs.Booking.{mate_bookable}
use Rattle.map_search.proofs.Listed.{none_listed}

-- a read whose listed groups stand at the front of its part
read_means : (offset : ℕ) (s : Settings) (c : Catalogue) → Valid c → (way : Way) (r : MateRead) (part part' : List ℕ)
    → part' ≡ placed 0 (observed_entries s (mapped_sequences c) (supplied_places c) (observe offset s r)) (cleared part)
    → ReadMeans offset s c r (observed_row s (mapped_sequences c) way (observe offset s r)) (mate_booked offset s (mapped_sequences c) r) part part'
read_means offset s c right way r part part' e =
    record {
      bookable = mate_bookable c offset s r;
      role = refl;
      state = refl;
      groups = refl;
      entries = e;
      unsearched = λ off. rw (off, none_listed s.limit);
      searched = λ on. rw on (row_lists c right r.read.bases s.limit (work_by way (mapped_sequences c) r.read.bases s.limit) part part' (rw on at e));
    }

module _ (q offset : ℕ) (c : Catalogue) (h : Held) (x : Call) (rows : List Row) (told : (answer_to q offset c h x).rows ≡ accepted rows) where
  abbrev s : Settings
  s = h.state.settings

  abbrev refusal : ℕ
  refusal = fragment_refusal q offset c x.lent h x.fragment (entry_count x.entries)

  abbrev width : ℕ
  width = 4 * share_of s.mode (entry_count x.entries)

  answered : (refusal ≡ 0) × (map (λ (r : MateRead). observed_row s (mapped_sequences c) (way_of q x.lent) (observe offset s r)) x.fragment.reads ≡ rows)
  answered = outcome_accepted refusal _ rows told

  -- what its checks have shown
  checked : Checked q offset c x.lent h x.fragment (entry_count x.entries)
  checked = fragment_checked q offset c x.lent h x.fragment (entry_count x.entries) answered.0

  in_parts : InParts cleared width 0 (map (λ (r : MateRead). observed_entries s (mapped_sequences c) (supplied_places c) (observe offset s r)) x.fragment.reads) x.entries (answer_to q offset c h x).entries
  in_parts =
      subst (λ n. InParts cleared width 0 (map (λ (r : MateRead). observed_entries s (mapped_sequences c) (supplied_places c) (observe offset s r)) x.fragment.reads) x.entries (entries_left n (fragment_written offset c h x.fragment x.entries) x.entries))
      (sym answered.0) (reads_in_parts offset s (mapped_sequences c) (supplied_places c) x.fragment.reads x.entries checked.own.roles checked.own.rooms)

  -- a read's row, and what is booked of it
  abbrev told_of : MateRead → Told
  told_of r = record { row = observed_row s (mapped_sequences c) (way_of q x.lent) (observe offset s r); booked = mate_booked offset s (mapped_sequences c) r }

  -- each read from the place i on
  reads_mean : (reads : List MateRead) (i : ℕ) → InParts cleared width (width * i) (map (λ (r : MateRead). observed_entries s (mapped_sequences c) (supplied_places c) (observe offset s r)) reads) x.entries (answer_to q offset c h x).entries
      → Each (λ i (r : MateRead) (t : Told). ReadMeans offset s c r t.row t.booked (window x.entries (width * i) width) (window (answer_to q offset c h x).entries (width * i) width)) i reads (map told_of reads)
  reads_mean [] i p = no_more i
  reads_mean (r ∷ reads) i p =
      both i r (told_of r) reads (map told_of reads)
      (read_means offset s c (opening_passed q offset c x.lent s h.counters checked.opening).catalogue (way_of q x.lent) r _ _ p.0)
      (reads_mean reads (suc i) (rw (mul-suc width i) p.1))

  -- what is booked of an accepted one
  books_are : fragment_booked offset c h x.fragment ≡ books q offset c h x
  books_are = ap (λ n. if_passed n (fragment_booked offset c h x.fragment) []) (sym answered.0)

  fragment_means : ReadsMean offset s c width x.fragment.reads rows (books q offset c h x) x.entries (answer_to q offset c h x).entries
  fragment_means =
      record {
        told = map told_of x.fragment.reads;
        rows_are = map-map (λ (t : Told). t.row) told_of x.fragment.reads ∙ answered.1;
        booked_are = map-map (λ (t : Told). t.booked) told_of x.fragment.reads ∙ books_are;
        each = reads_mean x.fragment.reads 0 (rw (mul-zero width) in_parts);
      }

-- a refused call books nothing
refused_books : (q offset : ℕ) (c : Catalogue) (h : Held) (x : Call) (n : ℕ) → (answer_to q offset c h x).rows ≡ refused n → books q offset c h x ≡ []
refused_books q offset c h x n told =
    let e = outcome_number (fragment_refusal q offset c x.lent h x.fragment (entry_count x.entries)) n _ told in
    rw e.0 (go n e.1)
  where
    go : (m : ℕ) → (m ≡ 0 → ⊥) → if_passed m (fragment_booked offset c h x.fragment) [] ≡ []
    go zero ne = absurd (ne refl)
    go (suc m) ne = refl

-- each call of a list
pub calls_mean : (q offset : ℕ) (c : Catalogue) (h : Held) (xs : List Call) → CallsMean q offset c h xs (answers q offset c h xs)
calls_mean q offset c h [] = no_call h
calls_mean q offset c h (x ∷ xs) =
    a_call h x (answer_to q offset c h x) xs (answers q offset c (next q offset c h x) xs)
    (record { when = accepted_when q offset c h x; accepts = fragment_means q offset c h x; refuses = refused_books q offset c h x })
    (calls_mean q offset c (next q offset c h x) xs)
