-- What a step of a job that was opened does: a fragment, or the end.
use Rattle.std.specs.Prelude.{Result, Ok, Err}
use Rattle.promises.specs.declared.refusal.Refusal.{Refusal}
use mathlib.Core.Path.{◌≡◌, sym, ap, ap₂, subst, subst₂, ◌∙◌}
use mathlib.Core.List.{List, [], ◌∷◌, ◌++◌, map, append-nil}
use Prim.Native.Nat.{ℕ, zero, suc, ◌+◌, ◌*◌, ◌≤◌}
use native.Mathlib.Omega.{arith}
use lib.ListN.{length, drop}
use Rattle.promises.specs.Refusal.{refusal_number, Outcome, refused, accepted, if_passed}
use Rattle.promises.proofs.Refusing.{outcome_accepted, outcome_number}
use Rattle.catalogue.specs.Catalogue.{Catalogue, names, supplied_places}
use Rattle.index_model.specs.Index.{mapped_sequences}
use Rattle.buffers.specs.Placed.{placed}
use Rattle.map_by_index.specs.Work.{Way}
use Rattle.lists.specs.Cut.{window}
use Rattle.map_every_start.specs.Entries.{entry_count, cleared}
use Rattle.map_answers.specs.Answer.{Row}
use Rattle.audit_ledger.specs.Booking.{Counters}
use Rattle.audit_model.specs.declared.calls.FragmentRows.{FragmentRows}
use Rattle.audit_model.specs.declared.calls.FragmentRows.TheVariants as fragments
use Rattle.audit_model.specs.declared.calls.FragmentAudit.{FragmentAudit}
use Rattle.audit_model.specs.declared.settings.Settings.{Settings}
use Rattle.audit_model.specs.Opening.{way_of}
use Rattle.audit_model.specs.Settings.{Held, audit_seed, audit_offset, role_number}
use Rattle.audit_model.specs.Observing.{MateRead, observe, observed_listed, observed_entries, observed_row}
use Rattle.audit_model.specs.Fragment.{Fragment, share_of, entries_left, fragment_refusal, fragment_accepted, fragment_written}
use Rattle.audit_model.specs.Calls.{fragment_outcome, mapping_row, fragment_reads, Audits}
use Rattle.audit_model.proofs.Booked.{refused_holds}
use Rattle.audit_model.proofs.Parts.{Short, InParts, entries_short, reads_in_parts}
use Rattle.audit_model.proofs.Checking.{fragment_checked}
use Rattle.catch_commands.specs.Commands.{fragment_in}
use Rattle.catch_commands.specs.Telling.{Read}
use Rattle.catch_lines.specs.Lines.{read_line, refusal_line}
use Rattle.catch_sheet_lines.specs.Sheets.{read_lines, fragment_lines}
use Rattle.catch_sheet_lines.specs.Lent.{read_told}
use Rattle.catch_sheet_lines.proofs.Grouping.{part_lines}
use Rattle.catch_fragment_lines.specs.Answer.{answer_lines}
use Rattle.catch_fragments.specs.declared.FragmentHead.{FragmentHead}
use Rattle.catch_model.specs.Job.{lent_of, stream_entries, running}
use Rattle.catch_model.specs.Feeding.{Goes, Ends}
use Rattle.catch_model.proofs.Steps.{lines_of, fragment_accepted_lem, fragment_refused}
use Rattle.catch_fragment.specs.Told.{fragment_at}
use Rattle.catch_run.specs.Running.{Passes, Runs}
use Rattle.catch_run.proofs.Passing.{accepted_passes}

-- ---- the lines of an accepted fragment

-- the rows of an outcome
abbrev rows_in : Outcome (List Row) → List Row
rows_in (refused n) = []
rows_in (accepted rows) = rows

abbrev first_or : Row → List Row → Row
first_or d [] = d
first_or d (x ∷ xs) = x

abbrev others : List Row → List Row
others [] = []
others (x ∷ xs) = xs

module _ (offset : ℕ) (c : Catalogue) (s : Settings) (way : Way) (ordinal width : ℕ) (before entries : List ℕ) where
  abbrev ns : List (List ℕ)
  ns = names c

  abbrev row_of : MateRead → Row
  row_of r = observed_row s (mapped_sequences c) way (observe offset s r)

  abbrev entries_in : MateRead → List ℕ
  entries_in r = observed_entries s (mapped_sequences c) (supplied_places c) (observe offset s r)

  -- the lines of a read whose groups stand at the front of its part
  read_lines_lem : (m : MateRead) (from : ℕ) → length (entries_in m) ≤ width → window entries from width ≡ placed 0 (entries_in m) (cleared (window before from width))
      → read_told ns ordinal (role_number m.role) (row_of m) (drop from entries) ≡ read_lines offset c s way ordinal m
  read_lines_lem m from fits part =
      ap (λ l. read_line ordinal (role_number m.role) (row_of m) ++ l)
      (part_lines ns (supplied_places c) (length m.read.bases) (observed_listed s (mapped_sequences c) (observe offset s m)) width (drop from entries) _ part)

  -- the lines of an answer are those of the reads that it answers for
  accepted_lines : (first second : MateRead) (count : ℕ) (answer : Result FragmentRows Refusal) → fragment_outcome answer ≡ accepted (map row_of (fragment_reads count first second))
      → Short width (map entries_in (fragment_reads count first second)) → InParts cleared width 0 (map entries_in (fragment_reads count first second)) before entries
      → answer_lines ns ordinal (role_number first.role) (role_number second.role) width answer entries ≡ fragment_lines offset c s way ordinal (fragment_reads count first second)
  accepted_lines first second count (Err n) e fits parts = absurd (let z : ◌≡◌ {A = ℕ} 0 1 = cc in omega arith)
  accepted_lines first second zero (Ok (fragments.Single m)) e fits parts = absurd (let z = ap (λ o. length (rows_in o)) e in omega arith)
  accepted_lines first second (suc zero) (Ok (fragments.Single m)) e fits parts =
      ap (λ r. read_told ns ordinal (role_number first.role) r entries) (ap (λ o. first_or (mapping_row m) (rows_in o)) e) ∙ read_lines_lem first 0 fits.0 parts.0 ∙ sym (append-nil _)
  accepted_lines first second (suc (suc n)) (Ok (fragments.Single m)) e fits parts = absurd (let z = ap (λ o. length (rows_in o)) e in omega arith)
  accepted_lines first second zero (Ok (fragments.Paired m)) e fits parts = absurd (let z = ap (λ o. length (rows_in o)) e in omega arith)
  accepted_lines first second (suc zero) (Ok (fragments.Paired m)) e fits parts = absurd (let z = ap (λ o. length (rows_in o)) e in omega arith)
  accepted_lines first second (suc (suc zero)) (Ok (fragments.Paired m)) e fits parts =
      let behind : 0 + width ≡ width = omega arith in
      ap₂ (λ a b. a ++ b)
      (ap (λ r. read_told ns ordinal (role_number first.role) r entries) (ap (λ o. first_or (mapping_row m.first) (rows_in o)) e) ∙ read_lines_lem first 0 fits.0 parts.0)
      (ap (λ r. read_told ns ordinal (role_number second.role) r (drop width entries)) (ap (λ o. first_or (mapping_row m.second) (others (rows_in o))) e) ∙ read_lines_lem second width fits.1.0 (subst (λ n. window entries n width ≡ placed 0 (entries_in second) (cleared (window before n width))) behind parts.1.0) ∙ sym (append-nil _))
  accepted_lines first second (suc (suc (suc n))) (Ok (fragments.Paired m)) e fits parts = absurd (let z = ap (λ o. length (rows_in o)) e in omega arith)

count_of : (n : ℕ) (b : List ℕ) → length b ≡ 4 * n → entry_count b ≡ n
count_of n b e = omega (arith, e)

-- ---- a fragment

module _ (c : Catalogue) (ranked ks rs os : List ℕ) (h : Held) (entries : List ℕ) (lent : Runs c ranked ks rs os h entries) (bytes : List ℕ) (head : FragmentHead)
    (read : Read fragment_in bytes (fragment_at bytes head) head.end) (a : FragmentAudit) (k : Counters) (entries' : List ℕ)
    (audits : Audits audit_seed audit_offset c (lent_of c) h (fragment_at bytes head) entries a k entries') where
  abbrev f : Fragment
  f = fragment_at bytes head

  abbrev after : Held
  after = record { state = a.state; counters = k }

  -- the lines of its answer
  abbrev pub lines : List ℕ
  lines = answer_lines (names c) head.ordinal (role_number head.first.role) (role_number head.second.role) (4 * share_of h.state.settings.mode stream_entries) a.answer entries'

  refusal_is : fragment_refusal audit_seed audit_offset c (lent_of c) h f (entry_count entries) ≡ fragment_refusal audit_seed audit_offset c (lent_of c) h f stream_entries
  refusal_is = ap (fragment_refusal audit_seed audit_offset c (lent_of c) h f) (count_of stream_entries entries lent.whole)

  -- refused, nothing changes
  pub fragment_refuses : (e : Refusal) → a.answer ≡ Err e → Ends (running c h) (3 ∷ bytes) (refusal_line (refusal_number e)) × (after ≡ h)
  fragment_refuses e told =
      let w = outcome_number (fragment_refusal audit_seed audit_offset c (lent_of c) h f (entry_count entries)) (refusal_number e) _ (sym audits.answer ∙ ap fragment_outcome told) in (
        fragment_refused c h bytes f head.end read (refusal_number e) (sym refusal_is ∙ w.0) w.1,
        audits.held ∙ refused_holds (fragment_refusal audit_seed audit_offset c (lent_of c) h f (entry_count entries)) (λ z. w.1 (sym w.0 ∙ z)) (fragment_accepted audit_offset c h f) h,
      )

  -- accepted, its lines are written and it is booked
  pub fragment_goes : (rows : List Row) → fragment_outcome a.answer ≡ accepted rows → Goes (running c h) (3 ∷ bytes) lines (running c after) (drop head.end bytes) × Passes c after
  fragment_goes rows told =
      let s : Settings = h.state.settings in
      let w = outcome_accepted (fragment_refusal audit_seed audit_offset c (lent_of c) h f (entry_count entries)) _ rows (sym audits.answer ∙ told) in
      let booked : after ≡ fragment_accepted audit_offset c h f = audits.held ∙ ap (λ n. if_passed n (fragment_accepted audit_offset c h f) h) w.0 in
      let checked = (fragment_checked audit_seed audit_offset c (lent_of c) h f (entry_count entries) w.0).own in
      let share : share_of s.mode (entry_count entries) ≡ share_of s.mode stream_entries = ap (share_of s.mode) (count_of stream_entries entries lent.whole) in
      let left : entries' ≡ fragment_written audit_offset c h f entries = audits.left ∙ ap (λ n. entries_left n (fragment_written audit_offset c h f entries) entries) w.0 in
      let fits = entries_short audit_offset s (mapped_sequences c) (supplied_places c) (share_of s.mode (entry_count entries)) f.reads checked.rooms in
      let parts = reads_in_parts audit_offset s (mapped_sequences c) (supplied_places c) f.reads entries checked.roles checked.rooms in
      let text : lines ≡ lines_of c h f =
      accepted_lines audit_offset c s (way_of audit_seed (lent_of c)) head.ordinal (4 * share_of s.mode stream_entries) entries entries' _ _ head.count a.answer (told ∙ ap accepted (sym w.1))
      (subst (λ n. Short (4 * n) (map (entries_in audit_offset c s (way_of audit_seed (lent_of c)) head.ordinal 0 [] []) f.reads)) share fits)
      (subst₂ (λ n b. InParts cleared (4 * n) 0 (map (entries_in audit_offset c s (way_of audit_seed (lent_of c)) head.ordinal 0 [] []) f.reads) entries b) share (sym left) parts) in
      (rw (booked, text) (fragment_accepted_lem c h bytes f head.end read (sym refusal_is ∙ w.0)), subst (Passes c) (sym booked) (accepted_passes c h lent.passes f))
