-- What the answers and the sheet of a run mean: demand 2.
use Rattle.std.specs.Prelude.{◌≡◌, Bool, true, false, cond, List, [], ◌∷◌, ◌++◌, map, ◌↔◌, ◌⊎◌, ℕ, ◌*◌, ◌<◌, ◌≤◌, length, Some, None}
use Rattle.lists.specs.Cut.{window}
use Rattle.lists.specs.Member.{◌∈◌}
use Rattle.lists.specs.Sum.{sum}
use Rattle.lists.specs.Triple.{Triple}
use Rattle.promises.specs.Refusal.{Outcome, refused, accepted, is_refused}
use Rattle.bases.specs.Eligibility.{eligibility}
use Rattle.catalogue.specs.Catalogue.{Catalogue, Target, targets, is_mapped, supplied_places}
use Rattle.buffers.specs.Placed.{placed}
use Rattle.index_model.specs.Index.{mapped_sequences}
use Rattle.map_places.specs.Place.{max_read}
use Rattle.map_every_start.specs.Entries.{entries_of, entry_count, cleared}
use Rattle.map_answers.specs.Answer.{Row, row}
use Rattle.indexed_mapper.specs.Match.{Lists}
use Rattle.audit_ledger.specs.Booking.{Booked, Counters, kept, max_counter}
use Rattle.audit_ledger.specs.Balance.{count_of}
use Rattle.audit_ledger.specs.Counting.{Bookable, Counts, reads_in_state, reads_of, any_indeterminate, placements_on, singles_on, multi_on}
use Rattle.audit_model.specs.declared.settings.Settings.{Settings}
use Rattle.audit_model.specs.declared.sheet.Status.TheVariants as statuses
use Rattle.audit_model.specs.declared.sheet.Sheet.{Sheet}
use Rattle.audit_model.specs.Settings.{Held, held_books, role_number, roles_of}
use Rattle.audit_model.specs.Opening.{IndexLent, opening_refusal}
use Rattle.audit_model.specs.Observing.{MateRead, verdict_refusal, no_work, is_searched, observe, observed_groups}
use Rattle.audit_model.specs.Fragment.{share_of, fragment_books}
use Rattle.audit_model.specs.Sheet.{shown, totals_of, run_status, role_shown, target_shown, finish_refusal, finish_answer}
use Rattle.audit_model.specs.Run.{Call, Answer, answer_to, next, books, answers, after, history}
use Rattle.lists.specs.Each.{Each}

-- ---- when a fragment is accepted

-- 10 does not hold: there are no more matches than entries, or no fewer entries than the limit
abbrev pub Roomy : ℕ → ℕ → ℕ → Type 0
Roomy entries limit matched = (matched ≤ entries) ⊎ (limit ≤ entries)

-- no refusal of the table has its condition: the opening's checks pass; the ordinal is above the last accepted one (12); the roles are S, or R1
-- then R2, by mode (13); no read is longer than its bound (7), or refused by its bases and qualities with remap on (14 to 16), or has more
-- matches than entries where these are fewer than the limit (10); and no count would pass 2^64 - 1 (17)
pub record Acceptable (q offset : ℕ) (c : Catalogue) (h : Held) (x : Call) : Type 0 where
  pub opening : opening_refusal q offset c x.lent h.state.settings h.counters ≡ 0
  pub order : (last : ℕ) → h.state.last ≡ Some last → last < x.fragment.ordinal
  pub roles : map (λ (r : MateRead). role_number r.role) x.fragment.reads ≡ roles_of h.state.settings.mode
  pub lengths : (r : MateRead) → r ∈ x.fragment.reads → length r.read.bases ≤ max_read
  pub verdicts : h.state.settings.remap ≡ true → (r : MateRead) → r ∈ x.fragment.reads → verdict_refusal (eligibility h.state.settings.floor offset r.read) ≡ 0
  pub rooms : (r : MateRead) → r ∈ x.fragment.reads → Roomy (share_of h.state.settings.mode (entry_count x.entries)) h.state.settings.limit (length (observed_groups h.state.settings (mapped_sequences c) (observe offset h.state.settings r)))
  pub counts : (n : ℕ) → n ∈ kept (fragment_books offset c h x.fragment) → n ≤ max_counter

-- ---- what is answered and booked of a read

-- a read of an accepted fragment, its row, what is booked of it, and its part of the entries before and after. What is booked can be, has its
-- role, the state of the row, and the groups that stand in front of zeros, as many as the row says. A read that is not searched has the state
-- 1 with remap on, else 0, no groups and no work; one that is searched is indeterminate or complete, by all its matches
pub record ReadMeans (offset : ℕ) (s : Settings) (c : Catalogue) (r : MateRead) (x : Row) (b : Booked) (before after : List ℕ) : Type 0 where
  pub bookable : Bookable (length (supplied_places c)) b
  pub role : b.role ≡ role_number r.role
  pub state : b.state ≡ x.state
  pub groups : length b.groups ≡ x.groups
  pub entries : after ≡ placed 0 (entries_of (supplied_places c) (length r.read.bases) b.groups) (cleared before)
  pub unsearched : is_searched offset s r ≡ false → x ≡ row (cond s.remap 1 0) 0 no_work
  pub searched : is_searched offset s r ≡ true → Lists c r.read.bases s.limit x before after

-- a read's row, and what is booked of it
pub record Told : Type 0 where
  pub row : Row
  pub booked : Booked

-- the reads of a fragment, in parts of `width` numbers one behind the other
pub record ReadsMean (offset : ℕ) (s : Settings) (c : Catalogue) (width : ℕ) (reads : List MateRead) (rows : List Row) (bs : List Booked) (before after : List ℕ) : Type 0 where
  pub told : List Told
  pub rows_are : map (λ (t : Told). t.row) told ≡ rows
  pub booked_are : map (λ (t : Told). t.booked) told ≡ bs
  pub each : Each (λ i (r : MateRead) (t : Told). ReadMeans offset s c r t.row t.booked (window before (width * i) width) (window after (width * i) width)) 0 reads told

-- a sheet, with the counters beside it, held against the reads that were booked: state counts; the status of the run and of every linear
-- target, by which totals are available exactly where remap is on and no read was indeterminate; totals of a linear target by what was
-- booked on it, and of the run as their sums; a closed walk has its own status always
pub record SheetMeans (c : Catalogue) (s : Settings) (bs : List Booked) (sheet : Sheet) (k : Counters) : Type 0 where
  pub states : (role state : ℕ) → role < 3 → state < 6 → count_of sheet.table role state ≡ reads_in_state role state bs
  pub linear :
      (t : Target) → t ∈ targets c → is_mapped t ≡ true
      → target_shown sheet k t ≡ shown (run_status s.remap (any_indeterminate bs)) (totals_of (placements_on (supplied_places c) t.place bs) (singles_on (supplied_places c) t.place bs) (multi_on (supplied_places c) t.place bs))
  pub closed : (t : Target) → t ∈ targets c → is_mapped t ≡ false → target_shown sheet k t ≡ record { status = statuses.ClosedUnsupported; totals = None }
  pub run : sheet.run ≡ shown (run_status s.remap (any_indeterminate bs)) (totals_of (sum k.placements) (sum k.singles) (sum k.multi))

-- one call: accepted exactly where no refusal has its condition, and then it books each of its reads; refused, none
pub record CallMeans (q offset : ℕ) (c : Catalogue) (h : Held) (x : Call) (a : Answer) : Type 0 where
  pub when : Acceptable q offset c h x ↔ (is_refused a.rows ≡ false)
  pub accepts :
      (rows : List Row) → a.rows ≡ accepted rows
      → ReadsMean offset h.state.settings c (4 * share_of h.state.settings.mode (entry_count x.entries)) x.fragment.reads rows (books q offset c h x) x.entries a.entries
  pub refuses : (n : ℕ) → a.rows ≡ refused n → books q offset c h x ≡ []

-- calls one after the other, and what they answer
pub data CallsMean (q offset : ℕ) (c : Catalogue) : Held → List Call → List Answer → Type 0 where
  no_call : (h : Held) → CallsMean q offset c h [] []
  a_call : (h : Held) (x : Call) (a : Answer) (xs : List Call) (answered : List Answer) → CallMeans q offset c h x a → CallsMean q offset c (next q offset c h x) xs answered → CallsMean q offset c h (x ∷ xs) (a ∷ answered)

-- a run from what its opening left, what its calls answered, what is held at its end, and what `finish` answered: what the calls answer and
-- book, what state and counters count, and what an accepted `finish` shows
pub record RunMeans (q offset : ℕ) (c : Catalogue) (s : Settings) (h : Held) (xs : List Call) (answered : List Answer) (end : Held) (finish : Outcome Sheet) : Type 0 where
  pub calls : CallsMean q offset c h xs answered
  pub counts : Counts (length (targets c)) (supplied_places c) (history q offset c h xs) (held_books end)
  pub sheet : (sheet : Sheet) → finish ≡ accepted sheet → SheetMeans c s (history q offset c h xs) sheet end.counters

-- its books are never apart; `finish` is accepted exactly where the opening's checks pass, and shows as many reads of a role, over its
-- states, as were booked
pub record Reconciled (q offset : ℕ) (c : Catalogue) (s : Settings) (h : Held) (xs : List Call) : Type 0 where
  pub together : (lent : IndexLent) → finish_refusal q offset c lent (after q offset c h xs) ≡ 18 → ⊥
  pub accepted_when : (lent : IndexLent) → (opening_refusal q offset c lent s (after q offset c h xs).counters ≡ 0) ↔ (is_refused (finish_answer q offset c lent (after q offset c h xs)) ≡ false)
  pub shown :
      (lent : IndexLent) (sheet : Sheet) → finish_answer q offset c lent (after q offset c h xs) ≡ accepted sheet → (role : ℕ) → role ∈ roles_of sheet.mode
      → sum (map (λ (x : Triple). x.2) (role_shown sheet role)) ≡ reads_of role (history q offset c h xs)

-- a refused call among others can be left out: the others answer the same, and the same state and counters are left
pub record CanBeLeftOut (q offset : ℕ) (c : Catalogue) (h : Held) (xs : List Call) (x : Call) (ys : List Call) : Type 0 where
  pub held : after q offset c h (xs ++ x ∷ ys) ≡ after q offset c h (xs ++ ys)
  pub with_it : answers q offset c h (xs ++ x ∷ ys) ≡ answers q offset c h xs ++ answer_to q offset c (after q offset c h xs) x ∷ answers q offset c (after q offset c h xs) ys
  pub without : answers q offset c h (xs ++ ys) ≡ answers q offset c h xs ++ answers q offset c (after q offset c h xs) ys
