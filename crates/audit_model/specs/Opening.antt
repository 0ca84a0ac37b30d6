-- An audit opened: its checks, and what it starts from (REFERENCE.md, "Opening").
use Rattle.std.specs.Prelude.{Bool, true, not, ◌||◌, List, ℕ, length}
use Rattle.promises.specs.Refusal.{unless, ◌or_else◌, if_passed}
use Rattle.catalogue.specs.Catalogue.{Catalogue, targets, catalogue_refusal}
use Rattle.index_model.specs.Index.{index, columns_of}
use Rattle.map_by_index.specs.Work.{Way, by_index, plain}
use Rattle.map_answers.specs.Bounds.{limit_right}
use Rattle.audit_ledger.specs.Booking.{Counters, empty_counters, counters_for}
use Rattle.audit_model.specs.declared.settings.Settings.{Settings}
use Rattle.audit_model.specs.Settings.{Held, floor_right, fresh_state, zero_state}

-- the index that an audit is lent: three columns of postings, or none
pub data IndexLent : Type 0 where
  columns : List ℕ → List ℕ → List ℕ → IndexLent
  none : IndexLent

-- it searches by the index of seeds of q bases, or without one at every start
abbrev pub way_of : ℕ → IndexLent → Way
way_of q (columns ks rs os) = by_index q
way_of q none = plain

-- 6 where this fails: the lent postings are those that a build would give
abbrev pub index_right : ℕ → Catalogue → IndexLent → Bool
index_right q c (columns ks rs os) = columns_of (index q c) ks rs os
index_right q c none = true

module _ (q offset : ℕ) (c : Catalogue) (lent : IndexLent) where
  -- 11, 9, 2, 3, 4, and 6 with remap on: the first whose condition holds; 2 is for counters too
  unfoldable pub opening_refusal : Settings → Counters → ℕ
  opening_refusal s k =
      unless (floor_right offset s.floor) 11 or_else unless (limit_right s.limit) 9 or_else unless (counters_for (length (targets c)) k) 2 or_else catalogue_refusal c
      or_else unless (not s.remap || index_right q c lent) 6

-- what a run starts from: a fresh state, and counters of zero
abbrev pub started : Catalogue → Settings → Held
started c s = record { state = fresh_state s; counters = empty_counters (length (targets c)) }

-- what a refused opening leaves: the all-zero state, and the counters as they were
abbrev pub unopened : Counters → Held
unopened k = record { state = zero_state; counters = k }

abbrev pub opening_held : ℕ → ℕ → Catalogue → IndexLent → Settings → Counters → Held
opening_held q offset c lent s k = if_passed (opening_refusal q offset c lent s k) (started c s) (unopened k)
