-- The reads of a fragment observed one after the other (REFERENCE.md, "Observing").
use Rattle.std.specs.Prelude.{◌≡◌, Bool, cond, List, [], ◌∷◌, map, ℕ, ◌*◌, Result}
use Rattle.promises.specs.declared.refusal.Refusal.{Refusal}
use Rattle.lists.specs.Cut.{window}
use Rattle.promises.specs.Refusal.{outcome}
use Rattle.buffers.specs.Placed.{placed}
use Rattle.map_every_start.specs.Entries.{entry_count, cleared}
use Rattle.map_by_index.specs.Work.{Way}
use Rattle.map_answers.specs.declared.answer.Mapping.{Mapping}
use Rattle.map_search.specs.Answered.{search_entries}
use Rattle.audit_model.specs.declared.calls.FragmentRows.{FragmentRows}
use Rattle.audit_model.specs.declared.settings.Settings.{Settings}
use Rattle.audit_model.specs.Observing.{Observed, observed_room, observed_entries, observed_row}
use Rattle.audit_model.specs.Fragment.{first_refusal, share_of, in_parts, entries_left}
use Rattle.audit_model.specs.Calls.{mapping_row, fragment_outcome}
use Rattle.audit_read_checks.specs.Checks.{by_mode}
use Rattle.audit_observe_read.specs.Observed.{as_observed}

-- the second read of a pair observed into the part behind that of the first, whose answer is known
pub record SecondObserved (s : Settings) (ss : List (List ℕ)) (way : Way) (ranked : List ℕ) (read : List ℕ) (searched : Bool) (width : ℕ) (first : Mapping) (r : Result FragmentRows Refusal) (buffer buffer' : List ℕ) : Type 0 where
  pub answer :
      fragment_outcome r ≡ outcome (observed_room s ss (entry_count (window buffer width width)) (as_observed searched read)) (mapping_row first ∷ observed_row s ss way (as_observed searched read) ∷ [])
  pub entries : buffer' ≡ placed width (cond searched (search_entries ss ranked read s.limit (window buffer width width)) (window buffer width width)) buffer

-- the reads of a fragment observed, each into its part of the entries: 10, or a row for each and its groups
abbrev pub observed_reads : Settings → Bool → List ℕ → Bool → List ℕ → List Observed
observed_reads s searched first searched' second = by_mode s.mode (as_observed searched first) (as_observed searched' second)

module _ (s : Settings) (ss : List (List ℕ)) (way : Way) (ranked : List ℕ) (reads : List Observed) where
  abbrev pub rooms_refusal : ℕ → ℕ
  rooms_refusal entries = first_refusal (observed_room s ss (share_of s.mode entries)) reads

  pub record ReadsObserved (r : Result FragmentRows Refusal) (buffer buffer' : List ℕ) : Type 0 where
    pub answer : fragment_outcome r ≡ outcome (rooms_refusal (entry_count buffer)) (map (observed_row s ss way) reads)
    pub entries :
        buffer' ≡ entries_left (rooms_refusal (entry_count buffer)) (in_parts (4 * share_of s.mode (entry_count buffer)) 0 (map (observed_entries s ss ranked) reads) (cleared buffer)) buffer
