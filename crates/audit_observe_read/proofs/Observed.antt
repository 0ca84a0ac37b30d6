-- One read observed: searched into its part, or not searched.
use Rattle.std.specs.Prelude.{Result, Ok}
use Rattle.promises.specs.declared.refusal.Refusal.{Refusal}
use mathlib.Core.Path.{◌≡◌, sym, ap}
use mathlib.Core.Bool.{Bool, true, false, cond}
use mathlib.Core.List.{List}
use Prim.Native.Nat.{ℕ, ◌+◌, ◌≤◌}
use native.Mathlib.Omega.{arith}
use lib.ListN.{length}
use borrow.Author.Tests.{le-ltb}
use Rattle.lists.specs.Cut.{window}
use Rattle.promises.specs.Refusal.{accepted}
use Rattle.buffers.proofs.Placed.{placed_self}
use Rattle.map_every_start.specs.Entries.{entry_count}
use Rattle.map_every_start.specs.Searched.{Searchable}
use Rattle.map_by_index.specs.Steps.{IndexSearchable}
use Rattle.map_answers.specs.Answer.{row}
use Rattle.map_answers.specs.declared.answer.Mapping.{Mapping}
use Rattle.map_search.specs.Answered.{PartSearched}
use Rattle.map_search.proofs.Listed.{none_listed}
use Rattle.audit_model.specs.declared.settings.Settings.{Settings}
use Rattle.audit_model.specs.Observing.{no_work}
use Rattle.audit_model.specs.Calls.{mapping_row}
use Rattle.audit_observe_read.specs.Observed.{way_if, Observable, ReadPassed, ReadObserved}

-- ---- what a search asks

module _ (indexed : Bool) (q : ℕ) (bases ends ranked ks rs os : List ℕ) (o : Observable indexed q bases ends ranked ks rs os) (searched : Bool) (read : List ℕ) (r : ReadPassed searched read) (t : searched ≡ true) where
  pub searchable : Searchable bases ends ranked read
  searchable = record { lent = o.lent; letters = r.letters_right t; short = r.short t }

  pub index_searchable : indexed ≡ true → IndexSearchable q bases ends ranked ks rs os read
  index_searchable i = record { searchable = searchable; seed = o.seed; indexed = o.index i }

-- ---- one read

module _ (s : Settings) (ss : List (List ℕ)) (indexed : Bool) (q : ℕ) (ranked read : List ℕ) (searched : Bool) (from width : ℕ) (b : List ℕ) where
  -- a read that is not searched
  pub not_searched : from + width ≤ length b → searched ≡ false → (m : Mapping) → mapping_row m ≡ row (cond s.remap 1 0) 0 no_work → ReadObserved s ss (way_if indexed q) ranked read searched from width (Ok m) b b
  not_searched h f m e = record { answer = rw (f, none_listed s.limit, le-ltb (entry_count (window b from width)) 0 (omega arith)) (ap accepted e); entries = rw f (sym (placed_self from width b h)) }

  -- a read that is searched
  pub part_observed : searched ≡ true → (i : Bool) → indexed ≡ i → (limit : ℕ) → limit ≡ s.limit → (r : Result Mapping Refusal) (b' : List ℕ) → PartSearched (way_if i q) ss ranked read limit from width r b b' → ReadObserved s ss (way_if indexed q) ranked read searched from width r b b'
  part_observed t i k limit e r b' p = record { answer = rw (t, k, ← e) p.answer; entries = rw (t, ← e) p.part }
