-- What a fragment call holds and reports: a refused one leaves everything as it was, and an index is searched by.
use mathlib.Core.Path.{◌≡◌, refl, ap}
use mathlib.Core.Bool.{true}
use mathlib.Core.List.{List}
use Prim.Native.Nat.{ℕ, zero, suc, ◌<◌}
use native.Mathlib.Omega.{arith}
use lib.ListN.{length}
use Rattle.promises.specs.Refusal.{if_passed}
use Rattle.map_candidates.specs.Search.{compared}
use Rattle.map_by_index.specs.Work.{work}
use Rattle.map_by_index.specs.declared.work.MappingWork.{MappingWork}
use Rattle.audit_model.specs.declared.settings.MateRole.{MateRole}
use Rattle.audit_model.specs.declared.settings.MateRole.TheVariants as roles
use Rattle.audit_model.specs.declared.settings.Settings.{Settings}
use Rattle.audit_model.specs.Settings.{Held, role_number}
use Rattle.audit_model.specs.Opening.{columns, way_of}
use Rattle.audit_model.specs.Observing.{MateRead, is_searched, observe, observed_row}

-- there are three roles
pub few_roles : (role : MateRole) → role_number role < 3
few_roles roles.S = omega arith
few_roles roles.R1 = omega arith
few_roles roles.R2 = omega arith

-- a refused call leaves state and counters as they were
pub refused_holds : (n : ℕ) → (n ≡ 0 → ⊥) → (accepted h : Held) → if_passed n accepted h ≡ h
refused_holds zero ne accepted h = absurd (ne refl)
refused_holds (suc n) ne accepted h = refl

module _ (q offset : ℕ) (s : Settings) (ss : List (List ℕ)) (ks rs os : List ℕ) (r : MateRead) (searched : is_searched offset s r ≡ true) where
  -- a searched read of an audit with an index reports the work of the search by index
  pub index_work : (observed_row s ss (way_of q (columns ks rs os)) (observe offset s r)).work ≡ work q ss r.read.bases s.limit
  index_work = rw searched

  -- which compares the places of the compared list
  pub index_comparisons : (observed_row s ss (way_of q (columns ks rs os)) (observe offset s r)).work.comparisons ≡ length (compared q ss r.read.bases s.limit)
  unfolding work
  index_comparisons = ap (λ (w : MappingWork). w.comparisons) index_work
