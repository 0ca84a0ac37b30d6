-- What the checks of an accepted fragment have shown.
use mathlib.Core.Path.{◌≡◌}
use mathlib.Core.Bool.{true}
use mathlib.Core.List.{List}
use Prim.Native.Nat.{ℕ}
use native.Mathlib.Omega.{arith}
use Rattle.promises.specs.Refusal.{unless}
use Rattle.promises.proofs.Refusing.{none_first, none_second, passed}
use Rattle.catalogue.specs.Catalogue.{Catalogue, supplied_places}
use Rattle.index_model.specs.Index.{mapped_sequences}
use Rattle.map_by_index.specs.Work.{Way}
use Rattle.audit_ledger.specs.Booking.{countable}
use Rattle.audit_model.specs.declared.settings.Settings.{Settings}
use Rattle.audit_model.specs.Settings.{Held}
use Rattle.audit_model.specs.Opening.{IndexLent, way_of, opening_refusal}
use Rattle.audit_model.specs.Observing.{mate_refusal, observe, observed_room, MateRead}
use Rattle.audit_model.specs.Fragment.{Fragment, in_order, roles_right, first_refusal, share_of, tested_books, tested_refusal, fragment_refusal}

-- every check behind the opening's has passed
pub record TestedChecked (offset : ℕ) (ss : List (List ℕ)) (way : Way) (ranked : List ℕ) (h : Held) (f : Fragment) (entries : ℕ) : Type 0 where
  pub order : in_order h.state.last f.ordinal ≡ true
  pub roles : roles_right h.state.settings.mode f.reads ≡ true
  pub reads : first_refusal (mate_refusal offset h.state.settings) f.reads ≡ 0
  pub rooms : first_refusal (λ (r : MateRead). observed_room h.state.settings ss (share_of h.state.settings.mode entries) (observe offset h.state.settings r)) f.reads ≡ 0
  pub counts : countable (tested_books offset ss ranked h f) ≡ true

pub tested_checked : (offset : ℕ) (ss : List (List ℕ)) (way : Way) (ranked : List ℕ) (h : Held) (f : Fragment) (entries : ℕ) → tested_refusal offset ss ranked h f entries ≡ 0 → TestedChecked offset ss way ranked h f entries
unfolding tested_refusal
tested_checked offset ss way ranked h f entries e =
    let s : Settings = h.state.settings in
    let b = none_second (unless (in_order h.state.last f.ordinal) 12) _ e in
    let d = none_second (unless (roles_right s.mode f.reads) 13) _ b in
    let g = none_second (first_refusal (mate_refusal offset s) f.reads) _ d in
    let i = none_second (first_refusal (λ (r : MateRead). observed_room s ss (share_of s.mode entries) (observe offset s r)) f.reads) _ g in
    record {
      order = passed (in_order h.state.last f.ordinal) 12 (λ z. omega arith) (none_first (unless (in_order h.state.last f.ordinal) 12) _ e);
      roles = passed (roles_right s.mode f.reads) 13 (λ z. omega arith) (none_first (unless (roles_right s.mode f.reads) 13) _ b);
      reads = none_first (first_refusal (mate_refusal offset s) f.reads) _ d;
      rooms = none_first (first_refusal (λ (r : MateRead). observed_room s ss (share_of s.mode entries) (observe offset s r)) f.reads) _ g;
      counts = passed (countable (tested_books offset ss ranked h f)) 17 (λ z. omega arith) i;
    }

-- every check has passed
pub record Checked (q offset : ℕ) (c : Catalogue) (lent : IndexLent) (h : Held) (f : Fragment) (entries : ℕ) : Type 0 where
  pub opening : opening_refusal q offset c lent h.state.settings h.counters ≡ 0
  pub own : TestedChecked offset (mapped_sequences c) (way_of q lent) (supplied_places c) h f entries

pub fragment_checked : (q offset : ℕ) (c : Catalogue) (lent : IndexLent) (h : Held) (f : Fragment) (entries : ℕ) → fragment_refusal q offset c lent h f entries ≡ 0 → Checked q offset c lent h f entries
unfolding fragment_refusal
fragment_checked q offset c lent h f entries e =
    record {
      opening = none_first (opening_refusal q offset c lent h.state.settings h.counters) _ e;
      own = tested_checked offset (mapped_sequences c) (way_of q lent) (supplied_places c) h f entries (none_second (opening_refusal q offset c lent h.state.settings h.counters) _ e);
    }
