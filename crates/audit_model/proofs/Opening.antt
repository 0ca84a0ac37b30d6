-- What the opening's checks have shown, and which numbers they give.
use mathlib.Core.Path.{◌≡◌}
use mathlib.Core.Bool.{Bool, true, false, not, ◌||◌}
use Prim.Native.Nat.{ℕ, ◌≤◌}
use native.Mathlib.Omega.{arith}
use lib.ListN.{length}
use Rattle.lists.specs.Filter.{every}
use Rattle.promises.specs.Refusal.{unless, ◌or_else◌}
use Rattle.promises.proofs.Refusing.{none_first, none_second, passed}
use Rattle.identifiers.specs.Name.{distinct_names}
use Rattle.catalogue.specs.Catalogue.{Catalogue, Valid, names, sequences, in_bounds, proper_sequence, catalogue_refusal, targets}
use Rattle.catalogue.proofs.Refusals.{valid}
use Rattle.map_answers.specs.Bounds.{limit_right}
use Rattle.audit_ledger.specs.Booking.{Counters, counters_for}
use Rattle.audit_model.specs.declared.settings.Settings.{Settings}
use Rattle.audit_model.specs.Settings.{floor_right}
use Rattle.audit_model.specs.Opening.{IndexLent, index_right, opening_refusal}

-- at most 11, and not 10
abbrev pub OpeningNumber : ℕ → Type 0
OpeningNumber n = (n ≤ 11) × (n ≡ 10 → ⊥)

-- every check has passed
pub record Passed (q offset : ℕ) (c : Catalogue) (lent : IndexLent) (s : Settings) (k : Counters) : Type 0 where
  pub floor : floor_right offset s.floor ≡ true
  pub limit : limit_right s.limit ≡ true
  pub counters : counters_for (length (targets c)) k ≡ true
  pub catalogue : Valid c
  pub unrefused : catalogue_refusal c ≡ 0
  pub index_right_lem : (not s.remap || index_right q c lent) ≡ true

module _ (q offset : ℕ) (c : Catalogue) (lent : IndexLent) (s : Settings) (k : Counters) where
  pub opening_passed : opening_refusal q offset c lent s k ≡ 0 → Passed q offset c lent s k
  unfolding opening_refusal
  opening_passed e =
      let behind_floor = none_second (unless (floor_right offset s.floor) 11) _ e in
      let behind_limit = none_second (unless (limit_right s.limit) 9) _ behind_floor in
      let behind_counters = none_second (unless (counters_for (length (targets c)) k) 2) _ behind_limit in
      record {
        floor = passed (floor_right offset s.floor) 11 (λ z. omega arith) (none_first (unless (floor_right offset s.floor) 11) _ e);
        limit = passed (limit_right s.limit) 9 (λ z. omega arith) (none_first (unless (limit_right s.limit) 9) _ behind_floor);
        counters = passed (counters_for (length (targets c)) k) 2 (λ z. omega arith) (none_first (unless (counters_for (length (targets c)) k) 2) _ behind_limit);
        catalogue = valid c (none_first (catalogue_refusal c) _ behind_counters);
        unrefused = none_first (catalogue_refusal c) _ behind_counters;
        index_right_lem = passed (not s.remap || index_right q c lent) 6 (λ z. omega arith) (none_second (catalogue_refusal c) _ behind_counters);
      }

  pub opening_number : OpeningNumber (opening_refusal q offset c lent s k)
  unfolding opening_refusal catalogue_refusal
  opening_number =
      go (floor_right offset s.floor) (limit_right s.limit) (counters_for (length (targets c)) k) (in_bounds c) (every proper_sequence (sequences c)) (distinct_names (names c)) (not s.remap || index_right q c lent)
    where
      go : (floor limit counters bounds proper distinct index : Bool)
          → OpeningNumber (unless floor 11 or_else unless limit 9 or_else unless counters 2 or_else (unless bounds 2 or_else unless proper 3 or_else unless distinct 4) or_else unless index 6)
      go false l k b p d i = (omega arith, λ e. omega arith)
      go true false k b p d i = (omega arith, λ e. omega arith)
      go true true false b p d i = (omega arith, λ e. omega arith)
      go true true true false p d i = (omega arith, λ e. omega arith)
      go true true true true false d i = (omega arith, λ e. omega arith)
      go true true true true true false i = (omega arith, λ e. omega arith)
      go true true true true true true false = (omega arith, λ e. omega arith)
      go true true true true true true true = (omega arith, λ e. omega arith)
