-- Whether numbers are those of an accepted `finish`: the tests one by one, and what a sheet's numbers are.
use mathlib.Core.Path.{◌≡◌, refl, ap, ◌∙◌}
use mathlib.Core.Bool.{Bool, true, false, ◌&&◌, ◌||◌}
use mathlib.Core.Logic.{◌⊎◌, inl, inr}
use mathlib.Core.List.{List, [], ◌∷◌}
use Prim.Native.Nat.{ℕ, ◌≤◌, ◌<◌}
use native.Mathlib.Omega.{arith}
use lib.ListN.{length, get_or}
use lib.Dec.{eqb}
use borrow.Author.Tests.{le-leb, lt-leb, eq-eqb, ne_eqb, leb-true, eqb-true}
use Rattle.lists.specs.Cut.{window}
use Rattle.lists.specs.Filter.{every}
use Rattle.lists.proofs.Cases.{by_test, and-true}
use Rattle.audit_codes.specs.Codes.{is_set}
use Rattle.c_state.proofs.Writing.{three}
use Rattle.c_sheet.specs.Sheet.{status_fits, is_sheet}

module _ (ns : List ℕ) where
  pub wrong_length : (length ns ≡ 25 → ⊥) → false ≡ is_sheet ns
  unfolding is_sheet
  wrong_length h = rw (ne_eqb (length ns) 25 h)

  module _ (l : length ns ≡ 25) where
    pub wrong_refusal : (get_or ns 0 0 ≡ 0 → ⊥) → false ≡ is_sheet ns
    unfolding is_sheet
    wrong_refusal h = rw (eq-eqb (length ns) 25 l, ne_eqb (get_or ns 0 0) 0 h)

    module _ (n₀ : get_or ns 0 0 ≡ 0) where
      pub wrong_mode : 1 < get_or ns 1 0 → false ≡ is_sheet ns
      unfolding is_sheet
      wrong_mode h = rw (eq-eqb (length ns) 25 l, eq-eqb (get_or ns 0 0) 0 n₀, lt-leb (get_or ns 1 0) 1 h)

      module _ (n₁ : get_or ns 1 0 ≤ 1) where
        pub wrong_remap : 1 < get_or ns 2 0 → false ≡ is_sheet ns
        unfolding is_sheet
        wrong_remap h = rw (eq-eqb (length ns) 25 l, eq-eqb (get_or ns 0 0) 0 n₀, le-leb (get_or ns 1 0) 1 n₁, lt-leb (get_or ns 2 0) 1 h)

        module _ (n₂ : get_or ns 2 0 ≤ 1) where
          pub wrong_status : status_fits (get_or ns 21 0) (get_or ns 2 0) ≡ false → false ≡ is_sheet ns
          unfolding is_sheet
          wrong_status h = rw (eq-eqb (length ns) 25 l, eq-eqb (get_or ns 0 0) 0 n₀, le-leb (get_or ns 1 0) 1 n₁, le-leb (get_or ns 2 0) 1 n₂, h)

          module _ (n₂₁ : status_fits (get_or ns 21 0) (get_or ns 2 0) ≡ true) where
            pub with_totals : get_or ns 21 0 ≡ 0 → true ≡ is_sheet ns
            unfolding is_sheet
            with_totals h = rw (eq-eqb (length ns) 25 l, eq-eqb (get_or ns 0 0) 0 n₀, le-leb (get_or ns 1 0) 1 n₁, le-leb (get_or ns 2 0) 1 n₂, n₂₁, eq-eqb (get_or ns 21 0) 0 h)

            module _ (ne : get_or ns 21 0 ≡ 0 → ⊥) where
              by_totals : every (λ n. eqb n 0) (get_or ns 22 0 ∷ get_or ns 23 0 ∷ get_or ns 24 0 ∷ []) ≡ is_sheet ns
              unfolding is_sheet
              by_totals =
                  rw (eq-eqb (length ns) 25 l, eq-eqb (get_or ns 0 0) 0 n₀, le-leb (get_or ns 1 0) 1 n₁, le-leb (get_or ns 2 0) 1 n₂, n₂₁, ne_eqb (get_or ns 21 0) 0 ne)
                  (ap (every (λ n. eqb n 0)) (three ns 22 (omega arith)))

              pub wrong_placements : (get_or ns 22 0 ≡ 0 → ⊥) → false ≡ is_sheet ns
              wrong_placements h = rw (← by_totals, ne_eqb (get_or ns 22 0) 0 h)

              pub wrong_singles : get_or ns 22 0 ≡ 0 → (get_or ns 23 0 ≡ 0 → ⊥) → false ≡ is_sheet ns
              wrong_singles e h = rw (← by_totals, eq-eqb (get_or ns 22 0) 0 e, ne_eqb (get_or ns 23 0) 0 h)

              pub by_multi : get_or ns 22 0 ≡ 0 → get_or ns 23 0 ≡ 0 → eqb (get_or ns 24 0) 0 ≡ is_sheet ns
              by_multi e f = rw (← by_totals, eq-eqb (get_or ns 22 0) 0 e, eq-eqb (get_or ns 23 0) 0 f) (and_last (eqb (get_or ns 24 0) 0))
                where
                  and_last : (b : Bool) → b ≡ (b && true)
                  and_last true = refl
                  and_last false = refl

status_few : (status remap : ℕ) → status_fits status remap ≡ true → status ≤ 2
status_few status remap t = by_test (is_set remap) (λ u. omega (arith, leb-true status 1 (rw u at t))) (λ u. omega (arith, eqb-true status 2 (rw u at t)))

-- what the numbers of a sheet are
pub record SheetParts (ns : List ℕ) : Type 0 where
  pub sized : length ns ≡ 25
  pub refusal : get_or ns 0 0 ≡ 0
  pub mode : get_or ns 1 0 ≤ 1
  pub remap : get_or ns 2 0 ≤ 1
  pub status : get_or ns 21 0 ≤ 2
  pub totals : (get_or ns 21 0 ≡ 0) ⊎ ((get_or ns 22 0 ≡ 0) × (get_or ns 23 0 ≡ 0) × (get_or ns 24 0 ≡ 0))

zeros : (a b c : ℕ) → every (λ n. eqb n 0) (a ∷ b ∷ c ∷ []) ≡ true → (a ≡ 0) × (b ≡ 0) × (c ≡ 0)
zeros a b c h =
    let p = and-true (eqb a 0) _ h in
    let q = and-true (eqb b 0) _ p.1 in
    let r = and-true (eqb c 0) _ q.1 in
    (eqb-true a 0 p.0, eqb-true b 0 q.0, eqb-true c 0 r.0)

totals_right : (ns : List ℕ) → length ns ≡ 25 → (b : Bool) → eqb (get_or ns 21 0) 0 ≡ b → (b || every (λ n. eqb n 0) (window ns 22 3)) ≡ true
    → (get_or ns 21 0 ≡ 0) ⊎ ((get_or ns 22 0 ≡ 0) × (get_or ns 23 0 ≡ 0) × (get_or ns 24 0 ≡ 0))
totals_right ns l true e h = inl (eqb-true (get_or ns 21 0) 0 e)
totals_right ns l false e h = inr (zeros (get_or ns 22 0) (get_or ns 23 0) (get_or ns 24 0) (ap (every (λ n. eqb n 0)) (three ns 22 (omega arith)) ∙ h))

pub sheet_parts : (ns : List ℕ) → is_sheet ns ≡ true → SheetParts ns
unfolding is_sheet
sheet_parts ns h =
    let a = and-true _ _ h in
    let b = and-true _ _ a.0 in
    let c = and-true _ _ b.0 in
    let d = and-true _ _ c.0 in
    let e = and-true _ _ d.0 in
    record {
      sized = eqb-true _ _ e.0;
      refusal = eqb-true _ _ e.1;
      mode = leb-true _ _ d.1;
      remap = leb-true _ _ c.1;
      status = status_few (get_or ns 21 0) (get_or ns 2 0) b.1;
      totals = totals_right ns (eqb-true _ _ e.0) (eqb (get_or ns 21 0) 0) refl a.1;
    }
