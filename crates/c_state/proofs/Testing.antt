-- Whether numbers are those of a state: the tests one by one, and what a state's numbers are.
use mathlib.Core.Path.{◌≡◌, refl}
use mathlib.Core.Bool.{Bool, true, false, ◌||◌}
use mathlib.Core.Logic.{◌⊎◌, inl, inr}
use mathlib.Core.List.{List}
use Prim.Native.Nat.{ℕ, ◌≤◌, ◌<◌}
use lib.ListN.{length, get_or}
use lib.Dec.{eqb, leb}
use borrow.Author.Tests.{le-leb, lt-leb, eq-eqb, ne_eqb, leb-true, eqb-true}
use Rattle.lists.proofs.Cases.{and-true}
use Rattle.c_state.specs.Layout.{is_state}

module _ (ns : List ℕ) where
  pub wrong_length : (length ns ≡ 32 → ⊥) → false ≡ is_state ns
  unfolding is_state
  wrong_length h = rw (ne_eqb (length ns) 32 h)

  module _ (l : length ns ≡ 32) where
    pub wrong_layout : (get_or ns 0 0 ≡ 1 → ⊥) → false ≡ is_state ns
    unfolding is_state
    wrong_layout h = rw (eq-eqb (length ns) 32 l, ne_eqb (get_or ns 0 0) 1 h)

    module _ (n₀ : get_or ns 0 0 ≡ 1) where
      pub wrong_mode : 1 < get_or ns 1 0 → false ≡ is_state ns
      unfolding is_state
      wrong_mode h = rw (eq-eqb (length ns) 32 l, eq-eqb (get_or ns 0 0) 1 n₀, lt-leb (get_or ns 1 0) 1 h)

      module _ (n₁ : get_or ns 1 0 ≤ 1) where
        pub wrong_remap : 1 < get_or ns 2 0 → false ≡ is_state ns
        unfolding is_state
        wrong_remap h = rw (eq-eqb (length ns) 32 l, eq-eqb (get_or ns 0 0) 1 n₀, le-leb (get_or ns 1 0) 1 n₁, lt-leb (get_or ns 2 0) 1 h)

        module _ (n₂ : get_or ns 2 0 ≤ 1) where
          pub wrong_floor : 255 < get_or ns 3 0 → false ≡ is_state ns
          unfolding is_state
          wrong_floor h = rw (eq-eqb (length ns) 32 l, eq-eqb (get_or ns 0 0) 1 n₀, le-leb (get_or ns 1 0) 1 n₁, le-leb (get_or ns 2 0) 1 n₂, lt-leb (get_or ns 3 0) 255 h)

          module _ (n₃ : get_or ns 3 0 ≤ 255) where
            pub wrong_flag : 1 < get_or ns 5 0 → false ≡ is_state ns
            unfolding is_state
            wrong_flag h =
                rw (eq-eqb (length ns) 32 l, eq-eqb (get_or ns 0 0) 1 n₀, le-leb (get_or ns 1 0) 1 n₁, le-leb (get_or ns 2 0) 1 n₂, le-leb (get_or ns 3 0) 255 n₃, lt-leb (get_or ns 5 0) 1 h)

            pub wrong_ordinal : get_or ns 5 0 ≡ 0 → (get_or ns 6 0 ≡ 0 → ⊥) → false ≡ is_state ns
            unfolding is_state
            wrong_ordinal e h =
                rw (eq-eqb (length ns) 32 l, eq-eqb (get_or ns 0 0) 1 n₀, le-leb (get_or ns 1 0) 1 n₁, le-leb (get_or ns 2 0) 1 n₂, le-leb (get_or ns 3 0) 255 n₃, e, ne_eqb (get_or ns 6 0) 0 h)

            pub without_last : get_or ns 5 0 ≡ 0 → get_or ns 6 0 ≡ 0 → leb (get_or ns 31 0) 1 ≡ is_state ns
            unfolding is_state
            without_last e f =
                rw (eq-eqb (length ns) 32 l, eq-eqb (get_or ns 0 0) 1 n₀, le-leb (get_or ns 1 0) 1 n₁, le-leb (get_or ns 2 0) 1 n₂, le-leb (get_or ns 3 0) 255 n₃, e, f)

            pub with_last : get_or ns 5 0 ≡ 1 → leb (get_or ns 31 0) 1 ≡ is_state ns
            unfolding is_state
            with_last e =
                rw (eq-eqb (length ns) 32 l, eq-eqb (get_or ns 0 0) 1 n₀, le-leb (get_or ns 1 0) 1 n₁, le-leb (get_or ns 2 0) 1 n₂, le-leb (get_or ns 3 0) 255 n₃, e)

-- what the numbers of a state are
pub record StateParts (ns : List ℕ) : Type 0 where
  pub sized : length ns ≡ 32
  pub layout : get_or ns 0 0 ≡ 1
  pub mode : get_or ns 1 0 ≤ 1
  pub remap : get_or ns 2 0 ≤ 1
  pub floor : get_or ns 3 0 ≤ 255
  pub flag : get_or ns 5 0 ≤ 1
  pub ordinal : (get_or ns 5 0 ≡ 1) ⊎ (get_or ns 6 0 ≡ 0)
  pub indeterminate : get_or ns 31 0 ≤ 1

or_true : (a b : Bool) → (a || b) ≡ true → (a ≡ true) ⊎ (b ≡ true)
or_true true b h = inl refl
or_true false b h = inr h

last_right : (a b : ℕ) → (eqb a 1 || eqb b 0) ≡ true → (a ≡ 1) ⊎ (b ≡ 0)
last_right a b h = go (or_true (eqb a 1) (eqb b 0) h)
  where
    go : (eqb a 1 ≡ true) ⊎ (eqb b 0 ≡ true) → (a ≡ 1) ⊎ (b ≡ 0)
    go (inl t) = inl (eqb-true a 1 t)
    go (inr t) = inr (eqb-true b 0 t)

pub state_parts : (ns : List ℕ) → is_state ns ≡ true → StateParts ns
unfolding is_state
state_parts ns h =
    let a = and-true _ _ h in
    let b = and-true _ _ a.0 in
    let c = and-true _ _ b.0 in
    let d = and-true _ _ c.0 in
    let e = and-true _ _ d.0 in
    let f = and-true _ _ e.0 in
    let g = and-true _ _ f.0 in
    record {
      sized = eqb-true _ _ g.0;
      layout = eqb-true _ _ g.1;
      mode = leb-true _ _ f.1;
      remap = leb-true _ _ e.1;
      floor = leb-true _ _ d.1;
      flag = leb-true _ _ c.1;
      ordinal = last_right _ _ b.1;
      indeterminate = leb-true _ _ a.1;
    }
