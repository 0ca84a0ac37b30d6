-- The targets in entries, and those of them that count, one after the other.
use mathlib.Core.Path.{◌≡◌, refl, ap, ◌∙◌}
use mathlib.Core.Bool.{Bool, true, false, not}
use mathlib.Core.List.{List, [], ◌∷◌}
use Prim.Native.Nat.{ℕ, zero, suc, ◌+◌, ◌*◌, ◌<◌, ◌≤◌}
use native.Mathlib.Omega.{arith}
use native.Mathlib.Numerals.{add-one}
use lib.ListN.{length, get_or, drop, drop_of_length-le}
use lib.Seq.{drop-cons, get_or-drop}
use lib.Dec.{eqb, eqb-suc-suc}
use borrow.Author.Tests.{eq-eqb, ne_eqb, eqb-true}
use Rattle.lists.specs.Filter.{cons_if}
use Rattle.lists.proofs.Raised.{times}
use Rattle.audit_counters.specs.Targets.{targets_in, run_ends, counted_targets, counts_at}

-- ---- the targets in entries

pub length-targets : (n : ℕ) (entries : List ℕ) → length (targets_in n entries) ≡ n
length-targets zero entries = refl
length-targets (suc n) entries = ap suc (length-targets n (drop 4 entries))

pub targets-at : (n : ℕ) (entries : List ℕ) (i : ℕ) → i < n → get_or (targets_in n entries) i 0 ≡ get_or entries (4 * i) 0
targets-at zero entries i h = absurd (omega arith)
targets-at (suc n) entries zero h = refl
targets-at (suc n) entries (suc i) h = targets-at n (drop 4 entries) i (omega arith) ∙ get_or-drop 4 entries (4 * i) 0 ∙ ap (λ k. get_or entries k 0) (omega arith)

-- ---- which count

module _ (each : Bool) (n : ℕ) (entries : List ℕ) (i : ℕ) where
  -- each does
  pub counts_each : each ≡ true → true ≡ counts_at each (targets_in n entries) i
  counts_each e = rw e refl

  -- the last does
  pub counts_last : i + 1 ≡ n → true ≡ counts_at each (targets_in n entries) i
  counts_last e = go each
    where
      last : eqb (suc i) (length (targets_in n entries)) ≡ true
      last = eq-eqb (suc i) (length (targets_in n entries)) (omega (arith, length-targets n entries))

      go : (b : Bool) → true ≡ counts_at b (targets_in n entries) i
      go true = refl
      go false = rw last

  -- another does where the next target differs
  pub counts_next : each ≡ false → i < n → (i + 1 ≡ n → ⊥) → not (eqb (get_or entries (4 * i) 0) (get_or entries (4 * (i + 1)) 0)) ≡ counts_at each (targets_in n entries) i
  counts_next e h more = rw (e, add-one, ← targets-at n entries i h, ← targets-at n entries (suc i) next, inner)
    where
      next : suc i < n
      next = omega arith

      inner : eqb (suc i) (length (targets_in n entries)) ≡ false
      inner = ne_eqb (suc i) (length (targets_in n entries)) (λ k. more (omega (arith, length-targets n entries)))

-- ---- those from a place on

-- none behind the last
pub chosen_end : (each : Bool) (ts : List ℕ) (i : ℕ) → length ts ≤ i → counted_targets each (drop i ts) ≡ []
chosen_end true ts i h = drop_of_length-le ts h
chosen_end false ts i h = rw (drop_of_length-le ts h)

ends_step : (ts : List ℕ) (i : ℕ) → i < length ts → run_ends (drop i ts) ≡ cons_if (counts_at false ts i) (get_or ts i 0) (run_ends (drop (suc i) ts))
ends_step [] i h = absurd (omega arith)
ends_step (x ∷ []) zero h = refl
ends_step (x ∷ y ∷ ys) zero h = rw (ne_eqb 1 (suc (suc (length ys))) (λ e. omega arith))
ends_step (x ∷ xs) (suc i) h = rw (eqb-suc-suc (suc i) (length xs)) (ends_step xs i (omega arith))

-- the one at a place comes first, if it counts
pub chosen_step : (each : Bool) (ts : List ℕ) (i : ℕ) → i < length ts → counted_targets each (drop i ts) ≡ cons_if (counts_at each ts i) (get_or ts i 0) (counted_targets each (drop (suc i) ts))
chosen_step true ts i h = drop-cons ts i 0 h
chosen_step false ts i h = ends_step ts i h

-- ---- how often they are named

times_head : (x : ℕ) (xs : List ℕ) → 0 < times x (x ∷ xs)
times_head x xs = rw (eq-eqb x x refl) (omega arith)

ends_head : (x : ℕ) (xs : List ℕ) → 0 < times x (run_ends (x ∷ xs))
ends_head x [] = times_head x []
ends_head x (y ∷ ys) = go (eqb x y) refl (ends_head y ys)
  where
    go : (b : Bool) → eqb x y ≡ b → 0 < times y (run_ends (y ∷ ys)) → 0 < times x (cons_if (not b) x (run_ends (y ∷ ys)))
    go true e h = rw (eqb-true x y e) h
    go false e h = times_head x (run_ends (y ∷ ys))

-- the target at a place is among those from there on that count
pub chosen_names : (each : Bool) (ts : List ℕ) (i : ℕ) → i < length ts → 0 < times (get_or ts i 0) (counted_targets each (drop i ts))
chosen_names true ts i h = rw (drop-cons ts i 0 h) (times_head (get_or ts i 0) (drop (suc i) ts))
chosen_names false ts i h = rw (drop-cons ts i 0 h) (ends_head (get_or ts i 0) (drop (suc i) ts))

ends_fewer : (ts : List ℕ) → length (run_ends ts) ≤ length ts
ends_fewer [] = omega arith
ends_fewer (x ∷ []) = omega arith
ends_fewer (x ∷ y ∷ ys) = go (not (eqb x y)) (ends_fewer (y ∷ ys))
  where
    go : (b : Bool) → length (run_ends (y ∷ ys)) ≤ length (y ∷ ys) → length (cons_if b x (run_ends (y ∷ ys))) ≤ suc (length (y ∷ ys))
    go true h = omega arith
    go false h = omega arith

-- no more count than there are
pub chosen_fewer : (each : Bool) (ts : List ℕ) → length (counted_targets each ts) ≤ length ts
chosen_fewer true ts = omega arith
chosen_fewer false ts = ends_fewer ts

-- ---- runs counted

-- the runs that end among the first i targets
pub record RunsCounted (n : ℕ) (entries : List ℕ) (i runs : ℕ) : Type 0 where
  pub upto : i ≤ n
  pub few : runs ≤ i
  pub rest : runs + length (run_ends (drop i (targets_in n entries))) ≡ length (run_ends (targets_in n entries))

module _ (n : ℕ) (entries : List ℕ) where
  module _ (i runs : ℕ) (s : RunsCounted n entries i runs) where
    pub runs_end : n ≤ i → runs ≡ length (run_ends (targets_in n entries))
    runs_end h =
        let e : length (run_ends (drop i (targets_in n entries))) ≡ 0 = ap length (chosen_end false (targets_in n entries) i (omega (arith, length-targets n entries))) in
        omega (arith, s.rest)

    module _ (here : i < n) where
      within : i < length (targets_in n entries)
      within = omega (arith, length-targets n entries)

      length_step : (b : Bool) → counts_at false (targets_in n entries) i ≡ b → length (run_ends (drop i (targets_in n entries))) ≡ length (cons_if b (get_or (targets_in n entries) i 0) (run_ends (drop (suc i) (targets_in n entries))))
      length_step b e = rw (← e) (ap length (chosen_step false (targets_in n entries) i within))

      pub runs_more : (runs' : ℕ) → runs' ≡ runs + 1 → counts_at false (targets_in n entries) i ≡ true → RunsCounted n entries (i + 1) runs'
      runs_more runs' e t = record { upto = omega arith; few = omega (arith, s.few); rest = rw (add-one i) (omega (arith, s.rest, length_step true t)) }

      pub runs_same : (runs' : ℕ) → runs' ≡ runs → counts_at false (targets_in n entries) i ≡ false → RunsCounted n entries (i + 1) runs'
      runs_same runs' e t = record { upto = omega arith; few = omega (arith, s.few); rest = rw (add-one i) (omega (arith, s.rest, length_step false t)) }
