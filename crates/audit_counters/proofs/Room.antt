-- Counters that have room for all raises stay within 64 bits.
use mathlib.Core.Path.{◌≡◌, refl, sym, ap, ◌∙◌}
use mathlib.Core.Bool.{Bool, true, false, not}
use mathlib.Core.List.{List, [], ◌∷◌}
use Prim.Native.Nat.{ℕ, zero, suc, ◌+◌, ◌-◌, ◌*◌, ◌<◌, ◌≤◌}
use native.Mathlib.Omega.{arith}
use lib.ListN.{length, get_or, drop}
use lib.Seq.{get_or-drop, drop-drop}
use lib.Dec.{leb, eqb}
use borrow.Author.Tests.{leb-true, eqb-true}
use Rattle.std.specs.List.{list_all, range_with_len}
use Rattle.std.proofs.lemmas.Bool.Decides.{nat_tests}
use Rattle.lists.specs.Filter.{cons_if, every}
use Rattle.lists.specs.Raised.{raised_at}
use Rattle.lists.proofs.Cases.{and-true}
use Rattle.lists.proofs.Raised.{times, length-raised_at}
use Rattle.audit_ledger.specs.Booking.{max_counter}
use Rattle.audit_counters.specs.Targets.{targets_in, run_ends, counted_targets, small, room_at}
use Rattle.audit_counters.proofs.Choosing.{chosen_fewer}
use Rattle.audit_counters.proofs.Adding.{at_small, times_fewer, marks_at}

every_ends : (p : ℕ → Bool) (ts : List ℕ) → every p ts ≡ true → every p (run_ends ts) ≡ true
every_ends p [] h = refl
every_ends p (x ∷ []) h = h
every_ends p (x ∷ y ∷ ys) h =
    let a = and-true (p x) (every p (y ∷ ys)) h in
    go (not (eqb x y)) a.0 (every_ends p (y ∷ ys) a.1)
  where
    go : (b : Bool) → p x ≡ true → every p (run_ends (y ∷ ys)) ≡ true → every p (cons_if b x (run_ends (y ∷ ys))) ≡ true
    go true e f = rw (e, f)
    go false e f = f

every_chosen : (p : ℕ → Bool) (each : Bool) (ts : List ℕ) → every p ts ≡ true → every p (counted_targets each ts) ≡ true
every_chosen p true ts h = h
every_chosen p false ts h = every_ends p ts h

-- a number that is named passes a test that all pass
named_passes : (p : ℕ → Bool) (x : ℕ) (xs : List ℕ) → every p xs ≡ true → 0 < times x xs → p x ≡ true
named_passes p x [] h t = absurd (omega arith)
named_passes p x (y ∷ ys) h t =
    let a = and-true (p y) (every p ys) h in
    go (eqb x y) refl (named_passes p x ys a.1) a.0
  where
    go : (b : Bool) → eqb x y ≡ b → (0 < times x ys → p x ≡ true) → p y ≡ true → p x ≡ true
    go true e f q = rw (eqb-true x y e) q
    go false e f q = f (rw e at t)

-- where each counter that is raised has room for all raises, none passes 64 bits
pub room_fits : (each : Bool) (ts us ns : List ℕ) (more : ℕ) → length ts + length us ≤ more → room_at more ts ns ≡ true → room_at more us ns ≡ true → ((i : ℕ) → get_or ns i 0 ≤ max_counter) → true ≡ small (raised_at (counted_targets each us) (raised_at (counted_targets each ts) ns))
room_fits each ts us ns more h a b fit =
    sym (at_small (raised_at ys (raised_at xs ns)) (λ i k. within i (omega (arith, length-raised_at ys (raised_at xs ns), length-raised_at xs ns))))
  where
    xs : List ℕ
    xs = counted_targets each ts

    ys : List ℕ
    ys = counted_targets each us

    room : (zs : List ℕ) → room_at more zs ns ≡ true → (i : ℕ) → 0 < times i (counted_targets each zs) → get_or ns i 0 + more ≤ max_counter
    room zs r i t = leb-true (get_or ns i 0 + more) max_counter (named_passes (λ t. leb (get_or ns t 0 + more) max_counter) i (counted_targets each zs) (every_chosen (λ t. leb (get_or ns t 0 + more) max_counter) each zs r) t)

    within : (i : ℕ) → i < length ns → get_or (raised_at ys (raised_at xs ns)) i 0 ≤ max_counter
    within i k = go (times i xs) refl (times i ys) refl
      where
        value : get_or (raised_at ys (raised_at xs ns)) i 0 ≡ get_or ns i 0 + times i xs + times i ys
        value = marks_at xs ys 0 ns i k

        few : times i xs + times i ys ≤ more
        few = omega (arith, times_fewer i xs, times_fewer i ys, chosen_fewer each ts, chosen_fewer each us)

        go : (m : ℕ) → times i xs ≡ m → (n : ℕ) → times i ys ≡ n → get_or (raised_at ys (raised_at xs ns)) i 0 ≤ max_counter
        go (suc m) e n f = omega (arith, value, few, room ts a i (omega arith))
        go zero e (suc n) f = omega (arith, value, few, room us b i (omega arith))
        go zero e zero f = omega (arith, value, fit i)

-- where no target's counter is above what leaves room, all have room
module _ (more : ℕ) (entries ns : List ℕ) (h : more ≤ max_counter) where
  fits : (t : ℕ) → leb (get_or ns t 0) (max_counter - more) ≡ leb (get_or ns t 0 + more) max_counter
  fits t = grind (arith, nat_tests)

  pass_from : (n i : ℕ) → list_all (λ k. leb (get_or ns (get_or entries (4 * k) 0) 0) (max_counter - more)) (range_with_len i n) ≡ room_at more (targets_in n (drop (4 * i) entries)) ns
  pass_from zero i = refl
  pass_from (suc n) i =
      let here : get_or (drop (4 * i) entries) 0 0 ≡ get_or entries (4 * i) 0 = get_or-drop (4 * i) entries 0 0 ∙ ap (λ k. get_or entries k 0) (omega arith) in
      let next : drop 4 (drop (4 * i) entries) ≡ drop (4 * (i + 1)) entries = drop-drop 4 (4 * i) entries ∙ ap (λ k. drop k entries) (omega arith) in
      rw (here, next, ← fits (get_or entries (4 * i) 0), pass_from n (i + 1))

  pub room_pass : (n : ℕ) → list_all (λ k. leb (get_or ns (get_or entries (4 * k) 0) 0) (max_counter - more)) (range_with_len 0 n) ≡ room_at more (targets_in n entries) ns
  room_pass n = pass_from n 0
