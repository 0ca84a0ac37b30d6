-- The groups of a read that raise each kind of counter.
use mathlib.Core.Path.{◌≡◌, refl, sym, ap}
use mathlib.Core.Bool.{Bool, true, false, cond}
use mathlib.Core.List.{List, []}
use Prim.Native.Nat.{ℕ, ◌≤◌}
use native.Mathlib.Omega.{arith}
use lib.Dec.{eqb, ltb}
use borrow.Author.Tests.{eqb-true}
use Rattle.audit_ledger.specs.Booking.{single_targets}
use Rattle.audit_counters.specs.Targets.{targets_in, run_ends, Targeted}
use Rattle.audit_counters.proofs.Choosing.{length-targets}
use Rattle.audit_book_read.specs.Posting.{several_runs}
use Rattle.audit_book_fragment.specs.Books.{single_count, several_count}

-- ---- how many

module _ (n : ℕ) where
  -- no more than there are
  pub single_fewer : single_count n ≤ n
  single_fewer = go (eqb n 1) refl
    where
      go : (b : Bool) → eqb n 1 ≡ b → cond b 1 0 ≤ n
      go true e = omega (arith, eqb-true n 1 e)
      go false e = omega arith

  pub several_fewer : several_count n ≤ n
  several_fewer = go (ltb 1 n)
    where
      go : (b : Bool) → cond b n 0 ≤ n
      go true = omega arith
      go false = omega arith

-- ---- which

module _ (n : ℕ) (entries : List ℕ) where
  pub singles_are : targets_in (single_count n) entries ≡ single_targets (targets_in n entries)
  singles_are = rw (length-targets n entries) (go (eqb n 1) refl)
    where
      go : (b : Bool) → eqb n 1 ≡ b → targets_in (cond b 1 0) entries ≡ cond b (targets_in n entries) []
      go true e = ap (λ k. targets_in k entries) (sym (eqb-true n 1 e))
      go false e = refl

  pub several_are : run_ends (targets_in (several_count n) entries) ≡ several_runs (targets_in n entries)
  several_are = rw (length-targets n entries) (go (ltb 1 n))
    where
      go : (b : Bool) → run_ends (targets_in (cond b n 0) entries) ≡ cond b (run_ends (targets_in n entries)) []
      go true = refl
      go false = refl

-- ---- fewer of them

-- the first groups have targets where all have
pub fewer_targeted : (n r : ℕ) (entries : List ℕ) (targets : ℕ) → r ≤ n → Targeted n entries targets → Targeted r entries targets
fewer_targeted n r entries targets h p = record { room = omega (arith, p.room); inside = λ i b. p.inside i (omega arith) }
