-- Counts of which one is raised.
use mathlib.Core.Path.{◌≡◌, refl, ap}
use mathlib.Core.List.{List}
use Prim.Native.Nat.{ℕ, ◌<◌, ◌≤◌}
use native.Mathlib.Omega.{arith}
use lib.ListN.{length, get_or}
use lib.Dec.{ltb, eqb}
use borrow.Author.Tests.{eqb-true, eqb-false, ltb-true, lt-ltb}
use Rattle.lists.specs.Raised.{raised}
use Rattle.lists.proofs.Cases.{by_test, same_test}
use Rattle.lists.proofs.Raised.{length-raised, raised_here, raised_elsewhere}
use Rattle.audit_ledger.specs.Booking.{max_counter}
use Rattle.audit_counters.specs.Targets.{small}
use Rattle.audit_counters.proofs.Adding.{at_small, small_at}

-- counts of 64 bits stay so where the one that is raised is not at its limit
pub raised_small : (at : ℕ) (ns : List ℕ) → at < length ns → ((i : ℕ) → get_or ns i 0 ≤ max_counter) → ltb (get_or ns at 0) max_counter ≡ small (raised at ns)
raised_small at ns h fit =
    same_test
    (λ t. at_small (raised at ns) (λ i k. within i (omega (arith, length-raised at ns)) (ltb-true (get_or ns at 0) max_counter t)))
    (λ t. lt-ltb (get_or ns at 0) max_counter (omega (arith, small_at (raised at ns) t at (omega (arith, length-raised at ns)), raised_here at ns at h refl)))
  where
    within : (i : ℕ) → i < length ns → get_or ns at 0 < max_counter → get_or (raised at ns) i 0 ≤ max_counter
    within i k room =
        by_test (eqb i at)
        (λ e. let same = eqb-true i at e in omega (arith, raised_here at ns i k same, ap (λ j. get_or ns j 0) same))
        (λ e. omega (arith, raised_elsewhere at ns i (eqb-false i at e), fit i))
