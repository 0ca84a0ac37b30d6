-- Books that start empty count the reads that were booked.
use mathlib.Core.Path.{◌≡◌, refl, ◌∙◌}
use mathlib.Core.List.{List}
use Prim.Native.Nat.{ℕ, zero, suc}
use native.Mathlib.Omega.{arith}
use lib.ListN.{length, get_or, replicate, length-replicate}
use Rattle.lists.specs.Member.{◌∈◌}
use Rattle.lists.proofs.Sum.{sum-replicate}
use Rattle.audit_ledger.specs.Booking.{Booked, Books, empty_ledger, empty_counters, booked_all, cell}
use Rattle.audit_ledger.specs.Counting.{Bookable, Ranked, Counts}
use Rattle.audit_ledger.proofs.Growing.{Sized, Grown, booked_grown}

-- nothing booked for n targets
abbrev pub empty_books : ℕ → Books
empty_books n = record { ledger = empty_ledger; counters = empty_counters n }

-- each number is 0
get_or_zeros : (n i : ℕ) → ◌≡◌ {A = ℕ} (get_or (replicate n 0) i 0) 0
get_or_zeros zero i = refl
get_or_zeros (suc n) zero = refl
get_or_zeros (suc n) (suc i) = get_or_zeros n i

-- empty books have their size
pub empty_sized : (n : ℕ) → Sized n (empty_books n)
empty_sized n = record { table = refl; reads = refl; placements = length-replicate n 0; singles = length-replicate n 0; multi = length-replicate n 0 }

-- what was added to nothing is counted
grown_counts : (n : ℕ) (ranked : List ℕ) (bs : List Booked) (books : Books) → Grown n ranked bs (empty_books n) books → Counts n ranked bs books
grown_counts n ranked bs books g =
    record {
      states = λ role state hr hs. omega (arith, g.states role state hr hs, get_or_zeros 18 (cell role state));
      reads = λ role hr. omega (arith, g.reads role hr, get_or_zeros 3 role);
      placements = λ t h. omega (arith, g.placements t h, get_or_zeros n t);
      singles = λ t h. omega (arith, g.singles t h, get_or_zeros n t);
      multi = λ t h. omega (arith, g.multi t h, get_or_zeros n t);
      unranked = λ t h. (g.other_placements t h ∙ get_or_zeros n t, g.other_singles t h ∙ get_or_zeros n t, g.other_multi t h ∙ get_or_zeros n t);
      total_placements = omega (arith, g.total_placements, sum-replicate n);
      total_singles = omega (arith, g.total_singles, sum-replicate n);
      total_multi = omega (arith, g.total_multi, sum-replicate n);
      indeterminate = g.indeterminate;
    }

-- reads booked into empty books are counted
pub booked_counts : (n : ℕ) (ranked : List ℕ) → Ranked n ranked → (bs : List Booked) → ((b : Booked) → b ∈ bs → Bookable (length ranked) b) → Counts n ranked bs (booked_all ranked bs (record { ledger = empty_ledger; counters = empty_counters n }))
booked_counts n ranked r bs k = grown_counts n ranked bs (booked_all ranked bs (empty_books n)) (booked_grown n ranked r bs k (empty_books n) (empty_sized n))
