-- Reads booked in two parts; booking keeps the lengths of what is kept.
use mathlib.Core.Path.{◌≡◌, refl}
use mathlib.Core.Bool.{true, ◌&&◌}
use mathlib.Core.List.{List, [], ◌∷◌, ◌++◌}
use Prim.Native.Nat.{ℕ}
use native.Mathlib.Omega.{arith}
use lib.ListN.{length, length-set}
use borrow.Author.Tests.{eqb-true}
use lib.Dec.{eqb}
use Rattle.lists.proofs.Cases.{and-true}
use Rattle.lists.proofs.Raised.{length-raised_at}
use Rattle.audit_ledger.specs.Booking.{Booked, Counters, Books, counters_for, CountersFor, targets_of, single_targets, multi_targets, booked_one, booked_all}

-- counters that pass the test
pub each_counter : (n : ℕ) (k : Counters) → counters_for n k ≡ true → CountersFor n k
each_counter n k t =
    let u = and-true (eqb (length k.placements) n && eqb (length k.singles) n) (eqb (length k.multi) n) t in
    let v = and-true (eqb (length k.placements) n) (eqb (length k.singles) n) u.0 in
    record { placements = eqb-true (length k.placements) n v.0; singles = eqb-true (length k.singles) n v.1; multi = eqb-true (length k.multi) n u.1 }

-- the first reads, then the others
pub booked_append : (ranked : List ℕ) (bs ds : List Booked) (books : Books) → booked_all ranked (bs ++ ds) books ≡ booked_all ranked ds (booked_all ranked bs books)
booked_append ranked [] ds books = refl
booked_append ranked (b ∷ bs) ds books = booked_append ranked bs ds (booked_one ranked b books)

-- books whose lists are as long as those of others
pub record SameLengths (books after : Books) : Type 0 where
  pub table : length after.ledger.table ≡ length books.ledger.table
  pub reads : length after.ledger.reads ≡ length books.ledger.reads
  pub placements : length after.counters.placements ≡ length books.counters.placements
  pub singles : length after.counters.singles ≡ length books.counters.singles
  pub multi : length after.counters.multi ≡ length books.counters.multi

-- of a read
pub one_lengths : (ranked : List ℕ) (b : Booked) (books : Books) → SameLengths books (booked_one ranked b books)
one_lengths ranked b books =
    record {
      table = simp length-set;
      reads = simp length-set;
      placements = omega (arith, length-raised_at (targets_of ranked b.groups) books.counters.placements);
      singles = omega (arith, length-raised_at (single_targets (targets_of ranked b.groups)) books.counters.singles);
      multi = omega (arith, length-raised_at (multi_targets (targets_of ranked b.groups)) books.counters.multi);
    }

-- of reads
pub booked_lengths : (ranked : List ℕ) (bs : List Booked) (books : Books) → SameLengths books (booked_all ranked bs books)
booked_lengths ranked [] books = record { table = refl; reads = refl; placements = refl; singles = refl; multi = refl }
booked_lengths ranked (b ∷ bs) books =
    let one = one_lengths ranked b books in
    let rest = booked_lengths ranked bs (booked_one ranked b books) in
    record { table = omega arith; reads = omega arith; placements = omega arith; singles = omega arith; multi = omega arith }
