-- The reads of a fragment: what they need, and what they leave.
use mathlib.Core.Path.{◌≡◌, refl, sym, ◌∙◌}
use mathlib.Core.Bool.{Bool, true, false, cond}
use mathlib.Core.List.{List}
use Prim.Native.Nat.{ℕ}
use lib.ListN.{drop}
use Rattle.lists.proofs.Cases.{by_test, clash}
use Rattle.audit_ledger.specs.Booking.{Counters, Books}
use Rattle.audit_ledger.specs.declared.Ledger.{Ledger}
use Rattle.audit_counters.specs.Targets.{targets_in}
use Rattle.audit_book_read.specs.declared.Added.{Added}
use Rattle.std.specs.Prelude.{Option, Some, None}
use Rattle.std.specs.Bool.{then_some}
use Rattle.audit_book_read.specs.Posting.{added_to, ledger_raised, ledger_small, LedgerPosted}
use Rattle.audit_book_read.proofs.Room.{ledger_before}
use Rattle.audit_book_fragment.specs.declared.ReadTally.{ReadTally}
use Rattle.audit_book_fragment.specs.Books.{TalliedRead, tallied_reads, posted_all, counters_raised, counters_posted, counters_small, books_small, CountersRaisable, FragmentRaisable, BooksPosted}
use Rattle.audit_book_fragment.proofs.Raises.{counters_before}

-- ---- a ledger that is told, or not

none_told : (b : Bool) (l : Ledger) → None ≡ cond b (Some l) None → b ≡ false
none_told true l e = cc
none_told false l e = refl

some_told : (b : Bool) (x l : Ledger) → Some x ≡ cond b (Some l) None → (b ≡ true) × (x ≡ l)
some_told true x l e = (refl, (cc))
some_told false x l e = cc

if_small : (r : Bool) (l : Ledger) → then_some r l ≡ cond r (Some l) None
if_small true l = refl
if_small false l = refl

module _ (first second : ReadTally) (two : Bool) (width : ℕ) (entries : List ℕ) (k : Counters) where
  abbrev ts : List ℕ
  ts = targets_in first.groups entries

  abbrev xs : List TalliedRead
  xs = tallied_reads first second two width entries

  -- ---- the counters

  -- the first read has room where both have
  first_small : counters_small (counters_posted xs k) ≡ true → counters_small (counters_raised ts k) ≡ true
  first_small = go two
    where
      go : (b : Bool) → counters_small (counters_posted (tallied_reads first second b width entries) k) ≡ true → counters_small (counters_raised ts k) ≡ true
      go true e = counters_before (targets_in second.groups (drop width entries)) (counters_raised ts k) e
      go false e = e

  pub first_raisable : FragmentRaisable first second two width entries k → CountersRaisable first.groups entries k
  first_raisable p = record { counters = p.postable.counters; targeted = p.postable.first_postable.targeted; fits = first_small p.fits }

  -- ---- what is answered

  module _ (l : Ledger) (a : Added) (ae : a ≡ added_to ts) (x : Option Ledger) (xe : LedgerPosted first.role first.state a l x) where
    abbrev books : Books
    books = record { ledger = l; counters = k }

    abbrev l₁ : Ledger
    l₁ = ledger_raised first.role first.state (added_to ts) l

    abbrev l₂ : Ledger
    l₂ = ledger_raised second.role second.state (added_to (targets_in second.groups (drop width entries))) l₁

    told₁ : x ≡ cond (ledger_small l₁) (Some l₁) None
    told₁ = rw ae at xe

    -- the first read is one too many
    pub first_full : x ≡ None → BooksPosted xs books None
    first_full h = rw (go two (none_told (ledger_small l₁) l₁ (sym h ∙ told₁)))
      where
        go : (b : Bool) → ledger_small l₁ ≡ false → books_small (posted_all (tallied_reads first second b width entries) books) ≡ false
        go true e =
            let s : ledger_small l₂ ≡ false = by_test (ledger_small l₂) (λ t. clash (ledger_before second.role second.state (added_to (targets_in second.groups (drop width entries))) l₁ t) e) (λ f. f) in
            rw s
        go false e = rw e

    module _ (one : Ledger) (is : x ≡ Some one) where
      passed₁ : (ledger_small l₁ ≡ true) × (one ≡ l₁)
      passed₁ = some_told (ledger_small l₁) one l₁ (sym is ∙ told₁)

      module _ (t : two ≡ true) (behind : List ℕ) (q : behind ≡ drop width entries) (b : Added) (be : b ≡ added_to (targets_in second.groups behind)) (y : Option Ledger) (ye : LedgerPosted second.role second.state b one y) where
        told₂ : y ≡ cond (ledger_small l₂) (Some l₂) None
        told₂ = rw (be, q, passed₁.1) at ye

        -- the second is one too many
        pub second_full : y ≡ None → BooksPosted xs books None
        second_full h = rw (t, none_told (ledger_small l₂) l₂ (sym h ∙ told₂))

        pub both_posted : (both : Ledger) → y ≡ Some both → (r : Bool) → r ≡ counters_small (counters_raised (targets_in second.groups behind) (counters_raised ts k)) → BooksPosted xs books (then_some r both)
        both_posted both h r e =
            let p = some_told (ledger_small l₂) both l₂ (sym h ∙ told₂) in
            rw (t, p.0, p.1, ← q, ← e) (if_small r _)
