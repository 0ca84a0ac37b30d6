-- The counters raised by reads, and whether they have 64 bits.
use mathlib.Core.Path.{◌≡◌, ◌∙◌}
use mathlib.Core.Bool.{Bool, true, false, ◌&&◌}
use mathlib.Core.List.{List}
use Prim.Native.Nat.{ℕ}
use lib.ListN.{length}
use Rattle.lists.specs.Raised.{raised_at}
use Rattle.lists.proofs.Cases.{and-true}
use Rattle.audit_ledger.specs.Booking.{Counters, single_targets, counters_of}
use Rattle.audit_counters.specs.Targets.{targets_in, counted_targets, small, Raisable}
use Rattle.audit_counters.proofs.Adding.{small-before}
use Rattle.audit_book_read.specs.Posting.{several_runs}
use Rattle.audit_book_fragment.specs.Books.{counters_raised, single_count, several_count, counters_small, CountersRaisable}
use Rattle.audit_book_fragment.proofs.Groups.{single_fewer, several_fewer, singles_are, several_are, fewer_targeted}

-- ---- of 64 bits

-- what is so of each kind
pub record EachSmall (k : Counters) : Type 0 where
  pub placements : small k.placements ≡ true
  pub singles : small k.singles ≡ true
  pub multi : small k.multi ≡ true

pub each_small : (k : Counters) → counters_small k ≡ true → EachSmall k
each_small k e =
    let (ps, m) = and-true (small k.placements && small k.singles) (small k.multi) e in
    let (p, s) = and-true (small k.placements) (small k.singles) ps in
    record { placements = p; singles = s; multi = m }

pub all_small : (k : Counters) → EachSmall k → counters_small k ≡ true
all_small k h = rw (h.placements, h.singles, h.multi)

-- counters only grow
pub counters_before : (ts : List ℕ) (k : Counters) → counters_small (counters_raised ts k) ≡ true → counters_small k ≡ true
counters_before ts k e =
    let h = each_small (counters_raised ts k) e in
    all_small k
    (record {
      placements = small-before ts k.placements h.placements;
      singles = small-before (single_targets ts) k.singles h.singles;
      multi = small-before (several_runs ts) k.multi h.multi;
    })

-- ---- raised by one read

module _ (n : ℕ) (entries : List ℕ) (k : Counters) (p : CountersRaisable n entries k) where
  h : EachSmall (counters_raised (targets_in n entries) k)
  h = each_small (counters_raised (targets_in n entries) k) p.fits

  pub singles_raisable : (r : ℕ) → r ≡ single_count n → Raisable true r entries k.singles
  singles_raisable r e =
      rw e
      (record {
        targeted = rw p.counters.each.singles (fewer_targeted n (single_count n) entries (length k.placements) (single_fewer n) p.targeted);
        fits = rw (singles_are n entries) h.singles;
      })

  pub multi_raisable : (r : ℕ) → r ≡ several_count n → Raisable false r entries k.multi
  multi_raisable r e =
      rw e
      (record {
        targeted = rw p.counters.each.multi (fewer_targeted n (several_count n) entries (length k.placements) (several_fewer n) p.targeted);
        fits = rw (several_are n entries) h.multi;
      })

-- what the three raises leave
pub raised_are : (n : ℕ) (entries : List ℕ) (k : Counters) (s m : ℕ) → s ≡ single_count n → m ≡ several_count n → (p' s' m' : List ℕ) → p' ≡ raised_at (targets_in n entries) k.placements → s' ≡ raised_at (targets_in s entries) k.singles → m' ≡ raised_at (counted_targets false (targets_in m entries)) k.multi → counters_of p' s' m' ≡ counters_raised (targets_in n entries) k
raised_are n entries k s m f g p' s' m' p q t = rw (p, q, t, f, g, singles_are n entries, several_are n entries)

-- ---- by two

module _ (n : ℕ) (first : List ℕ) (m : ℕ) (second : List ℕ) (k : Counters) where
  abbrev pub both : Counters
  both = counters_raised (targets_in m second) (counters_raised (targets_in n first) k)

  pub singles_fit : (r q : ℕ) → r ≡ single_count n → q ≡ single_count m → (t : Bool) → t ≡ small (raised_at (targets_in q second) (raised_at (targets_in r first) k.singles)) → t ≡ small both.singles
  singles_fit r q e f t h = h ∙ rw (e, f, singles_are n first, singles_are m second)

  pub multi_fit : (r q : ℕ) → r ≡ several_count n → q ≡ several_count m → (t : Bool) → t ≡ small (raised_at (counted_targets false (targets_in q second)) (raised_at (counted_targets false (targets_in r first)) k.multi)) → t ≡ small both.multi
  multi_fit r q e f t h = h ∙ rw (e, f, several_are n first, several_are m second)
