-- Candidates of one side passed over, one after the other.
use mathlib.Core.Path.{◌≡◌, refl, sym}
use mathlib.Core.Bool.{true}
use mathlib.Core.List.{List, []}
use Prim.Native.Nat.{ℕ, ◌+◌, ◌-◌, ◌≤◌}
use native.Mathlib.Omega.{arith}
use native.Mathlib.Numerals.{add-one}
use lib.ListN.{length, get_or}
use lib.Dec.{leb}
use borrow.Author.Tests.{leb-true}
use Rattle.lists.proofs.Cases.{and-true, clash}
use Rattle.index_seeds.specs.Window.{fits_in}
use Rattle.map_places.specs.Place.{matches}
use Rattle.map_candidates.specs.Search.{fits}
use Rattle.map_candidates.specs.Cursor.{Taken}
use Rattle.map_candidates.specs.declared.cursor.Candidate.{Candidate}
use Rattle.map_skip.specs.Passing.{Skipped, Followed}

-- the candidate of a side at a start, in front of posting i
abbrev pub candidate_at : Candidate → ℕ → ℕ → Candidate
candidate_at c start i =
    record {
      cursor = record { strand = c.cursor.strand; offset = c.cursor.offset; next = i; end = c.cursor.end };
      found = true;
      rank = c.rank;
      start = start;
    }

module _ (ss : List (List ℕ)) (read rs os : List ℕ) (first : Candidate) (limit : ℕ) where
  -- as many candidates as counted are passed over, and the one at the start waits
  pub record Passing (start i count : ℕ) : Type 0 where
    pub next : first.cursor.next + count ≡ i
    pub inside : start + length read ≤ length (get_or ss first.rank [])
    pub skipped : Skipped ss read rs os first.rank limit count first (candidate_at first start i)

  module _ (start i count : ℕ) (p : Passing start i count) (s : List ℕ) (is : s ≡ get_or ss first.rank []) (f : Followed s read rs os first.cursor first.rank limit start i) where
    lies_next : fits (get_or ss (get_or rs i 0) []) (length read) first.cursor.offset (get_or os i 0) ≡ true
    lies_next = rw (f.ranked, ← is) f.room

    taken_next : Taken ss (length read) rs os (candidate_at first start i).cursor (candidate_at first (get_or os i 0 - first.cursor.offset) (i + 1))
    taken_next =
        record {
          moved = record {
            found_first = λ e. rw last (record { from = omega arith; inside = f.inside; skipped = λ j h l. absurd (omega arith); here = lies_next });
            found_rank = λ e. rw last (sym f.ranked);
            found_start = λ e. rw last refl;
            found_behind = λ e. omega arith;
            none_left = λ e. clash refl e;
            none_end = λ e. clash refl e;
            none_rank = λ e. clash refl e;
            none_start = λ e. clash refl e;
          };
          strand_kept = refl;
          offset-kept = refl;
          end_kept = refl;
        }
      where
        last : i + 1 - 1 ≡ i
        last = omega arith

    pub passing_next : (start' i' count' : ℕ) → start' ≡ get_or os i 0 - first.cursor.offset → i' ≡ i + 1 → count' ≡ count + 1 → Passing start' i' count'
    unfolding matches
    passing_next start' i' count' es ei ec =
        rw (es, ei, ec)
        (record {
          next = omega (arith, p.next);
          inside = omega (arith, leb-true (get_or os i 0 - first.cursor.offset + length read) (length (get_or ss first.rank [])) (rw is at (and-true (leb first.cursor.offset (get_or os i 0)) (fits_in (length read) s (get_or os i 0 - first.cursor.offset)) f.room).1));
          skipped = rw (add-one count) (candidate_at first start i, (p.skipped, record { waits = refl; here = refl; early = f.early; differs = rw (← is) f.differs; taken = taken_next }));
        })
