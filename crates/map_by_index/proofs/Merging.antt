-- The search by index: two sides, of which the one whose candidate is smaller is compared and moves on.
use mathlib.Core.Path.{◌≡◌, refl, sym, ap, ap₂, ◌∙◌}
use mathlib.Core.Bool.{Bool, true, false, cond, not, ◌||◌}
use mathlib.Core.List.{List, [], ◌∷◌, ◌++◌, append-nil, append_assoc}
use mathlib.Core.Logic.{inl, inr}
use Prim.Native.Nat.{ℕ, suc, ◌+◌, ◌*◌, ◌≤◌, ◌<◌}
use native.Mathlib.Omega.{arith}
use lib.ListN.{length, length-append}
use borrow.Author.Tests.{le-ltb, eq-eqb, ne_eqb}
use Rattle.lists.specs.Filter.{filter}
use Rattle.lists.specs.Member.{◌∈◌}
use Rattle.lists.specs.Order.{Ascending}
use Rattle.lists.specs.Sort.{merge}
use Rattle.lists.proofs.Cases.{by_test, clash, and-true}
use Rattle.lists.proofs.Filter.{filter_append}
use Rattle.lists.proofs.Sort.{merge_left, merge_right}
use Rattle.lists.proofs.Member.{∈-append_right}
use Rattle.bases.specs.Read.{oriented}
use Rattle.index_model.specs.Index.{index_of, Indexed, max_starts}
use Rattle.map_places.specs.Place.{Place, place, Fits, before}
use Rattle.map_places.proofs.Placing.{before_order, before_total, places-∈}
use Rattle.map_candidates.specs.Search.{candidates_at, candidates, comparable, Rarest}
use Rattle.map_candidates.specs.Cursor.{plus_first, BothTaken, OneMoved}
use Rattle.map_rarest_seed.specs.declared.SeedChoice.{SeedChoice}
use Rattle.map_candidates.specs.declared.cursor.OrientationCursor.{OrientationCursor}
use Rattle.map_candidates.specs.declared.cursor.Candidate.{Candidate}
use Rattle.map_candidates.specs.declared.sides.Sides.{Sides}
use Rattle.map_candidates.proofs.Candidates.{candidates_ascending, comparable-∈}
use Rattle.map_every_start.specs.Searched.{max_count, Going, Searched}
use Rattle.map_every_start.proofs.Going.{place_differs, Progress, searched_bounded, progress_none, progress_going, progress_more, progress_stop}
use Rattle.map_skip.specs.Passing.{place_of, first_of, PassedOne, PassedOver}
use Rattle.map_skip.proofs.Siding.{steps_fold}
use Rattle.map_by_index.specs.Work.{on_strand}
use Rattle.map_by_index.specs.Steps.{Front}
use Rattle.map_by_index.proofs.Seeking.{chosen_offset, chosen_hits, in_index, comparable_few}
use Rattle.map_by_index.proofs.Siding.{candidates_in, Side, side_start, side_moved, side_first, side_none}

-- the chosen seeds of a read that is not shorter than a seed, and room for the entries of its matches
pub record Chosen (q : ℕ) (ss : List (List ℕ)) (read ks rs os : List ℕ) (plus minus : SeedChoice) (bound : ℕ) (buffer : List ℕ) : Type 0 where
  pub some : 1 ≤ q
  pub long : q ≤ length read
  pub indexed : Indexed q ss ks rs os
  pub plus_chosen : Rarest ks q (oriented 0 read) plus.offset plus.start plus.end plus.lookups
  pub minus_chosen : Rarest ks q (oriented 1 read) minus.offset minus.start minus.end minus.lookups
  pub room : 4 * bound ≤ length buffer
  pub few : length (index_of q ss) ≤ max_starts

module _ (q : ℕ) (ss : List (List ℕ)) (ranked read : List ℕ) (bound : ℕ) (plus minus : SeedChoice) (buffer : List ℕ) where
  -- a side that goes along the postings of a chosen seed
  abbrev pub SideOf : ℕ → SeedChoice → ℕ → Candidate → List Place → Type 0
  SideOf strand choice passed r left = Side ss (length read) (index_of q ss) strand choice.offset choice.start choice.end passed r left

  -- the places in `done` were compared, and the search was not stopped
  pub record Both (sides : Sides) (c s : ℕ) (b : List ℕ) : Type 0 where
    pub done : List Place
    pub plus_left : List Place
    pub minus_left : List Place
    pub plus_side : SideOf 0 plus (length (filter (on_strand 0) done)) sides.plus plus_left
    pub minus_side : SideOf 1 minus (length (filter (on_strand 1) done)) sides.minus minus_left
    pub plus_ascends : Ascending before plus_left
    pub minus_ascends : Ascending before minus_left
    pub whole : done ++ merge before plus_left minus_left ≡ comparable q ss read
    pub progress : Progress ss ranked read bound 0 0 buffer done c s b

  module _ (ks rs os : List ℕ) (ch : Chosen q ss read ks rs os plus minus bound buffer) where
    going : Going bound max_count 0 0 buffer
    going = record { within = omega arith; room = ch.room; countable = omega arith }

    plus_inside : plus.end ≤ length (index_of q ss)
    plus_inside = omega (arith, ch.plus_chosen.range_is.inside, in_index q ss ks rs os ch.indexed)

    minus_inside : minus.end ≤ length (index_of q ss)
    minus_inside = omega (arith, ch.minus_chosen.range_is.inside, in_index q ss ks rs os ch.indexed)

    -- ---- the start

    side_candidates : (strand : ℕ) (choice : SeedChoice) → Rarest ks q (oriented strand read) choice.offset choice.start choice.end choice.lookups → candidates_in ss (length read) (index_of q ss) strand choice.offset choice.start choice.end ≡ candidates_at q ss read strand choice.offset
    side_candidates strand choice r = rw (chosen_hits q ss ks rs os ch.indexed read strand choice.offset choice.start choice.end choice.lookups r)

    chosen_candidates : (strand : ℕ) (choice : SeedChoice) → Rarest ks q (oriented strand read) choice.offset choice.start choice.end choice.lookups → candidates_in ss (length read) (index_of q ss) strand choice.offset choice.start choice.end ≡ candidates q ss read strand
    chosen_candidates strand choice r = side_candidates strand choice r ∙ ap (candidates_at q ss read strand) (chosen_offset q ss ks rs os ch.indexed read strand choice.offset choice.start choice.end choice.lookups r)

    pub both_start : (forward backward : OrientationCursor) (sides : Sides) → Front 0 plus forward → Front 1 minus backward → BothTaken ss (length read) rs os forward backward sides → Both sides 0 0 buffer
    unfolding comparable
    both_start forward backward sides f g t =
        record {
          done = [];
          plus_left = candidates_in ss (length read) (index_of q ss) 0 plus.offset plus.start plus.end;
          minus_left = candidates_in ss (length read) (index_of q ss) 1 minus.offset minus.start minus.end;
          plus_side = side_start ss (length read) (index_of q ss) 0 plus.offset plus.start plus.end plus_inside rs os ch.indexed.ranks ch.indexed.positions forward sides.plus t.plus_taken f.offset-is f.end_is f.strand_is (omega (arith, f.next_is, ch.plus_chosen.range_is.ordered)) f.next_is;
          minus_side = side_start ss (length read) (index_of q ss) 1 minus.offset minus.start minus.end minus_inside rs os ch.indexed.ranks ch.indexed.positions backward sides.minus t.minus_taken g.offset-is g.end_is g.strand_is (omega (arith, g.next_is, ch.minus_chosen.range_is.ordered)) g.next_is;
          plus_ascends = rw (side_candidates 0 plus ch.plus_chosen) (candidates_ascending q ss read 0 plus.offset);
          minus_ascends = rw (side_candidates 1 minus ch.minus_chosen) (candidates_ascending q ss read 1 minus.offset);
          whole = rw (le-ltb (length read) q ch.long) (ap₂ (merge before) (chosen_candidates 0 plus ch.plus_chosen) (chosen_candidates 1 minus ch.minus_chosen));
          progress = progress_none ss ranked read bound 0 0 buffer max_count going;
        }

    -- ---- the next place

    module _ (sides : Sides) (c s : ℕ) (b : List ℕ) (at : Both sides c s b) where
      abbrev plus_place : Place
      plus_place = place sides.plus.rank sides.plus.start 0

      abbrev minus_place : Place
      minus_place = place sides.minus.rank sides.minus.start 1

      -- what is left behind the candidate of each side
      abbrev pub plus_behind : List Place
      plus_behind = candidates_in ss (length read) (index_of q ss) 0 plus.offset sides.plus.cursor.next plus.end

      abbrev pub minus_behind : List Place
      minus_behind = candidates_in ss (length read) (index_of q ss) 1 minus.offset sides.minus.cursor.next minus.end

      plus_splits : sides.plus.found ≡ true → at.plus_left ≡ plus_place ∷ plus_behind
      plus_splits f = side_first ss (length read) (index_of q ss) 0 plus.offset plus.start plus.end _ sides.plus at.plus_left at.plus_side f

      minus_splits : sides.minus.found ≡ true → at.minus_left ≡ minus_place ∷ minus_behind
      minus_splits f = side_first ss (length read) (index_of q ss) 1 minus.offset minus.start minus.end _ sides.minus at.minus_left at.minus_side f

      pub plus_none : sides.plus.found ≡ false → at.plus_left ≡ []
      plus_none f = side_none ss (length read) (index_of q ss) 0 plus.offset plus.start plus.end _ sides.plus at.plus_left at.plus_side f

      pub minus_none : sides.minus.found ≡ false → at.minus_left ≡ []
      minus_none f = side_none ss (length read) (index_of q ss) 1 minus.offset minus.start minus.end _ sides.minus at.minus_left at.minus_side f

      -- a place before the first of an ascending list is before all of it
      before_all : (x y : Place) (ys : List Place) → before x y ≡ true → Ascending before (y ∷ ys) → (z : Place) → z ∈ (y ∷ ys) → before x z ≡ true
      before_all x y ys h a z (inl e) = rw e h
      before_all x y ys h a z (inr m) = before_order.transitive x y z h (a.0 z m)

      -- '+' is first
      module _ (first : plus_first sides ≡ true) where
        plus_waits : sides.plus.found ≡ true
        plus_waits = (and-true sides.plus.found (not sides.minus.found || before plus_place minus_place) first).0

        plus_before : (z : Place) → z ∈ at.minus_left → before plus_place z ≡ true
        plus_before z = by_test sides.minus.found (λ f. rw (minus_splits f) (before_all plus_place minus_place minus_behind (than f) (rw (minus_splits f) at at.minus_ascends) z)) (λ f. rw (minus_none f) (λ m. absurd m))
          where
            than : sides.minus.found ≡ true → before plus_place minus_place ≡ true
            than f = rw f at (and-true sides.plus.found (not sides.minus.found || before plus_place minus_place) first).1

        plus_merged : merge before at.plus_left at.minus_left ≡ plus_place ∷ merge before plus_behind at.minus_left
        plus_merged = rw (plus_splits plus_waits) (merge_left before before_order plus_place plus_behind at.minus_left (rw (plus_splits plus_waits) at at.plus_ascends) plus_before)

      -- '-' is first
      module _ (first : plus_first sides ≡ false) (waits : (sides.plus.found || sides.minus.found) ≡ true) where
        minus_waits : sides.minus.found ≡ true
        minus_waits = by_test sides.minus.found (λ f. f) (λ f. by_test sides.plus.found (λ g. clash refl (rw (g, f) at first)) (λ g. clash (rw (g, f) at waits) refl))

        minus_before : (z : Place) → z ∈ at.plus_left → before minus_place z ≡ true
        minus_before z = by_test sides.plus.found (λ f. rw (plus_splits f) (before_all minus_place plus_place plus_behind (than f) (rw (plus_splits f) at at.plus_ascends) z)) (λ f. rw (plus_none f) (λ m. absurd m))
          where
            than : sides.plus.found ≡ true → before minus_place plus_place ≡ true
            than f = by_test (before minus_place plus_place) (λ e. e) (λ e. absurd (omega (arith, ap (λ (p : Place). p.strand) (before_total plus_place minus_place (rw (f, minus_waits) at first) e))))

        minus_merged : merge before at.plus_left at.minus_left ≡ minus_place ∷ merge before at.plus_left minus_behind
        minus_merged = rw (minus_splits minus_waits) (merge_right before before_order minus_place at.plus_left minus_behind minus_before)

      -- ---- the place compared

      module _ (first : Bool) (is_first : first ≡ plus_first sides) (waits : (sides.plus.found || sides.minus.found) ≡ true) (next : Candidate) (is_next : next ≡ cond first sides.plus sides.minus) where
        abbrev pub next_place : Place
        next_place = place next.rank next.start next.cursor.strand

        abbrev pub behind : List Place
        behind = cond first (merge before plus_behind at.minus_left) (merge before at.plus_left minus_behind)

        next_plus : first ≡ true → next_place ≡ plus_place
        next_plus f = rw (is_next, f) (ap (λ d. place sides.plus.rank sides.plus.start d) at.plus_side.strand_is)

        next_minus : first ≡ false → next_place ≡ minus_place
        next_minus f = rw (is_next, f) (ap (λ d. place sides.minus.rank sides.minus.start d) at.minus_side.strand_is)

        next_splits : merge before at.plus_left at.minus_left ≡ next_place ∷ behind
        next_splits =
            by_test first
            (λ f. plus_merged (sym is_first ∙ f) ∙ ap (λ (p : Place). p ∷ merge before plus_behind at.minus_left) (sym (next_plus f)) ∙ ap (λ b. next_place ∷ cond b (merge before plus_behind at.minus_left) (merge before at.plus_left minus_behind)) (sym f))
            (λ f. minus_merged (sym is_first ∙ f) waits ∙ ap (λ (p : Place). p ∷ merge before at.plus_left minus_behind) (sym (next_minus f)) ∙ ap (λ b. next_place ∷ cond b (merge before plus_behind at.minus_left) (merge before at.plus_left minus_behind)) (sym f))

        pub next_whole : at.done ++ (next_place ∷ behind) ≡ comparable q ss read
        next_whole = ap (λ l. at.done ++ l) (sym next_splits) ∙ at.whole

        pub both_fits : Fits (length read) ss (place next.rank next.start next.cursor.strand)
        both_fits = places-∈ (length read) ss next_place (comparable-∈ q ss read ch.some next_place (rw (← next_whole) (∈-append_right next_place at.done (next_place ∷ behind) (inl refl))))

        pub both_going : Going bound 1 c s b
        both_going = progress_going ss ranked read bound 0 0 buffer max_count going at.done c s b at.progress 1 (omega (arith, ch.few, comparable_few q ss read ch.long, ap length next_whole, length-append at.done (next_place ∷ behind)))

        -- the places compared grow in number, up to a bound of their own
        pub both_fewer : c < 2 * max_starts
        both_fewer = omega (arith, ch.few, comparable_few q ss read ch.long, ap length next_whole, length-append at.done (next_place ∷ behind), searched_bounded ss ranked read bound at.done 0 0 buffer c s b (omega arith) at.progress.searched)

        module _ (c' s' : ℕ) (b' : List ℕ) (t : Searched ss ranked read bound (place next.rank next.start next.cursor.strand ∷ []) c s b c' s' b') where
          pub both_counted : c < c'
          both_counted = omega (arith, t.comparisons_are)

          pub both_stop : bound < s' → Searched ss ranked read bound (comparable q ss read) 0 0 buffer c' s' b'
          both_stop h = rw (← next_whole, ← append_assoc at.done (next_place ∷ []) behind) (progress_stop ss ranked read bound 0 0 buffer max_count going at.done c s b at.progress (next_place ∷ []) c' s' b' t h behind)

          -- one more on its strand, and none on the other
          more_on : (strand : ℕ) (p : Place) → p.strand ≡ strand → length (filter (on_strand strand) at.done) + 1 ≡ length (filter (on_strand strand) (at.done ++ (p ∷ [])))
          more_on strand p e = rw (filter_append, eq-eqb p.strand strand e) (sym (length-append (filter (on_strand strand) at.done) (p ∷ [])))

          same_on : (strand : ℕ) (p : Place) → (p.strand ≡ strand → ⊥) → length (filter (on_strand strand) at.done) ≡ length (filter (on_strand strand) (at.done ++ (p ∷ [])))
          same_on strand p ne = rw (filter_append, ne_eqb p.strand strand ne, append-nil)

          module _ (h : s' ≤ bound) (sides' : Sides) (m : OneMoved ss (length read) rs os first sides sides') where
            plus_more : first ≡ true → Both sides' c' s' b'
            plus_more f =
                record {
                  done = at.done ++ (plus_place ∷ []);
                  plus_left = plus_behind;
                  minus_left = at.minus_left;
                  plus_side = rw (← more_on 0 plus_place refl) (side_moved ss (length read) (index_of q ss) 0 plus.offset plus.start plus.end plus_inside rs os ch.indexed.ranks ch.indexed.positions sides.plus.cursor sides'.plus (m.plus_taken f) at.plus_side.offset-is at.plus_side.end_is at.plus_side.strand_is at.plus_side.upto (length (filter (on_strand 0) at.done)) sides.plus at.plus_left at.plus_side (plus_waits (sym is_first ∙ f)) refl);
                  minus_side = rw (m.minus_stays f, ← same_on 1 plus_place (λ e. omega (arith, e))) at.minus_side;
                  plus_ascends = (rw (plus_splits (plus_waits (sym is_first ∙ f))) at at.plus_ascends).1;
                  minus_ascends = at.minus_ascends;
                  whole = append_assoc at.done (plus_place ∷ []) (merge before plus_behind at.minus_left) ∙ ap (λ l. at.done ++ l) (sym (plus_merged (sym is_first ∙ f))) ∙ at.whole;
                  progress = progress_more ss ranked read bound 0 0 buffer max_count going at.done c s b at.progress (plus_place ∷ []) c' s' b' (rw (← next_plus f) t) h;
                }

            minus_more : first ≡ false → Both sides' c' s' b'
            minus_more f =
                record {
                  done = at.done ++ (minus_place ∷ []);
                  plus_left = at.plus_left;
                  minus_left = minus_behind;
                  plus_side = rw (m.plus_stays f, ← same_on 0 minus_place (λ e. omega (arith, e))) at.plus_side;
                  minus_side = rw (← more_on 1 minus_place refl) (side_moved ss (length read) (index_of q ss) 1 minus.offset minus.start minus.end minus_inside rs os ch.indexed.ranks ch.indexed.positions sides.minus.cursor sides'.minus (m.minus_taken f) at.minus_side.offset-is at.minus_side.end_is at.minus_side.strand_is at.minus_side.upto (length (filter (on_strand 1) at.done)) sides.minus at.minus_left at.minus_side (minus_waits (sym is_first ∙ f) waits) refl);
                  plus_ascends = at.plus_ascends;
                  minus_ascends = (rw (minus_splits (minus_waits (sym is_first ∙ f) waits)) at at.minus_ascends).1;
                  whole = append_assoc at.done (minus_place ∷ []) (merge before at.plus_left minus_behind) ∙ ap (λ l. at.done ++ l) (sym (minus_merged (sym is_first ∙ f) waits)) ∙ at.whole;
                  progress = progress_more ss ranked read bound 0 0 buffer max_count going at.done c s b at.progress (minus_place ∷ []) c' s' b' (rw (← next_minus f) t) h;
                }

            pub both_more : Both sides' c' s' b'
            both_more = by_test first plus_more minus_more

    -- ---- candidates passed over

    one_passed : (sides : Sides) (c s : ℕ) (b : List ℕ) → Both sides c s b → (sides' : Sides) → PassedOne ss read rs os sides sides' → Both sides' (c + 1) s b
    one_passed sides c s b at sides' one =
        both_more sides c s b at (plus_first sides) refl one.waits (first_of sides) refl (c + 1) s b (place_differs ss ranked read bound (place_of (first_of sides)) c s b one.differs) at.progress.within sides' one.moved

    pub both_passed : (k : ℕ) (sides sides' : Sides) (c s : ℕ) (b : List ℕ) → Both sides c s b → PassedOver ss read rs os k sides sides' → Both sides' (c + k) s b
    both_passed k sides sides' c s b at =
        let z : c + 0 ≡ c = omega arith in
        steps_fold (PassedOne ss read rs os) (λ j x. Both x (c + j) s b)
        (λ j x y at' one. (let e : c + suc j ≡ c + j + 1 = omega arith in rw e (one_passed x (c + j) s b at' y one)))
        k sides sides' (rw z at)

    -- no more places are compared than there are
    pub both_few : (sides : Sides) (c s : ℕ) (b : List ℕ) → Both sides c s b → c ≤ 2 * max_starts
    both_few sides c s b at = omega (arith, ch.few, comparable_few q ss read ch.long, ap length at.whole, length-append at.done (merge before at.plus_left at.minus_left), searched_bounded ss ranked read bound at.done 0 0 buffer c s b (omega arith) at.progress.searched)
