-- What a search by index has found and done when it ends.
use mathlib.Core.Path.{◌≡◌, refl, sym, ap, ap₂, ◌∙◌}
use mathlib.Core.Bool.{Bool, true, false, cond, ◌||◌}
use mathlib.Core.List.{List, [], ◌∷◌, ◌++◌, append-nil}
use Prim.Native.Nat.{ℕ, suc, ◌+◌, ◌-◌, ◌<◌}
use native.Mathlib.Omega.{arith}
use lib.ListN.{length, take, length-append}
use lib.Seq.{take-take, take_at}
use lib.Dec.{ltb}
use borrow.Author.Tests.{le-ltb, lt-ltb}
use Rattle.lists.specs.Filter.{filter}
use Rattle.lists.specs.Sort.{merge}
use Rattle.lists.specs.Limit.{go_on, stopped}
use Rattle.lists.proofs.Cases.{by_test, clash}
use Rattle.lists.proofs.Filter.{filter_append, length_filter}
use Rattle.lists.proofs.Limit.{filter_stopped, length_stopped, stopped_append}
use Rattle.buffers.specs.Placed.{placed}
use Rattle.bases.specs.Read.{oriented}
use Rattle.index_model.specs.Index.{index_of}
use Rattle.map_places.specs.Place.{Place, place, before, matches, groups}
use Rattle.map_candidates.specs.Search.{lies, seed_hits, seed_count, lookups_on, chosen, comparable, compared, Rarest}
use Rattle.map_candidates.specs.Cursor.{plus_first}
use Rattle.map_rarest_seed.specs.declared.SeedChoice.{SeedChoice}
use Rattle.map_candidates.specs.declared.cursor.Candidate.{Candidate}
use Rattle.map_candidates.specs.declared.sides.Sides.{Sides}
use Rattle.map_candidates.proofs.Candidates.{comparable_groups}
use Rattle.map_candidates.proofs.Waiting.{length_ahead}
use Rattle.map_every_start.specs.Entries.{entries_of}
use Rattle.map_every_start.specs.Searched.{looked, Searched}
use Rattle.map_every_start.specs.declared.visit.Tally.{Tally}
use Rattle.map_every_start.proofs.Going.{searched_whole, searched_seen}
use Rattle.map_by_index.specs.Work.{on_strand, passed, tallied, work_of, work, by_index}
use Rattle.map_by_index.specs.Steps.{Found, index_work}
use Rattle.map_by_index.specs.declared.work.MappingWork.{MappingWork}
use Rattle.map_by_index.proofs.Seeking.{chosen_offset, chosen_lookups, chosen_hits, in_index}
use Rattle.map_by_index.proofs.Siding.{side_examined}
use Rattle.map_by_index.proofs.Merging.{Chosen, SideOf, Both, both_stop, next_whole, behind, plus_none, minus_none}

-- equal counts make equal work
work_eq : {l l' h h' e e' : ℕ} {t t' : Tally} → l ≡ l' → h ≡ h' → e ≡ e' → t.comparisons ≡ t'.comparisons → t.seen ≡ t'.seen → work_of l h e t ≡ work_of l' h' e' t'
work_eq a b c d e = λ i. record { lookups = a i; hits = b i; examined = c i; comparisons = d i; seen = e i }

-- the entries after a search of a list that has the matches of all places
pub searched_content : (ss : List (List ℕ)) (ranked read : List ℕ) (bound : ℕ) (xs : List Place) (c s : ℕ) (buffer b : List ℕ) → filter (matches ss read) xs ≡ groups ss read → Searched ss ranked read bound xs 0 0 buffer c s b → b ≡ placed 0 (entries_of ranked (length read) (take bound (groups ss read))) buffer
searched_content ss ranked read bound xs c s buffer b e t =
    let z : bound - 0 ≡ bound = omega arith in
    rw z at t.content ∙ ap (λ l. placed 0 (entries_of ranked (length read) l) buffer) (ap (take bound) (filter_stopped (matches ss read) xs bound ∙ ap (take (suc bound)) e) ∙ take-take bound (suc bound) (groups ss read) (omega arith))

module _ (q : ℕ) (ss : List (List ℕ)) (ranked read : List ℕ) (bound : ℕ) (plus minus : SeedChoice) (buffer ks rs os : List ℕ) (ch : Chosen q ss read ks rs os plus minus bound buffer) where
  -- ---- counts of the sides

  examined_on : (strand : ℕ) (choice : SeedChoice) (count : ℕ) (r : Candidate) (left : List Place) → Rarest ks q (oriented strand read) choice.offset choice.start choice.end choice.lookups → SideOf q ss ranked read bound plus minus buffer strand choice count r left → r.cursor.next - choice.start ≡ length (stopped (lies ss (length read) (chosen q ss read strand)) (seed_hits q ss read strand (chosen q ss read strand)) count)
  examined_on strand choice count r left k s =
      side_examined ss (length read) (index_of q ss) strand choice.offset choice.start choice.end count r left s
      ∙ ap (λ l. length (stopped (lies ss (length read) choice.offset) l count)) (sym (chosen_hits q ss ks rs os ch.indexed read strand choice.offset choice.start choice.end choice.lookups k))
      ∙ ap (λ o. length (stopped (lies ss (length read) o) (seed_hits q ss read strand o) count)) (chosen_offset q ss ks rs os ch.indexed read strand choice.offset choice.start choice.end choice.lookups k)

  hits_on : (strand : ℕ) (choice : SeedChoice) → Rarest ks q (oriented strand read) choice.offset choice.start choice.end choice.lookups → choice.end - choice.start ≡ seed_count q ss read strand (chosen q ss read strand)
  hits_on strand choice k =
      sym (length_ahead ss 0 0 (index_of q ss) choice.start choice.end k.range_is.ordered (omega (arith, k.range_is.inside, in_index q ss ks rs os ch.indexed)))
      ∙ ap length (sym (chosen_hits q ss ks rs os ch.indexed read strand choice.offset choice.start choice.end choice.lookups k))
      ∙ ap (seed_count q ss read strand) (chosen_offset q ss ks rs os ch.indexed read strand choice.offset choice.start choice.end choice.lookups k)

  lookups_on_lem : (strand : ℕ) (choice : SeedChoice) → Rarest ks q (oriented strand read) choice.offset choice.start choice.end choice.lookups → choice.lookups ≡ lookups_on q ss read strand
  lookups_on_lem strand choice k = chosen_lookups q ss ks rs os ch.indexed read strand choice.offset choice.start choice.end choice.lookups k

  -- ---- the end of a search

  module _ (sides : Sides) (tally : Tally) (b : List ℕ) (w : MappingWork) (done plus_left minus_left : List Place) (i : w ≡ index_work plus minus sides tally) where
    ended : SideOf q ss ranked read bound plus minus buffer 0 plus (length (filter (on_strand 0) done)) sides.plus plus_left → SideOf q ss ranked read bound plus minus buffer 1 minus (length (filter (on_strand 1) done)) sides.minus minus_left → done ≡ passed q ss read bound → Searched ss ranked read bound (comparable q ss read) 0 0 buffer tally.comparisons tally.seen b → Found (by_index q) ss ranked read bound w buffer b
    unfolding work
    ended p n e t =
        record {
          work_is = i ∙ work_eq {t = tally} {t' = tallied (matches ss read) (compared q ss read bound)} lookups hits examined comparisons seen;
          content = searched_content ss ranked read bound (comparable q ss read) tally.comparisons tally.seen buffer b (comparable_groups q ss read ch.some) t;
        }
      where
        long : ltb (length read) q ≡ false
        long = le-ltb (length read) q ch.long

        z : bound - 0 ≡ bound
        z = omega arith

        lookups : plus.lookups + minus.lookups ≡ (work q ss read bound).lookups
        lookups = rw long (ap₂ ◌+◌ (lookups_on_lem 0 plus ch.plus_chosen) (lookups_on_lem 1 minus ch.minus_chosen))

        hits : (plus.end - plus.start) + (minus.end - minus.start) ≡ (work q ss read bound).hits
        hits = rw long (ap₂ ◌+◌ (hits_on 0 plus ch.plus_chosen) (hits_on 1 minus ch.minus_chosen))

        examined : (sides.plus.cursor.next - plus.start) + (sides.minus.cursor.next - minus.start) ≡ (work q ss read bound).examined
        examined = rw (long, ← e) (ap₂ ◌+◌ (examined_on 0 plus _ sides.plus plus_left ch.plus_chosen p) (examined_on 1 minus _ sides.minus minus_left ch.minus_chosen n))

        comparisons : tally.comparisons ≡ (work q ss read bound).comparisons
        comparisons = omega (arith, rw z at t.comparisons_are)

        seen : tally.seen ≡ (work q ss read bound).seen
        seen = omega (arith, rw z at t.seen_are)

  module _ (sides : Sides) (c s : ℕ) (b : List ℕ) (at : Both q ss ranked read bound plus minus buffer sides c s b) where
    done_seen : s ≡ length (filter (matches ss read) at.done)
    done_seen = omega (arith, searched_seen ss ranked read bound at.done 0 0 buffer c s b (omega arith) at.progress.searched at.progress.within)

    -- no candidate waits
    module _ (w : MappingWork) (i : w ≡ index_work plus minus sides (record { comparisons = c; seen = s })) (over : (sides.plus.found || sides.minus.found) ≡ false) where
      plus_over : sides.plus.found ≡ false
      plus_over = by_test sides.plus.found (λ f. clash refl (rw f at over)) (λ f. f)

      minus_over : sides.minus.found ≡ false
      minus_over = rw plus_over at over

      all_done : at.done ≡ comparable q ss read
      all_done = sym (append-nil at.done) ∙ ap₂ (λ xs ys. at.done ++ merge before xs ys) (sym (plus_none q ss ranked read bound plus minus buffer ks rs os ch sides c s b at plus_over)) (sym (minus_none q ss ranked read bound plus minus buffer ks rs os ch sides c s b at minus_over)) ∙ at.whole

      pub found_all : Found (by_index q) ss ranked read bound w buffer b
      found_all = ended sides (record { comparisons = c; seen = s }) b w at.done at.plus_left at.minus_left i at.plus_side at.minus_side kept (rw (← all_done) at.progress.searched)
        where
          looked_all : compared q ss read bound ≡ at.done
          looked_all =
              let z : bound - 0 ≡ bound = omega arith in
              rw (← all_done) (rw z at (searched_whole ss ranked read bound at.done 0 0 buffer c s b (omega arith) at.progress.searched at.progress.within))

          kept : at.done ≡ passed q ss read bound
          kept = rw (looked_all, le-ltb bound (length (filter (matches ss read) at.done)) (omega (arith, done_seen, at.progress.within)))

    -- the bound stops the search
    module _ (first : Bool) (is_first : first ≡ plus_first sides) (waits : (sides.plus.found || sides.minus.found) ≡ true) (next : Candidate) (is_next : next ≡ cond first sides.plus sides.minus) (c' s' : ℕ) (b' : List ℕ) (t : Searched ss ranked read bound (place next.rank next.start next.cursor.strand ∷ []) c s b c' s' b') (h : bound < s') where
      abbrev rest : List Place
      rest = behind q ss ranked read bound plus minus buffer ks rs os ch sides c s b at first is_first waits next is_next

      matched : (v : Bool) → matches ss read (place next.rank next.start next.cursor.strand) ≡ v → matches ss read (place next.rank next.start next.cursor.strand) ≡ true
      matched true e = e
      matched false e = absurd (omega (arith, at.progress.within, rw e at t.seen_are))

      here : matches ss read (place next.rank next.start next.cursor.strand) ≡ true
      here = matched (matches ss read (place next.rank next.start next.cursor.strand)) refl

      at_bound : s ≡ bound
      at_bound = omega (arith, at.progress.within, t.seen_are, length_filter (matches ss read) (looked ss read bound (place next.rank next.start next.cursor.strand ∷ []) s), length_stopped (matches ss read) (place next.rank next.start next.cursor.strand ∷ []) (bound - s))

      last : compared q ss read bound ≡ at.done ++ (place next.rank next.start next.cursor.strand ∷ [])
      last =
          let z : bound - length (filter (matches ss read) at.done) ≡ 0 = omega (arith, at_bound, done_seen) in
          ap (λ l. stopped (matches ss read) l bound) (sym (next_whole q ss ranked read bound plus minus buffer ks rs os ch sides c s b at first is_first waits next is_next))
          ∙ stopped_append (matches ss read) at.done (place next.rank next.start next.cursor.strand ∷ rest) bound (omega (arith, at_bound, done_seen))
          ∙ ap (λ k. at.done ++ stopped (matches ss read) (place next.rank next.start next.cursor.strand ∷ rest) k) z
          ∙ ap (λ v. at.done ++ (place next.rank next.start next.cursor.strand ∷ go_on v 0 (λ k. stopped (matches ss read) rest k))) here

      pub found_stopped : (w : MappingWork) → w ≡ index_work plus minus sides (record { comparisons = c'; seen = s' }) → Found (by_index q) ss ranked read bound w buffer b'
      found_stopped w i =
          ended sides (record { comparisons = c'; seen = s' }) b' w at.done at.plus_left at.minus_left i at.plus_side at.minus_side kept
          (both_stop q ss ranked read bound plus minus buffer ks rs os ch sides c s b at first is_first waits next is_next c' s' b' t h)
        where
          past : ltb bound (length (filter (matches ss read) (at.done ++ (place next.rank next.start next.cursor.strand ∷ [])))) ≡ true
          past = rw (filter_append, here) (lt-ltb bound (length (filter (matches ss read) at.done ++ (place next.rank next.start next.cursor.strand ∷ []))) (omega (arith, at_bound, done_seen, length-append (filter (matches ss read) at.done) (place next.rank next.start next.cursor.strand ∷ []))))

          kept : at.done ≡ passed q ss read bound
          kept = rw (last, past) (sym (take_at at.done (place next.rank next.start next.cursor.strand ∷ []) (length (at.done ++ (place next.rank next.start next.cursor.strand ∷ [])) - 1) (omega (arith, length-append at.done (place next.rank next.start next.cursor.strand ∷ [])))))
