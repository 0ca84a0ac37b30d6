-- One side of a search: the candidates that are left on it, and the postings that it has examined.
use mathlib.Core.Path.{◌≡◌, refl, sym, ap, ◌∙◌}
use mathlib.Core.Bool.{Bool, true, false}
use mathlib.Core.List.{List, [], ◌∷◌, map}
use Prim.Native.Nat.{ℕ, suc, ◌+◌, ◌-◌, ◌≤◌, ◌<◌}
use native.Mathlib.Omega.{arith}
use lib.ListN.{length, get_or, take, drop}
use Rattle.lists.specs.Filter.{filter, cons_if}
use Rattle.lists.specs.Limit.{go_on, stopped}
use Rattle.lists.proofs.Cases.{by_test}
use Rattle.lists.proofs.Places.{get_or-map}
use Rattle.index_columns.specs.Posting.{Posting}
use Rattle.index_columns.proofs.Rows.{none}
use Rattle.index_seeds.specs.Seeds.{ranks_of, positions_of}
use Rattle.map_places.specs.Place.{Place, place}
use Rattle.map_places.proofs.Placing.{place_eq}
use Rattle.map_candidates.specs.Search.{lies, candidate}
use Rattle.map_candidates.specs.Cursor.{Moved, Taken}
use Rattle.map_candidates.specs.declared.cursor.OrientationCursor.{OrientationCursor}
use Rattle.map_candidates.specs.declared.cursor.Candidate.{Candidate}
use Rattle.map_candidates.proofs.Waiting.{ahead, found_kept, found_examined, nothing-kept, all_examined}

module _ (ss : List (List ℕ)) (n : ℕ) (ps : List Posting) (strand o : ℕ) where
  -- the candidates of postings from `next` up to `end`
  abbrev pub candidates_in : ℕ → ℕ → List Place
  candidates_in next end = map (candidate strand o) (filter (lies ss n o) (ahead ps next end))

  -- ---- one move

  module _ (next end next' : ℕ) (found : Bool) (rank start : ℕ) (ordered : next ≤ end) (inside : end ≤ length ps) (m : Moved (lies ss n o) (ranks_of ps) (positions_of ps) o next end next' found rank start) where
    module _ (f : found ≡ true) where
      last : suc (next' - 1) ≡ next'
      last = omega (arith, m.found_behind f)

      here : candidate strand o (get_or ps (next' - 1) none) ≡ place rank start strand
      here =
          let l : next' - 1 < length ps = omega (arith, (m.found_first f).inside) in
          place_eq (candidate strand o (get_or ps (next' - 1) none)) (place rank start strand)
          (sym (get_or-map (λ (p : Posting). p.rank) none 0 ps (next' - 1) l) ∙ sym (m.found_rank f))
          (ap (λ x. x - o) (sym (get_or-map (λ (p : Posting). p.position) none 0 ps (next' - 1) l)) ∙ sym (m.found_start f))
          refl

    module _ (f : found ≡ false) where
      nothing : ahead ps next' end ≡ []
      nothing = let e : end - next' ≡ 0 = omega (arith, m.none_end f) in ap (λ k. take k (drop next' ps)) e

    move-from : next ≤ next'
    move-from = by_test found (λ f. omega (arith, m.found_behind f)) (λ f. omega (arith, m.none_end f))

    move_upto : next' ≤ end
    move_upto = by_test found (λ f. omega (arith, (m.found_first f).inside, m.found_behind f)) (λ f. omega (arith, m.none_end f))

    -- the candidate found, if any, comes first, and then those behind it
    move-kept : candidates_in next end ≡ cons_if found (place rank start strand) (candidates_in next' end)
    move-kept =
        by_test found
        (λ f. rw f (ap (map (candidate strand o)) (found_kept ss n o ps next end ordered inside (next' - 1) (m.found_first f)) ∙ ap (λ p. p ∷ map (candidate strand o) (filter (lies ss n o) (ahead ps (suc (next' - 1)) end))) (here f) ∙ ap (λ k. place rank start strand ∷ candidates_in k end) (last f)))
        (λ f. rw (f, nothing f) (ap (map (candidate strand o)) (nothing-kept ss n o ps next end ordered inside (m.none_left f))))

    -- a search that may find j more examines the postings up to there, and then those behind
    move_examined : (j : ℕ) → length (stopped (lies ss n o) (ahead ps next end) j) ≡ (next' - next) + length (go_on found j (λ k. stopped (lies ss n o) (ahead ps next' end) k))
    move_examined j =
        by_test found
        (λ f. rw f (rw (last f) at (found_examined ss n o ps next end ordered inside (next' - 1) (m.found_first f) j)))
        (λ f. rw (f, nothing f) (omega (arith, all_examined ss n o ps next end ordered inside (m.none_left f) j, m.none_end f)))

  -- ---- a side

  module _ (begin end : ℕ) where
    -- `passed` candidates were moved on from; of those left the first waits
    pub record Side (passed : ℕ) (r : Candidate) (left : List Place) : Type 0 where
      pub strand_is : r.cursor.strand ≡ strand
      pub offset-is : r.cursor.offset ≡ o
      pub end_is : r.cursor.end ≡ end
      pub from : begin ≤ r.cursor.next
      pub upto : r.cursor.next ≤ end
      pub left_are : left ≡ cons_if r.found (place r.rank r.start strand) (candidates_in r.cursor.next end)
      pub at_end : r.found ≡ false → r.cursor.next ≡ end
      pub examined : (j : ℕ) → (r.cursor.next - begin) + length (go_on r.found j (λ k. stopped (lies ss n o) (ahead ps r.cursor.next end) k)) ≡ length (stopped (lies ss n o) (ahead ps begin end) (passed + j))

    -- what is left begins with the candidate that waits
    pub side_first : (passed : ℕ) (r : Candidate) (left : List Place) → Side passed r left → r.found ≡ true → left ≡ place r.rank r.start strand ∷ candidates_in r.cursor.next end
    side_first passed r left s f = s.left_are ∙ ap (λ b. cons_if b (place r.rank r.start strand) (candidates_in r.cursor.next end)) f

    module _ (passed : ℕ) (r : Candidate) (left : List Place) (s : Side passed r left) where
      none_ahead : r.found ≡ false → ahead ps r.cursor.next end ≡ []
      none_ahead f = let e : end - r.cursor.next ≡ 0 = omega (arith, s.at_end f) in ap (λ k. take k (drop r.cursor.next ps)) e

      -- where no candidate waits none is left
      pub side_none : r.found ≡ false → left ≡ []
      side_none f = s.left_are ∙ rw (f, none_ahead f)

      -- the postings examined so far
      pub side_examined : r.cursor.next - begin ≡ length (stopped (lies ss n o) (ahead ps begin end) passed)
      side_examined =
          let z : passed + 0 ≡ passed = omega arith in
          let e = rw z at (s.examined 0) in
          by_test r.found (λ f. omega (arith, rw f at e)) (λ f. omega (arith, rw (f, none_ahead f) at e))

    module _ (inside : end ≤ length ps) (rs os : List ℕ) (er : rs ≡ ranks_of ps) (eo : os ≡ positions_of ps) (c : OrientationCursor) (r : Candidate) (t : Taken ss n rs os c r) (ec : c.offset ≡ o) (ee : c.end ≡ end) (es : c.strand ≡ strand) (h : c.next ≤ end) where
      move : Moved (lies ss n o) (ranks_of ps) (positions_of ps) o c.next end r.cursor.next r.found r.rank r.start
      move = rw (← er, ← eo, ← ec, ← ee) t.moved

      pub side_start : c.next ≡ begin → Side 0 r (candidates_in begin end)
      side_start e =
          record {
            strand_is = t.strand_kept ∙ es;
            offset-is = t.offset-kept ∙ ec;
            end_is = t.end_kept ∙ ee;
            from = omega (arith, move-from _ _ _ _ _ _ h inside move);
            upto = move_upto _ _ _ _ _ _ h inside move;
            left_are = ap (λ k. candidates_in k end) (sym e) ∙ move-kept _ _ _ _ _ _ h inside move;
            at_end = move.none_end;
            examined = λ j. at j;
          }
        where
          at : (j : ℕ) → (r.cursor.next - begin) + length (go_on r.found j (λ k. stopped (lies ss n o) (ahead ps r.cursor.next end) k)) ≡ length (stopped (lies ss n o) (ahead ps begin end) (0 + j))
          at j =
              let z : 0 + j ≡ j = omega arith in
              rw (z, ← e) (sym (move_examined _ _ _ _ _ _ h inside move j))

      -- the candidate that waited is passed
      pub side_moved : (passed : ℕ) (r₀ : Candidate) (left : List Place) → Side passed r₀ left → r₀.found ≡ true → r₀.cursor ≡ c → Side (passed + 1) r (candidates_in c.next end)
      side_moved passed r₀ left s f e =
          record {
            strand_is = t.strand_kept ∙ es;
            offset-is = t.offset-kept ∙ ec;
            end_is = t.end_kept ∙ ee;
            from = omega (arith, s.from, ap (λ (x : OrientationCursor). x.next) e, move-from _ _ _ _ _ _ h inside move);
            upto = move_upto _ _ _ _ _ _ h inside move;
            left_are = move-kept _ _ _ _ _ _ h inside move;
            at_end = move.none_end;
            examined = λ j. at j;
          }
        where
          at : (j : ℕ) → (r.cursor.next - begin) + length (go_on r.found j (λ k. stopped (lies ss n o) (ahead ps r.cursor.next end) k)) ≡ length (stopped (lies ss n o) (ahead ps begin end) (passed + 1 + j))
          at j =
              let z : passed + 1 + j ≡ passed + suc j = omega arith in
              let b : begin ≤ c.next = omega (arith, s.from, ap (λ (x : OrientationCursor). x.next) e) in
              let u : (c.next - begin) + length (go_on true (suc j) (λ k. stopped (lies ss n o) (ahead ps c.next end) k)) ≡ length (stopped (lies ss n o) (ahead ps begin end) (passed + suc j)) = rw (f, e) at (s.examined (suc j)) in
              rw z (omega (arith, u, b, move-from _ _ _ _ _ _ h inside move, move_examined _ _ _ _ _ _ h inside move j))
