-- The postings ahead of a cursor as a list: what it finds in them, and how many it examines.
use mathlib.Core.Path.{◌≡◌, ap, ◌∙◌}
use mathlib.Core.Bool.{true, false}
use mathlib.Core.List.{List, [], ◌∷◌}
use Prim.Native.Nat.{ℕ, suc, ◌+◌, ◌-◌, ◌<◌, ◌≤◌}
use native.Mathlib.Omega.{arith}
use lib.ListN.{length, get_or, take, drop, length-take, length-drop}
use lib.Seq.{get_or-take, get_or-drop, drop-drop}
use Rattle.lists.specs.Filter.{filter}
use Rattle.lists.specs.Limit.{go_on, stopped}
use Rattle.lists.proofs.Filter.{filter_none}
use Rattle.lists.proofs.First.{First, first_kept, first_stopped, none_stopped}
use Rattle.lists.proofs.Places.{get_or-map, drop-take}
use Rattle.index_columns.specs.Posting.{Posting}
use Rattle.index_columns.proofs.Rows.{none}
use Rattle.index_seeds.specs.Seeds.{ranks_of, positions_of}
use Rattle.map_candidates.specs.Search.{lies}
use Rattle.map_candidates.specs.Cursor.{posting_at, FirstAt, NoneFrom}

-- the postings from `next` up to `end`
abbrev pub ahead : List Posting → ℕ → ℕ → List Posting
ahead ps next end = take (end - next) (drop next ps)

module _ (ss : List (List ℕ)) (n o : ℕ) (ps : List Posting) where
  -- the columns' posting lies where the list's does
  lies_at : (i : ℕ) → i < length ps → lies ss n o (get_or ps i none) ≡ lies ss n o (posting_at (ranks_of ps) (positions_of ps) i)
  lies_at i h = rw (get_or-map (λ (p : Posting). p.rank) none 0 ps i h, get_or-map (λ (p : Posting). p.position) none 0 ps i h)

  module _ (next end : ℕ) (ordered : next ≤ end) (inside : end ≤ length ps) where
    pub length_ahead : length (ahead ps next end) ≡ end - next
    length_ahead = omega (arith, length-take (end - next) (drop next ps), length-drop next ps)

    ahead_at : (i : ℕ) → i < end - next → lies ss n o (get_or (ahead ps next end) i none) ≡ lies ss n o (posting_at (ranks_of ps) (positions_of ps) (next + i))
    ahead_at i h = ap (lies ss n o) (get_or-take (end - next) (drop next ps) i none h ∙ get_or-drop next ps i none) ∙ lies_at (next + i) (omega arith)

    module _ (last : ℕ) (f : FirstAt (lies ss n o) (ranks_of ps) (positions_of ps) next end last) where
      place : next + (last - next) ≡ last
      place = omega (arith, f.from)

      first_ahead : First (lies ss n o) none (ahead ps next end) (last - next)
      first_ahead =
          record {
            inside = omega (arith, length_ahead, f.from, f.inside);
            failing = λ i h. ahead_at i (omega (arith, f.inside)) ∙ f.skipped (next + i) (omega arith) (omega arith);
            passing = ahead_at (last - next) (omega (arith, f.from, f.inside)) ∙ ap (λ k. lies ss n o (posting_at (ranks_of ps) (positions_of ps) k)) place ∙ f.here;
          }

      behind : drop (suc (last - next)) (ahead ps next end) ≡ ahead ps (suc last) end
      behind =
          drop-take (suc (last - next)) (end - next) (drop next ps) ∙ ap (take (end - next - suc (last - next))) (drop-drop (suc (last - next)) next ps) ∙ ap (λ k. take (end - next - suc (last - next)) (drop k ps)) there ∙ ap (λ k. take k (drop (suc last) ps)) left
        where
          there : next + suc (last - next) ≡ suc last
          there = omega (arith, f.from)

          left : end - next - suc (last - next) ≡ end - suc last
          left = omega (arith, f.from)

      -- the posting found comes first of those that lie
      pub found_kept : filter (lies ss n o) (ahead ps next end) ≡ get_or ps last none ∷ filter (lies ss n o) (ahead ps (suc last) end)
      found_kept = first_kept (lies ss n o) none (ahead ps next end) (last - next) first_ahead ∙ ap (λ x. x ∷ filter (lies ss n o) (drop (suc (last - next)) (ahead ps next end))) here ∙ ap (λ xs. get_or ps last none ∷ filter (lies ss n o) xs) behind
        where
          here : get_or (ahead ps next end) (last - next) none ≡ get_or ps last none
          here = get_or-take (end - next) (drop next ps) (last - next) none (omega (arith, f.from, f.inside)) ∙ get_or-drop next ps (last - next) none ∙ ap (λ k. get_or ps k none) place

      -- a search that may find m more examines the postings up to it, and then those behind it
      pub found_examined : (m : ℕ) → length (stopped (lies ss n o) (ahead ps next end) m) ≡ (suc last - next) + length (go_on true m (λ k. stopped (lies ss n o) (ahead ps (suc last) end) k))
      found_examined m = omega (arith, f.from, first_stopped (lies ss n o) none (ahead ps next end) (last - next) m first_ahead, ap (λ xs. length (go_on true m (λ k. stopped (lies ss n o) xs k))) behind)

    module _ (h : NoneFrom (lies ss n o) (ranks_of ps) (positions_of ps) next end) where
      none_ahead : (i : ℕ) → i < length (ahead ps next end) → lies ss n o (get_or (ahead ps next end) i none) ≡ false
      none_ahead i l = ahead_at i (omega (arith, length_ahead)) ∙ h (next + i) (omega arith) (omega (arith, length_ahead))

      -- none lies, and every posting is examined
      pub nothing-kept : filter (lies ss n o) (ahead ps next end) ≡ []
      nothing-kept = filter_none (lies ss n o) none (ahead ps next end) none_ahead

      pub all_examined : (m : ℕ) → length (stopped (lies ss n o) (ahead ps next end) m) ≡ end - next
      all_examined m = ap length (none_stopped (lies ss n o) none (ahead ps next end) m none_ahead) ∙ length_ahead
