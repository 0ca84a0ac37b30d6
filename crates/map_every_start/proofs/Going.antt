-- A search that goes on from list to list, and stops past its bound.
use mathlib.Core.Path.{◌≡◌, refl, sym, ap, ◌∙◌}
use mathlib.Core.Bool.{true, false}
use mathlib.Core.List.{List, [], ◌∷◌, ◌++◌}
use Prim.Native.Nat.{ℕ, zero, suc, ◌+◌, ◌-◌, ◌*◌, ◌≤◌, ◌<◌}
use native.Mathlib.Omega.{arith}
use lib.ListN.{length, get_or, take, length-append, length-take}
use lib.Seq.{take_all, take-append-add}
use Rattle.lists.specs.Filter.{filter}
use Rattle.lists.specs.Limit.{stopped}
use Rattle.lists.proofs.Filter.{filter_append}
use Rattle.lists.proofs.Limit.{filter_stopped, length_stopped, stopped_whole, stopped_append, stopped_front}
use Rattle.buffers.specs.Placed.{placed}
use Rattle.buffers.proofs.Storing.{placed_none, length-placed, placed-placed}
use Rattle.map_places.specs.Place.{Place, matches}
use Rattle.map_every_start.specs.Entries.{entry_of, entries_of}
use Rattle.map_every_start.specs.Searched.{Going, looked, Searched}

-- ---- entries

pub length-entries : (ranked : List ℕ) (n : ℕ) (ps : List Place) → length (entries_of ranked n ps) ≡ 4 * length ps
length-entries ranked n [] = refl
length-entries ranked n (p ∷ ps) = omega (arith, length-entries ranked n ps)

pub entries_append : (ranked : List ℕ) (n : ℕ) (ps qs : List Place) → entries_of ranked n (ps ++ qs) ≡ entries_of ranked n ps ++ entries_of ranked n qs
entries_append ranked n [] qs = refl
entries_append ranked n (p ∷ ps) qs = rw (entries_append ranked n ps qs)

-- ---- the search of one place

module _ (ss : List (List ℕ)) (ranked read : List ℕ) (bound : ℕ) where
  module _ (p : Place) (comparisons seen : ℕ) (buffer : List ℕ) where
    pub place_differs : matches ss read p ≡ false → Searched ss ranked read bound (p ∷ []) comparisons seen buffer (comparisons + 1) seen buffer
    place_differs e =
        record {
          comparisons_are = rw e;
          seen_are = rw e (omega arith);
          content = rw e (at (bound - seen));
        }
      where
        at : (k : ℕ) → buffer ≡ placed (4 * seen) (entries_of ranked (length read) (take k [])) buffer
        at zero = placed_none (4 * seen) buffer
        at (suc k) = placed_none (4 * seen) buffer

    pub place_past : matches ss read p ≡ true → seen ≡ bound → Searched ss ranked read bound (p ∷ []) comparisons seen buffer (comparisons + 1) (seen + 1) buffer
    place_past e f =
        record {
          comparisons_are = rw (none, e);
          seen_are = rw (none, e);
          content = rw none (placed_none (4 * seen) buffer);
        }
      where
        none : bound - seen ≡ 0
        none = omega arith

    pub place-entered : matches ss read p ≡ true → seen < bound → Searched ss ranked read bound (p ∷ []) comparisons seen buffer (comparisons + 1) (seen + 1) (placed (4 * seen) (entry_of (get_or ranked p.rank 0) p.start (p.start + length read) p.strand) buffer)
    place-entered e h =
        record {
          comparisons_are = rw (some, e);
          seen_are = rw (some, e);
          content = rw (some, e) (at (bound - suc seen));
        }
      where
        some : bound - seen ≡ suc (bound - suc seen)
        some = omega arith

        one : Place → List ℕ
        one p = entry_of (get_or ranked p.rank 0) p.start (p.start + length read) p.strand

        at : (k : ℕ) → placed (4 * seen) (one p) buffer ≡ placed (4 * seen) (entries_of ranked (length read) (p ∷ take k [])) buffer
        at zero = refl
        at (suc k) = refl

  -- ---- from list to list

  pub searched_none : (comparisons seen : ℕ) (buffer : List ℕ) → Searched ss ranked read bound [] comparisons seen buffer comparisons seen buffer
  searched_none comparisons seen buffer = record { comparisons_are = omega arith; seen_are = omega arith; content = at (bound - seen) }
    where
      at : (k : ℕ) → buffer ≡ placed (4 * seen) (entries_of ranked (length read) (take k [])) buffer
      at zero = placed_none (4 * seen) buffer
      at (suc k) = placed_none (4 * seen) buffer

  module _ (xs : List Place) (comparisons seen : ℕ) (buffer : List ℕ) (comparisons' seen' : ℕ) (buffer' : List ℕ) (within : seen ≤ bound) (s : Searched ss ranked read bound xs comparisons seen buffer comparisons' seen' buffer') where
    kept : length (filter (matches ss read) (looked ss read bound xs seen)) ≡ length (take (suc (bound - seen)) (filter (matches ss read) xs))
    kept = ap length (filter_stopped (matches ss read) xs (bound - seen))

    few : seen' ≤ bound → length (filter (matches ss read) xs) ≤ bound - seen
    few h = omega (arith, s.seen_are, kept, length-take (suc (bound - seen)) (filter (matches ss read) xs))

    many : bound < seen' → bound - seen < length (filter (matches ss read) xs)
    many h = omega (arith, s.seen_are, kept, length-take (suc (bound - seen)) (filter (matches ss read) xs))

    -- a search that is not stopped looked at the whole list
    pub searched_whole : seen' ≤ bound → looked ss read bound xs seen ≡ xs
    searched_whole h = stopped_whole (matches ss read) xs (bound - seen) (few h)

    pub searched_seen : seen' ≤ bound → seen' ≡ seen + length (filter (matches ss read) xs)
    searched_seen h = s.seen_are ∙ ap (λ l. seen + length (filter (matches ss read) l)) (searched_whole h)

    pub searched_bounded : comparisons' ≤ comparisons + length xs
    searched_bounded = omega (arith, s.comparisons_are, length_stopped (matches ss read) xs (bound - seen))

    pub searched_length : 4 * bound ≤ length buffer → length buffer' ≡ length buffer
    searched_length room =
        ap length s.content ∙ length-placed (4 * seen) (entries_of ranked (length read) (take (bound - seen) (filter (matches ss read) (looked ss read bound xs seen)))) buffer
        (omega (arith, length-entries ranked (length read) (take (bound - seen) (filter (matches ss read) (looked ss read bound xs seen))), length-take (bound - seen) (filter (matches ss read) (looked ss read bound xs seen))))

    -- a stopped search of a list is one of any longer list
    pub searched_stop : bound < seen' → (ys : List Place) → Searched ss ranked read bound (xs ++ ys) comparisons seen buffer comparisons' seen' buffer'
    searched_stop h ys =
        record {
          comparisons_are = rw same s.comparisons_are;
          seen_are = rw same s.seen_are;
          content = rw same s.content;
        }
      where
        same : stopped (matches ss read) (xs ++ ys) (bound - seen) ≡ stopped (matches ss read) xs (bound - seen)
        same = stopped_front (matches ss read) xs ys (bound - seen) (many h)

    -- one that is not stopped goes on
    pub searched_on : seen' ≤ bound → 4 * bound ≤ length buffer → (ys : List Place) (comparisons'' seen'' : ℕ) (buffer'' : List ℕ) → Searched ss ranked read bound ys comparisons' seen' buffer' comparisons'' seen'' buffer'' → Searched ss ranked read bound (xs ++ ys) comparisons seen buffer comparisons'' seen'' buffer''
    searched_on h room ys comparisons'' seen'' buffer'' t =
        record {
          comparisons_are = rw both (omega (arith, length-append xs behind, ap length (searched_whole h), s.comparisons_are, t.comparisons_are));
          seen_are = rw (both, filter_append) (omega (arith, length-append (filter (matches ss read) xs) (filter (matches ss read) behind), searched_seen h, t.seen_are));
          content = rw (both, filter_append) (t.content ∙ ap (λ b. placed (4 * seen') (rows later) b) first ∙ at);
        }
      where
        behind : List Place
        behind = looked ss read bound ys seen'

        left : bound - seen - length (filter (matches ss read) xs) ≡ bound - seen'
        left = omega (arith, searched_seen h)

        both : stopped (matches ss read) (xs ++ ys) (bound - seen) ≡ xs ++ behind
        both = stopped_append (matches ss read) xs ys (bound - seen) (few h) ∙ ap (λ k. xs ++ stopped (matches ss read) ys k) left

        rows : List Place → List ℕ
        rows ps = entries_of ranked (length read) ps

        earlier : List Place
        earlier = filter (matches ss read) xs

        later : List Place
        later = take (bound - seen') (filter (matches ss read) behind)

        first : buffer' ≡ placed (4 * seen) (rows earlier) buffer
        first = s.content ∙ ap (λ l. placed (4 * seen) (rows (take (bound - seen) (filter (matches ss read) l))) buffer) (searched_whole h) ∙ ap (λ l. placed (4 * seen) (rows l) buffer) (take_all (bound - seen) earlier (few h))

        joined : take (bound - seen) (earlier ++ filter (matches ss read) behind) ≡ earlier ++ later
        joined = let e : length earlier + (bound - seen') ≡ bound - seen = omega (arith, searched_seen h) in ap (λ n. take n (earlier ++ filter (matches ss read) behind)) (sym e) ∙ take-append-add earlier (filter (matches ss read) behind) (bound - seen')

        there : 4 * seen' ≡ 4 * seen + length (rows earlier)
        there = omega (arith, searched_seen h, length-entries ranked (length read) earlier)

        at : placed (4 * seen') (rows later) (placed (4 * seen) (rows earlier) buffer) ≡ placed (4 * seen) (rows (take (bound - seen) (earlier ++ filter (matches ss read) behind))) buffer
        at =
            ap (λ k. placed k (rows later) (placed (4 * seen) (rows earlier) buffer)) there
            ∙ placed-placed (4 * seen) (rows earlier) buffer (rows later) (omega (arith, searched_seen h, length-entries ranked (length read) earlier, length-entries ranked (length read) later, length-take (bound - seen') (filter (matches ss read) behind)))
            ∙ ap (λ l. placed (4 * seen) l buffer) (sym (entries_append ranked (length read) earlier later))
            ∙ ap (λ l. placed (4 * seen) (rows l) buffer) (sym joined)

  -- ---- a search under way

  module _ (comparisons seen : ℕ) (buffer : List ℕ) where
    -- a list was searched, and the search was not stopped
    pub record Progress (done : List Place) (comparisons' seen' : ℕ) (buffer' : List ℕ) : Type 0 where
      pub searched : Searched ss ranked read bound done comparisons seen buffer comparisons' seen' buffer'
      pub within : seen' ≤ bound

    module _ (more : ℕ) (g : Going bound more comparisons seen buffer) where
      pub progress_none : Progress [] comparisons seen buffer
      progress_none = record { searched = searched_none comparisons seen buffer; within = g.within }

      module _ (done : List Place) (c s : ℕ) (b : List ℕ) (at : Progress done c s b) where
        pub progress_length : length b ≡ length buffer
        progress_length = searched_length done comparisons seen buffer c s b g.within at.searched g.room

        -- where done and k more can be counted, k more can be counted now
        pub progress_going : (k : ℕ) → length done + k ≤ more → Going bound k c s b
        progress_going k h =
            record {
              within = at.within;
              room = omega (arith, progress_length, g.room);
              countable = omega (arith, searched_bounded done comparisons seen buffer c s b g.within at.searched, g.countable);
            }

        module _ (next : List Place) (c' s' : ℕ) (b' : List ℕ) (t : Searched ss ranked read bound next c s b c' s' b') where
          joined : Searched ss ranked read bound (done ++ next) comparisons seen buffer c' s' b'
          joined = searched_on done comparisons seen buffer c s b g.within at.searched at.within g.room next c' s' b' t

          pub progress_more : s' ≤ bound → Progress (done ++ next) c' s' b'
          progress_more h = record { searched = joined; within = h }

          pub progress_stop : bound < s' → (rest : List Place) → Searched ss ranked read bound ((done ++ next) ++ rest) comparisons seen buffer c' s' b'
          progress_stop h rest = searched_stop (done ++ next) comparisons seen buffer c' s' b' g.within joined h rest
