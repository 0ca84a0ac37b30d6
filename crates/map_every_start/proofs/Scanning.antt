-- The search at every start, start by start and rank by rank.
use mathlib.Core.Path.{◌≡◌, refl, sym, ap, ◌∙◌}
use mathlib.Core.List.{List, [], ◌∷◌, ◌++◌, append-nil, append_assoc}
use Prim.Native.Nat.{ℕ, zero, suc, ◌+◌, ◌-◌, ◌*◌, ◌≤◌, ◌<◌}
use native.Mathlib.Omega.{arith}
use lib.ListN.{length, get_or, take, drop, length-append}
use lib.Seq.{take_all}
use Rattle.index_seeds.specs.Window.{starts}
use Rattle.catalogue.specs.Catalogue.{max_targets, max_bases}
use Rattle.map_places.specs.Place.{Place, place, places_in, places_from, places}
use Rattle.map_every_start.specs.Searched.{max_places, Going, Searched}
use Rattle.map_every_start.proofs.Going.{Progress, progress_going, progress_more, progress_stop}

-- ---- places, one start and one rank more

length-places_in : (r s k : ℕ) → length (places_in r s k) ≡ 2 * k
length-places_in r s zero = refl
length-places_in r s (suc k) = omega (arith, length-places_in r (suc s) k)

places_from_more : (r n k : ℕ) (ss : List (List ℕ)) → k < length ss → places_from r n (take (k + 1) ss) ≡ places_from r n (take k ss) ++ places_in (r + k) 0 (starts n (get_or ss k []))
places_from_more r n k [] h = absurd (omega arith)
places_from_more r n zero (s ∷ ss) h = let e : r + 0 ≡ r = omega arith in rw e (append-nil (places_in r 0 (starts n s)))
places_from_more r n (suc k) (s ∷ ss) h =
    let e : suc r + k ≡ r + suc k = omega arith in
    let f : suc k + 1 ≡ suc (k + 1) = omega arith in
    ap (λ j. places_from r n (take j (s ∷ ss))) f ∙ ap (λ l. places_in r 0 (starts n s) ++ l) (places_from_more (suc r) n k ss (omega arith) ∙ ap (λ j. places_from (suc r) n (take k ss) ++ places_in j 0 (starts n (get_or ss k []))) e)
    ∙ sym (append_assoc (places_in r 0 (starts n s)) (places_from (suc r) n (take k ss)) (places_in (r + suc k) 0 (starts n (get_or ss k []))))

places_in-split : (r s k j : ℕ) → places_in r s (k + j) ≡ places_in r s k ++ places_in r (s + k) j
places_in-split r s zero j = let e : s + 0 ≡ s = omega arith in let f : 0 + j ≡ j = omega arith in rw (e, f)
places_in-split r s (suc k) j =
    let e : suc s + k ≡ s + suc k = omega arith in
    let f : suc k + j ≡ suc (k + j) = omega arith in
    rw f (ap (λ (l : List Place). place r s 0 ∷ place r s 1 ∷ l) (places_in-split r (suc s) k j ∙ ap (λ i. places_in r (suc s) k ++ places_in r i j) e))

places_from-split : (r n k : ℕ) (ss : List (List ℕ)) → places_from r n ss ≡ places_from r n (take k ss) ++ places_from (r + k) n (drop k ss)
places_from-split r n zero ss = let e : r + 0 ≡ r = omega arith in rw e
places_from-split r n (suc k) [] = refl
places_from-split r n (suc k) (s ∷ ss) =
    let e : suc r + k ≡ r + suc k = omega arith in
    ap (λ l. places_in r 0 (starts n s) ++ l) (places_from-split (suc r) n k ss ∙ ap (λ j. places_from (suc r) n (take k ss) ++ places_from j n (drop k ss)) e)
    ∙ sym (append_assoc (places_in r 0 (starts n s)) (places_from (suc r) n (take k ss)) (places_from (r + suc k) n (drop k ss)))

-- ---- start by start

module _ (ss : List (List ℕ)) (ranked read : List ℕ) (bound rank : ℕ) (comparisons seen : ℕ) (buffer : List ℕ) where
  -- the starts before `start` were searched
  pub record StartsTo (start c s : ℕ) (b : List ℕ) : Type 0 where
    pub upto : start ≤ starts (length read) (get_or ss rank [])
    pub progress : Progress ss ranked read bound comparisons seen buffer (places_in rank 0 start) c s b

  module _ (g : Going bound max_places comparisons seen buffer) (long : length (get_or ss rank []) ≤ max_bases) (start c s : ℕ) (b : List ℕ) (at : StartsTo start c s b) (fits : start + length read ≤ length (get_or ss rank [])) where
    pub starts_going : Going bound 2 c s b
    starts_going = progress_going ss ranked read bound comparisons seen buffer max_places g (places_in rank 0 start) c s b at.progress 2 (omega (arith, length-places_in rank 0 start))

    module _ (c' s' : ℕ) (b' : List ℕ) (t : Searched ss ranked read bound (place rank start 0 ∷ place rank start 1 ∷ []) c s b c' s' b') where
      one_start : places_in rank 0 start ++ (place rank start 0 ∷ place rank start 1 ∷ []) ≡ places_in rank 0 (start + 1)
      one_start = let e : 0 + start ≡ start = omega arith in ap (λ j. places_in rank 0 start ++ places_in rank j 1) (sym e) ∙ sym (places_in-split rank 0 start 1)

      pub starts-stop : bound < s' → Searched ss ranked read bound (places_in rank 0 (starts (length read) (get_or ss rank []))) comparisons seen buffer c' s' b'
      starts-stop h =
          let e : starts (length read) (get_or ss rank []) ≡ start + 1 + (starts (length read) (get_or ss rank []) - (start + 1)) = omega (arith, at.upto) in
          rw (e, places_in-split rank 0 (start + 1), ← one_start) (progress_stop ss ranked read bound comparisons seen buffer max_places g (places_in rank 0 start) c s b at.progress (place rank start 0 ∷ place rank start 1 ∷ []) c' s' b' t h _)

      pub starts_more : s' ≤ bound → StartsTo (start + 1) c' s' b'
      starts_more h =
          record {
            upto = omega arith;
            progress = rw (← one_start) (progress_more ss ranked read bound comparisons seen buffer max_places g (places_in rank 0 start) c s b at.progress (place rank start 0 ∷ place rank start 1 ∷ []) c' s' b' t h);
          }

-- ---- rank by rank

module _ (ss : List (List ℕ)) (ranked read : List ℕ) (bound : ℕ) (buffer : List ℕ) where
  -- the sequences before `rank` were searched
  pub record RanksTo (rank c s : ℕ) (b : List ℕ) : Type 0 where
    pub upto : rank ≤ length ss
    pub counted : length (places_from 0 (length read) (take rank ss)) ≤ rank * max_places
    pub progress : Progress ss ranked read bound 0 0 buffer (places_from 0 (length read) (take rank ss)) c s b

  module _ (given : Going bound 0 0 0 buffer) where
    g : Going bound (max_targets * max_places) 0 0 buffer
    g = record { within = given.within; room = given.room; countable = omega arith }

    module _ (few : length ss ≤ max_targets) (rank c s : ℕ) (b : List ℕ) (at : RanksTo rank c s b) where
      abbrev done : List Place
      done = places_from 0 (length read) (take rank ss)

      abbrev next : List Place
      next = places_in rank 0 (starts (length read) (get_or ss rank []))

      module _ (below : rank < length ss) where
        pub ranks_going : Going bound max_places c s b
        ranks_going = progress_going ss ranked read bound 0 0 buffer (max_targets * max_places) g done c s b at.progress max_places (omega (arith, at.counted))

        module _ (long : length (get_or ss rank []) ≤ max_bases) (c' s' : ℕ) (b' : List ℕ) (t : Searched ss ranked read bound next c s b c' s' b') where
          one_rank : done ++ next ≡ places_from 0 (length read) (take (rank + 1) ss)
          one_rank = let e : 0 + rank ≡ rank = omega arith in sym (rw e at (places_from_more 0 (length read) rank ss below))

          pub ranks_stop : bound < s' → Searched ss ranked read bound (places (length read) ss) 0 0 buffer c' s' b'
          unfolding places
          ranks_stop h = rw (places_from-split 0 (length read) (rank + 1) ss, ← one_rank) (progress_stop ss ranked read bound 0 0 buffer (max_targets * max_places) g done c s b at.progress next c' s' b' t h _)

          pub ranks_more : s' ≤ bound → RanksTo (rank + 1) c' s' b'
          ranks_more h =
              record {
                upto = omega arith;
                counted = rw (← one_rank) (omega (arith, at.counted, length-append done next, length-places_in rank 0 (starts (length read) (get_or ss rank []))));
                progress = rw (← one_rank) (progress_more ss ranked read bound 0 0 buffer (max_targets * max_places) g done c s b at.progress next c' s' b' t h);
              }

      pub ranks_all : length ss ≤ rank → Searched ss ranked read bound (places (length read) ss) 0 0 buffer c s b
      unfolding places
      ranks_all h = rw (take_all rank ss h) at at.progress.searched
