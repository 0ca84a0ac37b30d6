-- The candidates of a seed are an ascending part of all places that holds every match of their strand, so that a search by
-- index finds what a search at every start finds, and compares no more.
use mathlib.Core.Path.{◌≡◌, refl, sym, ap, ◌∙◌}
use mathlib.Core.Bool.{Bool, true, false, cond, ◌&&◌}
use mathlib.Core.Logic.{◌⊎◌, inl, inr}
use mathlib.Core.List.{List, [], ◌∷◌}
use Prim.Native.Nat.{ℕ, zero, suc, ◌+◌, ◌-◌, ◌<◌, ◌≤◌}
use native.Mathlib.Omega.{arith}
use lib.ListN.{length, get_or, take, drop, length-map}
use lib.Seq.{take-take, drop-drop}
use lib.Dec.{eqb, leb, ltb}
use borrow.Author.Tests.{eqb-true, eq-eqb, leb-true, le-leb, ltb-true, lt-ltb, ltb-false}
use Rattle.lists.specs.Filter.{filter}
use Rattle.lists.specs.Member.{◌∈◌}
use Rattle.lists.specs.Order.{Ascending}
use Rattle.lists.specs.Sort.{merge}
use Rattle.lists.specs.Limit.{go_on, stopped}
use Rattle.lists.specs.Cut.{window}
use Rattle.lists.proofs.Cases.{by_test, and-true}
use Rattle.lists.proofs.Member.{∈-map, map-∈}
use Rattle.lists.proofs.Filter.{∈-filter, filter-∈}
use Rattle.lists.proofs.Order.{ascending_filter, ascending_map, ascending_apart}
use Rattle.lists.proofs.Sort.{merge_ascending, ∈-merge, merge-∈}
use Rattle.lists.proofs.Same.{same_true}
use Rattle.lists.proofs.Part.{part_filter, part_stopped}
use Rattle.lists.proofs.Triple.{Before, before_test, test_before}
use Rattle.lists.specs.Numbers.{numbers}
use Rattle.lists.proofs.Numbers.{numbers-∈}
use Rattle.bases.specs.Base.{upper_of}
use Rattle.bases.specs.Read.{folded, oriented}
use Rattle.bases.proofs.Bytes.{code_upper}
use Rattle.index_columns.specs.Posting.{Posting, posting, earlier}
use Rattle.index_seeds.specs.Key.{key_of}
use Rattle.index_seeds.specs.Window.{starts}
use Rattle.index_model.specs.Index.{index_of, is_seed}
use Rattle.index_model.proofs.Indexing.{index_ascending, index-∈-seed, seed-∈-index}
use Rattle.map_places.specs.Place.{Place, Fits, triple, before, places, matches, groups}
use Rattle.map_places.proofs.Comparing.{oriented-folded}
use Rattle.map_places.proofs.Placing.{before_order, before_total, place_eq, places-∈, ∈-places, places_ascending}
use Rattle.map_candidates.specs.Search.{seed_hits, seed_count, tried, fewest, rarest, chosen, lies, candidate, candidates_at, candidates, comparable, compared}

-- ---- keys and windows

-- a seed's key does not depend on case
key_folded : (bs : List ℕ) → key_of (folded bs) ≡ key_of bs
unfolding key_of
key_folded [] = refl
key_folded (b ∷ bs) = rw (code_upper b, length-map bs upper_of, key_folded bs)

window-folded : (bs : List ℕ) (o n : ℕ) → window (folded bs) o n ≡ folded (window bs o n)
window-folded bs o n = go o bs
  where
    front : (m : ℕ) (l : List ℕ) → take m (folded l) ≡ folded (take m l)
    front zero l = refl
    front (suc m) [] = refl
    front (suc m) (x ∷ l) = ap (λ k. upper_of x ∷ k) (front m l)

    go : (m : ℕ) (l : List ℕ) → take n (drop m (folded l)) ≡ folded (take n (drop m l))
    go zero l = front n l
    go (suc m) [] = front n []
    go (suc m) (x ∷ l) = go m l

-- a window of a window
window-window : (o q n : ℕ) (l : List ℕ) → o + q ≤ n → window (take n l) o q ≡ window l o q
window-window zero q n l h = take-take q n l (omega arith)
window-window (suc o) q zero l h = absurd (omega arith)
window-window (suc o) q (suc n) [] h = refl
window-window (suc o) q (suc n) (x ∷ l) h = window-window o q n l (omega arith)

-- ---- the chosen offset

stopped-∈ : (p : ℕ → Bool) (xs : List ℕ) (n o : ℕ) → o ∈ stopped p xs n → o ∈ xs
stopped-∈ p [] n o x' = elim x' [ ]
stopped-∈ p (x ∷ xs) n o (inl e) = inl e
stopped-∈ p (x ∷ xs) n o (inr m) = inr (go (p x) n m (λ k l. stopped-∈ p xs k o l))
  where
    go : (b : Bool) (k : ℕ) → o ∈ go_on b k (λ j. stopped p xs j) → ((j : ℕ) → o ∈ stopped p xs j → o ∈ xs) → o ∈ xs
    go false k l f = f k l
    go true zero l f = absurd l
    go true (suc k) l f = f k l

fewest-∈ : (count : ℕ → ℕ) (best : ℕ) (os : List ℕ) → (fewest count best os ≡ best) ⊎ (fewest count best os ∈ os)
fewest-∈ count best [] = inl refl
fewest-∈ count best (o ∷ os) = go (ltb (count o) (count best)) (fewest-∈ count o os) (fewest-∈ count best os)
  where
    go : (b : Bool) → (fewest count o os ≡ o) ⊎ (fewest count o os ∈ os) → (fewest count best os ≡ best) ⊎ (fewest count best os ∈ os) → (fewest count (cond b o best) os ≡ best) ⊎ (fewest count (cond b o best) os ∈ (o ∷ os))
    go true (inl e) g = inr (inl e)
    go true (inr m) g = inr (inr m)
    go false f (inl e) = inl e
    go false f (inr m) = inr (inr m)

-- a rarest offset is one of the n
pub rarest_below : (n : ℕ) (count : ℕ → ℕ) → 0 < n → rarest n count < n
rarest_below n count h = go (fewest-∈ count 0 (tried n count))
  where
    go : (rarest n count ≡ 0) ⊎ (rarest n count ∈ tried n count) → rarest n count < n
    go (inl e) = omega arith
    go (inr m) = let r = numbers-∈ 0 n (rarest n count) (stopped-∈ (λ o. eqb (count o) 0) (numbers 0 n) 0 (rarest n count) m) in omega arith

module _ (q : ℕ) (ss : List (List ℕ)) (read : List ℕ) where
  -- the chosen seed lies within the read
  pub chosen_inside : (strand : ℕ) → 1 ≤ q → q ≤ length read → chosen q ss read strand + q ≤ length read
  chosen_inside strand some h = let r = rarest_below (starts q read) (seed_count q ss read strand) (omega arith) in omega arith

  -- ---- candidates

  module _ (strand o : ℕ) where
    key : ℕ
    key = key_of (window (oriented strand read) o q)

    -- a posting that gives a candidate
    pub record Hit (p : Posting) : Type 0 where
      pub seed : is_seed q ss p ≡ true
      pub keyed : p.key ≡ key_of (window (oriented strand read) o q)
      pub after : o ≤ p.position
      pub within : p.position - o + length read ≤ length (get_or ss p.rank [])

    hit-∈ : (p : Posting) → p ∈ filter (lies ss (length read) o) (seed_hits q ss read strand o) → Hit p
    hit-∈ p m =
        let a = filter-∈ (lies ss (length read) o) p (seed_hits q ss read strand o) m in
        let b = filter-∈ (λ (x : Posting). eqb x.key (key_of (window (oriented strand read) o q))) p (index_of q ss) a.0 in
        let c = and-true (leb o p.position) (leb (p.position - o + length read) (length (get_or ss p.rank []))) a.1 in
        record {
          seed = index-∈-seed q ss p b.0;
          keyed = eqb-true p.key (key_of (window (oriented strand read) o q)) b.1;
          after = leb-true o p.position c.0;
          within = leb-true (p.position - o + length read) (length (get_or ss p.rank [])) c.1;
        }

    ∈-hit : (p : Posting) → Hit p → p ∈ filter (lies ss (length read) o) (seed_hits q ss read strand o)
    ∈-hit p h =
        ∈-filter (lies ss (length read) o) p (seed_hits q ss read strand o)
        (∈-filter (λ (x : Posting). eqb x.key (key_of (window (oriented strand read) o q))) p (index_of q ss) (seed-∈-index q ss p h.seed) (eq-eqb p.key (key_of (window (oriented strand read) o q)) h.keyed))
        (rw (le-leb o p.position h.after, le-leb (p.position - o + length read) (length (get_or ss p.rank [])) h.within))

    pub candidates_ascending : Ascending before (candidates_at q ss read strand o)
    candidates_ascending =
        ascending_map earlier before (candidate strand o) (filter (lies ss (length read) o) (seed_hits q ss read strand o)) order
        (ascending_filter earlier (lies ss (length read) o) (seed_hits q ss read strand o) (ascending_filter earlier (λ (x : Posting). eqb x.key (key_of (window (oriented strand read) o q))) (index_of q ss) (index_ascending q ss)))
      where
        by : (x y : Posting) → Hit x → Hit y → Before (x.key, x.rank, x.position) (y.key, y.rank, y.position) → before (candidate strand o x) (candidate strand o y) ≡ true
        by x y h k (inl l) = absurd (omega (arith, h.keyed, k.keyed))
        by x y h k (inr (e, inl l)) = before_test (triple (candidate strand o x)) (triple (candidate strand o y)) (inl l)
        by x y h k (inr (e, inr (f, l))) = before_test (triple (candidate strand o x)) (triple (candidate strand o y)) (inr (f, inl (omega (arith, h.after, k.after))))

        order : (x y : Posting) → x ∈ filter (lies ss (length read) o) (seed_hits q ss read strand o) → y ∈ filter (lies ss (length read) o) (seed_hits q ss read strand o) → earlier x y ≡ true → before (candidate strand o x) (candidate strand o y) ≡ true
        order x y m k e = by x y (hit-∈ x m) (hit-∈ y k) (test_before (x.key, x.rank, x.position) (y.key, y.rank, y.position) e)

    -- a candidate is a fitting place of its strand
    candidates-∈ : strand < 2 → (z : Place) → z ∈ candidates_at q ss read strand o → (z.strand ≡ strand) × Fits (length read) ss z
    candidates-∈ l z m =
        let r = map-∈ (candidate strand o) z (filter (lies ss (length read) o) (seed_hits q ss read strand o)) m in
        let h = hit-∈ r.0 r.1 in
        let a = and-true (ltb r.0.rank (length ss) && ltb r.0.position (starts q (get_or ss r.0.rank []))) (eqb r.0.key (key_of (window (get_or ss r.0.rank []) r.0.position q))) h.seed in
        let b = and-true (ltb r.0.rank (length ss)) (ltb r.0.position (starts q (get_or ss r.0.rank []))) a.0 in
        rw r.2 (refl, record { ranked = ltb-true r.0.rank (length ss) b.0; inside = h.within; stranded = l })

    -- a match on the strand is a candidate
    ∈-candidates : 1 ≤ q → o + q ≤ length read → (z : Place) → Fits (length read) ss z → z.strand ≡ strand → matches ss read z ≡ true → z ∈ candidates_at q ss read strand o
    unfolding matches
    ∈-candidates some room z f e m = rw pz (∈-map (candidate strand o) x (filter (lies ss (length read) o) (seed_hits q ss read strand o)) (∈-hit x hit))
      where
        s : List ℕ
        s = get_or ss z.rank []

        x : Posting
        x = posting (key_of (window s (z.start + o) q)) z.rank (z.start + o)

        back : z.start + o - o ≡ z.start
        back = omega arith

        pz : z ≡ candidate strand o x
        pz = place_eq z (candidate strand o x) refl (sym back) e

        whole : take (length read) (drop z.start s) ≡ folded (oriented strand read)
        whole = same_true (window s z.start (length read)) (oriented z.strand (folded read)) m ∙ ap (λ d. oriented d (folded read)) e ∙ oriented-folded strand read

        keys : key_of (window s (z.start + o) q) ≡ key_of (window (oriented strand read) o q)
        keys =
            ap (λ l. key_of (take q l)) (sym (drop-drop o z.start s)) ∙ ap key_of (sym (window-window o q (length read) (drop z.start s) room)) ∙ ap (λ l. key_of (window l o q)) whole
            ∙ ap key_of (window-folded (oriented strand read) o q) ∙ key_folded (window (oriented strand read) o q)

        hit : Hit x
        hit =
            record {
              seed = rw (lt-ltb z.rank (length ss) f.ranked, lt-ltb (z.start + o) (starts q s) (omega (arith, f.inside))) (eq-eqb x.key x.key refl);
              keyed = keys;
              after = omega arith;
              within = rw back f.inside;
            }

  -- ---- the compared list

  module _ (some : 1 ≤ q) where
    pub comparable_ascending : Ascending before (comparable q ss read)
    unfolding comparable
    comparable_ascending = by_test (ltb (length read) q) (λ e. rw e (places_ascending (length read) ss)) (λ e. rw e merged)
      where
        merged : Ascending before (merge before (candidates q ss read 0) (candidates q ss read 1))
        merged =
            merge_ascending before before_order (candidates q ss read 0) (candidates q ss read 1) (ascending_apart before before (λ x y h. inl h) (candidates q ss read 0) (candidates_ascending 0 (chosen q ss read 0))) (candidates_ascending 1 (chosen q ss read 1))
            (λ x y m k. by_test (before x y) (λ e. inl e) (λ e. by_test (before y x) (λ f. inr f) (λ f. absurd (omega (arith, ap (λ p. p.strand) (before_total x y e f), (candidates-∈ 0 (chosen q ss read 0) (omega arith) x m).0, (candidates-∈ 1 (chosen q ss read 1) (omega arith) y k).0)))))

    pub comparable-∈ : (z : Place) → z ∈ comparable q ss read → z ∈ places (length read) ss
    unfolding comparable
    comparable-∈ z = by_test (ltb (length read) q) (λ e. rw e (λ m. m)) (λ e. rw e (λ m. ∈-places (length read) ss z (fits (merge-∈ before z (candidates q ss read 0) (candidates q ss read 1) m))))
      where
        fits : (z ∈ candidates q ss read 0) ⊎ (z ∈ candidates q ss read 1) → Fits (length read) ss z
        fits (inl m) = (candidates-∈ 0 (chosen q ss read 0) (omega arith) z m).1
        fits (inr m) = (candidates-∈ 1 (chosen q ss read 1) (omega arith) z m).1

    ∈-comparable : (z : Place) → z ∈ places (length read) ss → matches ss read z ≡ true → z ∈ comparable q ss read
    unfolding comparable
    ∈-comparable z m t = by_test (ltb (length read) q) (λ e. rw e m) (λ e. rw e (∈-merge before z (candidates q ss read 0) (candidates q ss read 1) (side z.strand refl (places-∈ (length read) ss z m) (ltb-false (length read) q e))))
      where
        side : (d : ℕ) → z.strand ≡ d → Fits (length read) ss z → q ≤ length read → (z ∈ candidates q ss read 0) ⊎ (z ∈ candidates q ss read 1)
        side zero e f h = inl (∈-candidates 0 (chosen q ss read 0) some (chosen_inside 0 some h) z f e t)
        side (suc zero) e f h = inr (∈-candidates 1 (chosen q ss read 1) some (chosen_inside 1 some h) z f e t)
        side (suc (suc d)) e f h = absurd (omega (arith, f.stranded))

    -- the matches of the compared list are the groups of the read
    pub comparable_groups : filter (matches ss read) (comparable q ss read) ≡ groups ss read
    unfolding groups
    comparable_groups = part_filter before before_order (matches ss read) (places (length read) ss) (comparable q ss read) comparable_ascending (places_ascending (length read) ss) comparable-∈ ∈-comparable

    -- and a search of it compares no more places than one of all
    pub comparable_fewer : (limit : ℕ) → length (compared q ss read limit) ≤ length (stopped (matches ss read) (places (length read) ss) limit)
    comparable_fewer limit = part_stopped before before_order (matches ss read) (places (length read) ss) (comparable q ss read) comparable_ascending (places_ascending (length read) ss) comparable-∈ ∈-comparable limit
