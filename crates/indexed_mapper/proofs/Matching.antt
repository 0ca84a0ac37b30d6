-- The groups of a read are its matches, said of targets as they are supplied.
use mathlib.Core.Path.{◌≡◌, refl, sym, ap, ap₂, subst, ◌∙◌}
use mathlib.Core.Bool.{Bool}
use mathlib.Core.Logic.{◌↔◌}
use mathlib.Core.List.{List, [], ◌∷◌, ◌++◌, map}
use Prim.Native.Nat.{ℕ, zero, suc, ◌+◌, ◌<◌}
use native.Mathlib.Omega.{arith}
use lib.ListN.{length, get_or, length-map}
use borrow.Author.Tests.{eq-eqb, ne_eqb}
use Rattle.lists.specs.Member.{◌∈◌}
use Rattle.lists.specs.Order.{StrictOrder, Ascending}
use Rattle.lists.specs.Triple.{Triple}
use Rattle.lists.specs.Cut.{window}
use Rattle.bases.specs.Read.{folded, oriented}
use Rattle.lists.proofs.Member.{get_or-∈, ∈-get_or, ∈-map, map-∈}
use Rattle.lists.proofs.Order.{ascending_map, later_differs}
use Rattle.lists.proofs.Places.{get_or-map}
use Rattle.lists.proofs.Same.{same_true, true_same}
use Rattle.identifiers.specs.Name.{name_before, place_before}
use Rattle.identifiers.proofs.NameLaws.{place_order}
use Rattle.catalogue.specs.Catalogue.{Catalogue, Target, Valid, names, by_name, mapped, supplied_places}
use Rattle.catalogue.proofs.Mapped.{mapped-∈, ∈-mapped, mapped_ascending, named_by_place}
use Rattle.index_model.specs.Index.{mapped_sequences}
use Rattle.map_places.specs.Place.{Place, place, before, Fits, matches, groups}
use Rattle.map_places.proofs.Placing.{groups-∈, ∈-groups, groups_ascending}
use Rattle.map_every_start.specs.Entries.{entry_of, entries_of}
use Rattle.indexed_mapper.specs.Match.{Match, place_in, rank_of, by_rank, match_entries}

-- in a list that ascends each number stands at one place
place_at : (less : ℕ → ℕ → Bool) → StrictOrder less → (xs : List ℕ) → Ascending less xs → (r : ℕ) → r < length xs → place_in (get_or xs r 0) xs ≡ r
place_at less o [] a r h = absurd (omega arith)
place_at less o (x ∷ xs) a zero h = rw (eq-eqb x x refl)
place_at less o (x ∷ xs) a (suc r) h =
    rw (ne_eqb (get_or xs r 0) x (later_differs less o x (get_or xs r 0) xs a (get_or-∈ 0 xs r (omega arith)))) (ap suc (place_at less o xs a.1 r (omega arith)))

module _ (c : Catalogue) (valid : Valid c) where
  -- ---- ranks

  pub places_ascend : Ascending (place_before (names c)) (supplied_places c)
  places_ascend =
      ascending_map by_name (place_before (names c)) (λ (t : Target). t.place) (mapped c)
      (λ t u m k h. ap₂ (λ x y. name_before x y) (sym (named_by_place c t (mapped-∈ c t m).0)) (sym (named_by_place c u (mapped-∈ c u k).0)) ∙ h)
      (mapped_ascending c valid.distinct)

  pub rank_is : (r : ℕ) → r < length (mapped c) → rank_of c (get_or (supplied_places c) r 0) ≡ r
  rank_is r h = place_at (place_before (names c)) (place_order (names c)) (supplied_places c) places_ascend r (omega (arith, length-map (mapped c) (λ (t : Target). t.place)))

  none : Target
  none = record { place = 0; identifier = []; mark = 0; bases = [] }

  place_of_rank : (r : ℕ) → r < length (mapped c) → get_or (supplied_places c) r 0 ≡ (get_or (mapped c) r none).place
  place_of_rank r h = get_or-map (λ (t : Target). t.place) none 0 (mapped c) r h

  bases_of_rank : (r : ℕ) → r < length (mapped c) → get_or (mapped_sequences c) r [] ≡ (get_or (mapped c) r none).bases
  bases_of_rank r h = get_or-map (λ (t : Target). t.bases) none [] (mapped c) r h

  pub as_many : length (mapped_sequences c) ≡ length (mapped c)
  as_many = length-map (mapped c) (λ (t : Target). t.bases)

  -- ---- places as they are supplied

  abbrev supplied : Place → Triple
  supplied p = (get_or (supplied_places c) p.rank 0, p.start, p.strand)

  module _ (read : List ℕ) where
    abbrev pub matches_of : List Triple
    matches_of = map supplied (groups (mapped_sequences c) read)

    group_match : (p : Place) → p ∈ groups (mapped_sequences c) read → Match c read (get_or (supplied_places c) p.rank 0) p.start p.strand
    unfolding matches
    group_match p m =
        let g = groups-∈ (mapped_sequences c) read p m in
        let h : p.rank < length (mapped c) = omega (arith, g.0.ranked, as_many) in
        let i = mapped-∈ c (get_or (mapped c) p.rank none) (get_or-∈ none (mapped c) p.rank h) in
        record {
          target = get_or (mapped c) p.rank none;
          in_catalogue = i.0;
          at_place = sym (place_of_rank p.rank h);
          linear = i.1;
          inside = rw (← bases_of_rank p.rank h) g.0.inside;
          stranded = g.0.stranded;
          equal = rw (← bases_of_rank p.rank h) (same_true _ _ g.1);
        }

    match_group : (t s d : ℕ) → Match c read t s d → (t, s, d) ∈ matches_of
    unfolding matches
    match_group t s d m =
        let k = ∈-get_or none m.target (mapped c) (∈-mapped c m.target m.in_catalogue m.linear) in
        let b : get_or (mapped_sequences c) k.0 [] ≡ m.target.bases = bases_of_rank k.0 k.1 ∙ ap (λ (u : Target). u.bases) (sym k.2) in
        let f : Fits (length read) (mapped_sequences c) (place k.0 s d) = record { ranked = omega (arith, k.1, as_many); inside = rw b m.inside; stranded = m.stranded } in
        let g = ∈-groups (mapped_sequences c) read (place k.0 s d) f (true_same (window (get_or (mapped_sequences c) k.0 []) s (length read)) (oriented d (folded read)) (ap (λ l. window l s (length read)) b ∙ m.equal)) in
        let e : get_or (supplied_places c) k.0 0 ≡ t = place_of_rank k.0 k.1 ∙ ap (λ (u : Target). u.place) (sym k.2) ∙ m.at_place in
        rw e at (∈-map supplied (place k.0 s d) (groups (mapped_sequences c) read) g)

    -- the groups are exactly the matches
    pub matches_exactly : (t s d : ℕ) → ((t, s, d) ∈ matches_of) ↔ Match c read t s d
    matches_exactly t s d = (to, match_group t s d)
      where
        to : (t, s, d) ∈ matches_of → Match c read t s d
        to m =
            let r = map-∈ supplied (t, s, d) (groups (mapped_sequences c) read) m in
            subst (λ (x : Triple). Match c read x.0 x.1 x.2) (sym r.2) (group_match r.0 r.1)

    -- they ascend by rank, start and strand
    pub matches_ascend : Ascending (by_rank c) matches_of
    matches_ascend =
        ascending_map before (by_rank c) supplied (groups (mapped_sequences c) read)
        (λ p q m k h. rw (rank_is p.rank (inside p m), rank_is q.rank (inside q k)) h)
        (groups_ascending (mapped_sequences c) read)
      where
        inside : (p : Place) → p ∈ groups (mapped_sequences c) read → p.rank < length (mapped c)
        inside p m = omega (arith, (groups-∈ (mapped_sequences c) read p m).0.ranked, as_many)

    -- and have the entries of the groups
    pub matches-entries : entries_of (supplied_places c) (length read) (groups (mapped_sequences c) read) ≡ match_entries (length read) matches_of
    matches-entries = go (groups (mapped_sequences c) read)
      where
        go : (ps : List Place) → entries_of (supplied_places c) (length read) ps ≡ match_entries (length read) (map supplied ps)
        go [] = refl
        go (p ∷ ps) = ap (λ l. entry_of (get_or (supplied_places c) p.rank 0) p.start (p.start + length read) p.strand ++ l) (go ps)
