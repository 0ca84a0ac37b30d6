-- From the tests of a read to the answer of `map`.
use Rattle.std.specs.Prelude.{Result, Ok, Err}
use Rattle.promises.specs.declared.refusal.Refusal.{Refusal}
use mathlib.Core.Path.{◌≡◌, refl, ap, ◌∙◌}
use Rattle.promises.specs.declared.refusal.Refusal.TheVariants as refusals
use mathlib.Core.Bool.{Bool, true, false, ◌&&◌}
use mathlib.Core.List.{List, [], ◌∷◌}
use Prim.Native.Nat.{ℕ, zero, suc, ◌≤◌, ◌<◌}
use native.Mathlib.Omega.{arith}
use lib.ListN.{length, take}
use lib.Dec.{ltb, eqb}
use borrow.Author.Tests.{leb-true, eqb-true, ne_eqb}
use Rattle.lists.specs.Filter.{every}
use Rattle.lists.specs.Same.{same}
use Rattle.lists.proofs.Cases.{by_test, clash, and-true}
use Rattle.lists.proofs.Same.{same_true}
use Rattle.bases.specs.Base.{A, C, G, T, is_capital}
use Rattle.bases.proofs.Bytes.{letter_capital}
use Rattle.promises.specs.Refusal.{unless, ◌or_else◌, refused, refusal_number}
use Rattle.promises.proofs.Refusing.{numbered, first_stands}
use Rattle.identifiers.specs.Name.{distinct_names}
use Rattle.catalogue.specs.Catalogue.{Catalogue, names, sequences, in_bounds, proper_sequence, catalogue_refusal, supplied_places}
use Rattle.index_seeds.specs.Seeds.{keys_of, ranks_of, positions_of}
use Rattle.index_seeds.specs.Key.{SeedLength}
use Rattle.index_model.specs.Index.{index_of, mapped_sequences, ranked_sequences, seed_right, plan_refusal, index_refusal, columns_of, Lent, Indexed}
use Rattle.index_plan.specs.Answers.{PlanRanked}
use Rattle.index_plan.proofs.Planning.{no_refusal, ranked_mapped, number, not-zero, test_refused}
use Rattle.bases.specs.Read.{folded}
use Rattle.map_places.specs.Place.{max_read, groups}
use Rattle.map_every_start.specs.Entries.{entry_count}
use Rattle.map_answers.specs.Bounds.{length_right, limit_right}
use Rattle.map_by_index.specs.Work.{by_index}
use Rattle.map_answers.specs.Answer.{room_refusal}
use Rattle.map_search.specs.Answered.{SearchAnswered}
use Rattle.map_by_index.specs.Steps.{IndexSearchable, Mappable}
use Rattle.indexed_mapper.specs.Map.{read_refusal, ranked_refusal, map_refusal, RankedAnswered, ReadMapped, IndexMapped, MapsTo}
use Rattle.map_answers.specs.declared.answer.Mapping.{Mapping}

-- ---- refusals of a read and a limit

module _ (read : List ℕ) (limit : ℕ) where
  pub read_long : length_right read ≡ false → 7 ≡ read_refusal read limit
  unfolding read_refusal
  read_long e = rw e

  module _ (short : length_right read ≡ true) where
    pub read_improper : proper_sequence read ≡ false → 8 ≡ read_refusal read limit
    unfolding read_refusal
    read_improper e = rw (short, e)

    module _ (proper : proper_sequence read ≡ true) where
      pub limit_out : limit_right limit ≡ false → 9 ≡ read_refusal read limit
      unfolding read_refusal
      limit_out e = rw (short, proper, e)

      pub read_accepted : limit_right limit ≡ true → 0 ≡ read_refusal read limit
      unfolding read_refusal
      read_accepted e = rw (short, proper, e)

  -- each number is below 10
  read_below : read_refusal read limit < 10
  unfolding read_refusal
  read_below =
      by_test (length_right read)
      (λ e. by_test (proper_sequence read) (λ f. rw (e, f) (by_test (limit_right limit) (λ g. rw g (omega arith)) (λ g. rw g (omega arith)))) (λ f. rw (e, f) (omega arith)))
      (λ e. rw e (omega arith))

  -- a read that is not refused
  read_right : read_refusal read limit ≡ 0 → (length read ≤ max_read) × (every is_capital read ≡ true)
  unfolding read_refusal
  read_right z =
      by_test (length_right read)
      (λ e. by_test (proper_sequence read)
      (λ f. (leb-true (length read) max_read e, (and-true (ltb 0 (length read)) (every is_capital read) f).1))
      (λ f. absurd (omega (arith, rw (e, f) at z))))
      (λ e. absurd (omega (arith, rw e at z)))

-- a test that the four capitals pass
pub at-capitals : (test : ℕ → Bool) → test A ≡ true → test C ≡ true → test G ≡ true → test T ≡ true → (b : ℕ) → is_capital b ≡ true → test b ≡ true
unfolding is_capital
at-capitals test a c g t b h =
    by_test (eqb b A) (λ e. rw (eqb-true b A e) a)
    (λ e. by_test (eqb b C) (λ f. rw (eqb-true b C f) c)
    (λ f. by_test (eqb b G) (λ k. rw (eqb-true b G k) g)
    (λ k. by_test (eqb b T) (λ l. rw (eqb-true b T l) t) (λ l. clash (rw (e, f, k, l) at h) refl))))

letters-folded : (bs : List ℕ) → every is_capital bs ≡ true → every is_capital (folded bs) ≡ true
letters-folded [] t = refl
letters-folded (b ∷ bs) t = let u = and-true (is_capital b) (every is_capital bs) t in rw (letter_capital b u.0) (letters-folded bs u.1)

-- ---- the search of ranked sequences

module _ (q : ℕ) (ss : List (List ℕ)) (ks rs os : List ℕ) where
  held_indexed : columns_of (index_of q ss) ks rs os ≡ true → Indexed q ss ks rs os
  held_indexed t =
      let u = and-true (same ks (keys_of (index_of q ss)) && same rs (ranks_of (index_of q ss))) (same os (positions_of (index_of q ss))) t in
      let v = and-true (same ks (keys_of (index_of q ss))) (same rs (ranks_of (index_of q ss))) u.0 in
      record {
        keys = same_true ks (keys_of (index_of q ss)) v.0;
        ranks = same_true rs (ranks_of (index_of q ss)) v.1;
        positions = same_true os (positions_of (index_of q ss)) u.1;
      }

-- an index that was tested
pub mappable : (q : ℕ) (bases ends ranked ks rs os : List ℕ) → Lent bases ends ranked → SeedLength q → columns_of (index_of q (ranked_sequences bases ends ranked)) ks rs os ≡ true → Mappable q bases ends ranked ks rs os
mappable q bases ends ranked ks rs os l s t = record { lent = l; seed = s; indexed = held_indexed q (ranked_sequences bases ends ranked) ks rs os t }

-- with a read that was tested it is what a search by index is lent
pub searchable : (q : ℕ) (bases ends ranked ks rs os read : List ℕ) (limit : ℕ) → Mappable q bases ends ranked ks rs os → read_refusal read limit ≡ 0 → IndexSearchable q bases ends ranked ks rs os read
searchable q bases ends ranked ks rs os read limit m z =
    let r = read_right read limit z in
    record {
      searchable = record { lent = m.lent; letters = letters-folded read r.1; short = r.0 };
      seed = m.seed;
      indexed = m.indexed;
    }

-- ---- answers for ranked sequences

module _ (q : ℕ) (ss : List (List ℕ)) (ranked read : List ℕ) (limit : ℕ) (b : List ℕ) where
  -- refused before a search, with nothing touched
  refused_as : (e : Refusal) (n refusal : ℕ) → refusal_number e ≡ n → n ≡ refusal → (n ≡ 0 → ⊥) → n < 10 → RankedAnswered refusal q ss ranked read limit (Err e) b b
  refused_as e zero refusal told is ne h = absurd (ne refl)
  refused_as e (suc n) refusal told is ne h = rw (← is) (record { answer = ap refused told; entries = rw (ne_eqb (suc n) 10 (λ z. omega arith)) refl })

  pub read_refused : (e : Refusal) → refusal_number e ≡ read_refusal read limit → ReadMapped q ss ranked read limit (Err e) b b
  read_refused e told =
      let n : ℕ = refusal_number e in
      let room : ℕ = room_refusal (entry_count b) limit (length (groups ss read)) in
      refused_as e n (ranked_refusal ss read limit (entry_count b)) refl (first_stands n room (numbered e) ∙ ap (λ m. m or_else room) told) (numbered e) (omega (arith, read_below read limit))

  pub read_searched : read_refusal read limit ≡ 0 → (r : Result Mapping Refusal) (b' : List ℕ) → SearchAnswered (by_index q) ss ranked read limit r b b' → ReadMapped q ss ranked read limit r b b'
  read_searched e r b' a = rw e a

  module _ (ks rs os : List ℕ) where
    pub index_refused : columns_of (index_of q ss) ks rs os ≡ false → IndexMapped q ss ranked ks rs os read limit (Err refusals.StaleIndex) b b
    index_refused e = refused_as refusals.StaleIndex 6 (unless (columns_of (index_of q ss) ks rs os) 6 or_else ranked_refusal ss read limit (entry_count b)) refl (rw e) (λ z. omega arith) (omega arith)

    pub index_right_lem : columns_of (index_of q ss) ks rs os ≡ true → (r : Result Mapping Refusal) (b' : List ℕ) → ReadMapped q ss ranked read limit r b b' → IndexMapped q ss ranked ks rs os read limit r b b'
    index_right_lem e r b' a = rw e a

-- ---- from the ranking of a catalogue

plan_below : (q : ℕ) (c : Catalogue) → plan_refusal q c < 5
unfolding plan_refusal catalogue_refusal
plan_below q c =
    by_test (seed_right q)
    (λ e. by_test (in_bounds c)
    (λ f. by_test (every proper_sequence (sequences c))
    (λ g. rw (e, f, g) (by_test (distinct_names (names c)) (λ h. rw h (omega arith)) (λ h. rw h (omega arith))))
    (λ g. rw (e, f, g) (omega arith)))
    (λ f. rw (e, f) (omega arith)))
    (λ e. rw e (omega arith))

module _ (q : ℕ) (c : Catalogue) (r : Result ℕ Refusal) (buffer : List ℕ) (p : PlanRanked q c r buffer) where
  module _ (ks rs os read : List ℕ) (limit : ℕ) (b : List ℕ) where
    pub map_refused : (e : Refusal) → r ≡ Err e → MapsTo q c ks rs os read limit (Err e) b b
    unfolding map_refusal
    map_refused e told =
        let n : ℕ = refusal_number e in
        let ne = not-zero q c r buffer p e told in
        let rest : ℕ = ranked_refusal (mapped_sequences c) read limit (entry_count b) in
        refused_as q (mapped_sequences c) (supplied_places c) read limit b e n (index_refusal q c ks rs os or_else rest) refl
        (first_stands n rest ne ∙ ap (λ m. m or_else rest) (test_refused q c r buffer p e told ks rs os)) ne
        (omega (arith, number q c r buffer p e told, plan_below q c))

    module _ (k : ℕ) (e : r ≡ Ok k) where
      abbrev ss : List (List ℕ)
      ss = ranked_sequences c.bases c.base_ends (take k buffer)

      -- the answer for the ranked sequences is that for the catalogue
      pub map-done : (x : Result Mapping Refusal) (b' : List ℕ) → IndexMapped q ss (take k buffer) ks rs os read limit x b b' → MapsTo q c ks rs os read limit x b b'
      unfolding map_refusal index_refusal
      map-done x b' a =
          rw (no_refusal q c r buffer p k e) (rw (ranked_mapped q c r buffer p k e, p.ranks k e) at a)
