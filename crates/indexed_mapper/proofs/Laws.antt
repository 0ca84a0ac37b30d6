-- What a user of `map` may rely on, and two searches held against each other.
use Rattle.std.specs.Prelude.{Result}
use Rattle.promises.specs.declared.refusal.Refusal.{Refusal}
use mathlib.Core.Path.{◌≡◌, refl, sym, ap, ap₂, subst, ◌∙◌}
use mathlib.Core.Bool.{Bool, true, false, ◌&&◌}
use mathlib.Core.List.{List, [], ◌∷◌, map}
use Prim.Native.Nat.{ℕ, ◌*◌, ◌≤◌}
use lib.ListN.{length, take, length-map}
use lib.Seq.{take_at}
use lib.Dec.{ltb}
use borrow.Author.Tests.{lt-ltb, le-ltb}
use Rattle.lists.specs.Filter.{every}
use Rattle.lists.proofs.Cases.{by_test, same_test}
use Rattle.lists.proofs.Reverse.{every_reverse}
use Rattle.lists.proofs.Sort.{length_sort}
use Rattle.promises.specs.Refusal.{refused, accepted}
use Rattle.promises.proofs.Refusing.{none_first, outcome_accepted, outcome_number}
use Rattle.bases.specs.Base.{complement_of, is_capital}
use Rattle.bases.specs.Read.{reverse_complement}
use Rattle.bases.proofs.Bytes.{complement_twice}
use Rattle.bases.proofs.Turning.{length-reverse_complement}
use Rattle.catalogue.specs.Catalogue.{Catalogue, Valid, supplied_places}
use Rattle.buffers.specs.Placed.{placed}
use Rattle.index_model.specs.Index.{mapped_sequences, plan_refusal, index_refusal}
use Rattle.index_plan.proofs.Planning.{plan_right}
use Rattle.map_places.specs.Place.{Place, groups}
use Rattle.map_places.proofs.Swapping.{groups-turned}
use Rattle.map_candidates.proofs.Candidates.{comparable_fewer}
use Rattle.map_every_start.specs.Entries.{entries_of, entry_count, cleared}
use Rattle.map_every_start.proofs.Going.{length-entries}
use Rattle.map_by_index.specs.Work.{work, scan_work, Way, by_index, plain, work_by}
use Rattle.map_answers.specs.Answer.{Row, answer_of, listed, mapped_row, room_refusal, mapped_state}
use Rattle.map_search.specs.Answered.{SearchAnswered}
use Rattle.map_by_index.specs.declared.work.MappingWork.{MappingWork}
use Rattle.indexed_mapper.specs.Map.{read_refusal, ranked_refusal, map_refusal, MapsTo}
use Rattle.indexed_mapper.specs.Match.{Unlisted, Listed, Lists}
use Rattle.indexed_mapper.specs.Laws.{SearchesAgree, turned_groups, TurnedAnswer}
use Rattle.indexed_mapper.proofs.Mapping.{at-capitals}
use Rattle.indexed_mapper.proofs.Matching.{matches_of, matches_exactly, matches_ascend, matches-entries}
use Rattle.map_answers.specs.declared.answer.Mapping.{Mapping}

-- ---- one read whose groups stand in front of zeros: demand 2 for whoever searches

-- the row is indeterminate where there are more matches than the limit; else the entries are the matches, each once, ascending by rank,
-- start and strand
pub row_lists : (c : Catalogue) → Valid c → (read : List ℕ) (limit : ℕ) (w : MappingWork) (b b' : List ℕ)
    → b' ≡ placed 0 (entries_of (supplied_places c) (length read) (listed limit (groups (mapped_sequences c) read))) (cleared b)
    → Lists c read limit (mapped_row limit (groups (mapped_sequences c) read) w) b b'
row_lists c right read limit w b b' e =
    record {
      all = record { list = matches_of c right read; exactly = matches_exactly c right read; ascending = matches_ascend c right read };
      indeterminate = λ h. past (lt-ltb limit (length gs) (rw as_many at h));
      complete = λ h. within (le-ltb limit (length gs) (rw as_many at h));
    }
  where
    gs : List Place
    gs = groups (mapped_sequences c) read

    as_many : length (matches_of c right read) ≡ length gs
    as_many = length-map gs _

    past : ltb limit (length gs) ≡ true → Unlisted (mapped_row limit gs w) b b'
    past t = record { state = rw t; groups = rw t; entries = rw t at e }

    within : ltb limit (length gs) ≡ false → Listed (length read) (matches_of c right read) (mapped_row limit gs w) b b'
    within t =
        record {
          state = rw (t, as_many);
          groups = rw (t, as_many);
          entries = rw t at e ∙ ap (λ l. placed 0 l (cleared b)) (matches-entries c right read);
        }

-- ---- one answer: demand 2 for the mapper

module _ (q : ℕ) (c : Catalogue) (ks rs os read : List ℕ) (limit : ℕ) (r : Result Mapping Refusal) (b b' : List ℕ) (m : MapsTo q c ks rs os read limit r b b') where
  -- a refusal is the first whose condition holds, and it is never 0
  pub map_number : (n : ℕ) → answer_of r ≡ refused n → (map_refusal q c ks rs os read limit (entry_count b) ≡ n) × (n ≡ 0 → ⊥)
  map_number n e = outcome_number (map_refusal q c ks rs os read limit (entry_count b)) n _ (sym m.answer ∙ e)

  module _ (a : Row) (told : answer_of r ≡ accepted a) where
    none : (map_refusal q c ks rs os read limit (entry_count b) ≡ 0) × (mapped_row limit (groups (mapped_sequences c) read) (work q (mapped_sequences c) read limit) ≡ a)
    none = outcome_accepted (map_refusal q c ks rs os read limit (entry_count b)) _ a (sym m.answer ∙ told)

    right : Valid c
    unfolding map_refusal index_refusal
    right = (plan_right q c (none_first (plan_refusal q c) _ (none_first (index_refusal q c ks rs os) _ none.0))).1

    -- an accepted read is indeterminate exactly if it has more matches than the limit; else the entries are exactly the matches, each
    -- once, ascending by rank, start and strand
    pub map_lists : Lists c read limit a b b'
    map_lists =
        subst (λ (x : Row). Lists c read limit x b b') none.1
        (row_lists c right read limit (work q (mapped_sequences c) read limit) b b' (rw none.0 at m.entries))

    -- the work is that of the search by index under the limit
    pub map_work : a.work ≡ work q (mapped_sequences c) read limit
    map_work = ap (λ (x : Row). x.work) (sym none.1)

-- ---- two searches of one list of sequences

module _ (ss : List (List ℕ)) (ranked read : List ℕ) (limit : ℕ) (way : Way) (r : Result Mapping Refusal) (b b' : List ℕ) (s : SearchAnswered way ss ranked read limit r b b') (a : Row) (told : answer_of r ≡ accepted a) where
  abbrev gs : List Place
  gs = groups ss read

  found : (room_refusal (entry_count b) limit (length gs) ≡ 0) × (mapped_row limit gs (work_by way ss read limit) ≡ a)
  found = outcome_accepted (room_refusal (entry_count b) limit (length gs)) _ a (sym s.answer ∙ told)

  search_groups : a.groups ≡ length (listed limit gs)
  search_groups = ap (λ (x : Row). x.groups) (sym found.1)

  search_work : a.work ≡ work_by way ss read limit
  search_work = ap (λ (x : Row). x.work) (sym found.1)

  -- the listed groups stand at the front of the entries
  search_rows : take (4 * a.groups) b' ≡ entries_of ranked (length read) (listed limit gs)
  search_rows =
      ap₂ take (ap (λ n. 4 * n) search_groups ∙ sym (length-entries ranked (length read) (listed limit gs))) (rw found.0 at s.entries)
      ∙ take_at (entries_of ranked (length read) (listed limit gs)) _ (length (entries_of ranked (length read) (listed limit gs))) refl

-- neither is refused: the search by index and the search at every start agree, and the index compares no more
pub searches_agree : (q : ℕ) → 1 ≤ q → (ss : List (List ℕ)) (ranked read : List ℕ) (limit : ℕ) (r r' : Result Mapping Refusal) (b b' d d' : List ℕ)
    → SearchAnswered (by_index q) ss ranked read limit r b b' → SearchAnswered plain ss ranked read limit r' d d'
    → (a a' : Row) → answer_of r ≡ accepted a → answer_of r' ≡ accepted a' → SearchesAgree a a' b' d'
unfolding work scan_work
searches_agree q some ss ranked read limit r r' b b' d d' s s' a a' e e' =
    let f = found ss ranked read limit (by_index q) r b b' s a e in
    let f' = found ss ranked read limit plain r' d d' s' a' e' in
    record {
      state = ap (λ (x : Row). x.state) (sym f.1) ∙ ap (λ (x : Row). x.state) f'.1;
      groups = search_groups ss ranked read limit (by_index q) r b b' s a e ∙ sym (search_groups ss ranked read limit plain r' d d' s' a' e');
      rows = search_rows ss ranked read limit (by_index q) r b b' s a e ∙ sym (search_rows ss ranked read limit plain r' d d' s' a' e');
      fewer = rw (search_work ss ranked read limit (by_index q) r b b' s a e, search_work ss ranked read limit plain r' d d' s' a' e') (comparable_fewer q ss read some limit);
    }

-- ---- a read turned round

module _ (ss : List (List ℕ)) (read : List ℕ) where
  pub number_turned : length (groups ss (reverse_complement read)) ≡ length (groups ss read)
  number_turned = rw (groups-turned, length_sort, length-map)

  pub listed-turned : (limit : ℕ) → listed limit (groups ss (reverse_complement read)) ≡ turned_groups (listed limit (groups ss read))
  listed-turned limit = rw number_turned (by_test (ltb limit (length (groups ss read))) (λ t. rw t) (λ t. rw t (groups-turned ss read)))

-- neither is refused: a search, in either way, of the read turned round has the same state and groups with their strands exchanged
pub search_turned : (ss : List (List ℕ)) (ranked read : List ℕ) (limit : ℕ) (way way' : Way) (r r' : Result Mapping Refusal) (b b' d d' : List ℕ)
    → SearchAnswered way ss ranked read limit r b b' → SearchAnswered way' ss ranked (reverse_complement read) limit r' d d'
    → (a a' : Row) → answer_of r ≡ accepted a → answer_of r' ≡ accepted a' → TurnedAnswer ranked (length read) limit (groups ss read) a a' d'
search_turned ss ranked read limit way way' r r' b b' d d' s s' a a' e e' =
    let f = found ss ranked read limit way r b b' s a e in
    let f' = found ss ranked (reverse_complement read) limit way' r' d d' s' a' e' in
    record {
      state = ap (λ (x : Row). x.state) (sym f.1) ∙ ap (mapped_state limit) (sym (number_turned ss read)) ∙ ap (λ (x : Row). x.state) f'.1;
      groups =
          search_groups ss ranked read limit way r b b' s a e ∙ by_test (ltb limit (length (groups ss read))) (λ t. rw (number_turned ss read, t)) (λ t. rw (number_turned ss read, t) (sym (number_turned ss read)))
          ∙ sym (search_groups ss ranked (reverse_complement read) limit way' r' d d' s' a' e');
      rows = search_rows ss ranked (reverse_complement read) limit way' r' d d' s' a' e' ∙ ap₂ (λ n l. entries_of ranked n l) (length-reverse_complement read) (listed-turned ss read limit);
    }

-- ---- and for map

module _ (q : ℕ) (c : Catalogue) (ks rs os read : List ℕ) (limit : ℕ) (r : Result Mapping Refusal) (b b' : List ℕ) (m : MapsTo q c ks rs os read limit r b b') (a : Row) (told : answer_of r ≡ accepted a) where
  -- an accepted answer of `map` is that of the search by index
  map_searched : SearchAnswered (by_index q) (mapped_sequences c) (supplied_places c) read limit r b b'
  unfolding map_refusal
  map_searched =
      let z = (none q c ks rs os read limit r b b' m a told).0 in
      let y = none_first (index_refusal q c ks rs os) _ z in
      let x : ranked_refusal (mapped_sequences c) read limit (entry_count b) ≡ 0 = rw y at z in
      let v = none_first (read_refusal read limit) _ x in
      rw (y, v) at m

-- a read and the read turned round, both accepted
pub map_turned : (q : ℕ) (c : Catalogue) (ks rs os read : List ℕ) (limit : ℕ) (r r' : Result Mapping Refusal) (b b' d d' : List ℕ)
    → MapsTo q c ks rs os read limit r b b' → MapsTo q c ks rs os (reverse_complement read) limit r' d d'
    → (a a' : Row) → answer_of r ≡ accepted a → answer_of r' ≡ accepted a' → TurnedAnswer (supplied_places c) (length read) limit (groups (mapped_sequences c) read) a a' d'
map_turned q c ks rs os read limit r r' b b' d d' m m' a a' e e' =
    search_turned (mapped_sequences c) (supplied_places c) read limit (by_index q) (by_index q) r r' b b' d d'
    (map_searched q c ks rs os read limit r b b' m a e) (map_searched q c ks rs os (reverse_complement read) limit r' d d' m' a' e') a a' e e'

-- ---- refusals of a read turned round

base_complement : (b : ℕ) → is_capital b ≡ true → is_capital (complement_of b) ≡ true
unfolding is_capital complement_of
base_complement = at-capitals (λ b. is_capital (complement_of b)) refl refl refl refl

capitals-turned : (bs : List ℕ) → every is_capital (reverse_complement bs) ≡ every is_capital bs
unfolding reverse_complement
capitals-turned bs = every_reverse is_capital (map complement_of bs) ∙ go bs
  where
    go : (l : List ℕ) → every is_capital (map complement_of l) ≡ every is_capital l
    go [] = refl
    go (b ∷ l) = ap₂ {C = Bool} (λ x y. x && y) (same_test (λ t. rw (complement_twice b) at (base_complement (complement_of b) t)) (base_complement b)) (go l)

-- with as many entries it is refused by the same number
pub refusal_turned : (q : ℕ) (c : Catalogue) (ks rs os read : List ℕ) (limit entries : ℕ) → map_refusal q c ks rs os (reverse_complement read) limit entries ≡ map_refusal q c ks rs os read limit entries
unfolding map_refusal read_refusal
refusal_turned q c ks rs os read limit entries = rw (length-reverse_complement, capitals-turned, number_turned (mapped_sequences c) read)
