-- The work of a search under any bound, and its answer.
use Rattle.std.specs.Prelude.{Result}
use Rattle.promises.specs.declared.refusal.Refusal.{Refusal}
use mathlib.Core.Path.{◌≡◌, refl, ap, ◌∙◌}
use mathlib.Core.Bool.{true, false, cond}
use mathlib.Core.List.{List}
use Prim.Native.Nat.{ℕ, suc, ◌-◌, ◌*◌, ◌/◌, ◌≤◌, ◌<◌, min}
use native.Mathlib.Omega.{arith}
use native.Mathlib.Nat.{zero-add}
use lib.ListN.{length, take, length-take}
use lib.Seq.{take_all, take-take}
use lib.Dec.{ltb}
use borrow.Author.Tests.{lt-ltb, le-ltb, ltb-true, ltb-false}
use Rattle.lists.specs.Filter.{filter}
use Rattle.lists.specs.Limit.{stopped}
use Rattle.lists.proofs.Cases.{by_test}
use Rattle.lists.proofs.Limit.{filter_stopped, stopped_whole}
use Rattle.promises.specs.Refusal.{refused, accepted}
use Rattle.buffers.specs.Placed.{placed}
use Rattle.buffers.proofs.Storing.{placed_none}
use Rattle.map_places.specs.Place.{Place, places, matches, groups}
use Rattle.map_candidates.specs.Search.{comparable}
use Rattle.map_candidates.proofs.Candidates.{comparable_groups}
use Rattle.map_every_start.specs.Entries.{entries_of, entry_count, cleared}
use Rattle.map_every_start.specs.Searched.{Searched}
use Rattle.map_every_start.proofs.Going.{length-entries}
use Rattle.map_by_index.specs.Work.{work_of, work, scan_work, Way, plain, work_by}
use Rattle.map_answers.specs.Answer.{answer_of, row, state_of, room_refusal, Concluded}
use Rattle.map_search.specs.Answered.{SearchAnswered}
use Rattle.map_by_index.specs.Steps.{Found}
use Rattle.map_by_index.specs.declared.work.MappingWork.{MappingWork}
use Rattle.map_answers.proofs.Concluding.{length-cleared, length-listed, cleared_again}
use Rattle.map_answers.specs.declared.answer.Mapping.{Mapping}

-- ---- the work of a search under each bound

-- it sees one match past the bound, if there is one; where there is none, the bound changes nothing
pub record Bounded (gs : List Place) (w : ℕ → MappingWork) : Type 0 where
  pub sees : (n : ℕ) → (w n).seen ≡ min (suc n) (length gs)
  pub same : (n m : ℕ) → length gs ≤ n → length gs ≤ m → w n ≡ w m

module _ (ss : List (List ℕ)) (read : List ℕ) where
  module _ (xs : List Place) (whole : filter (matches ss read) xs ≡ groups ss read) where
    sees_of : (n : ℕ) → length (filter (matches ss read) (stopped (matches ss read) xs n)) ≡ min (suc n) (length (groups ss read))
    sees_of n = ap length (filter_stopped (matches ss read) xs n) ∙ length-take (suc n) (filter (matches ss read) xs) ∙ ap (λ l. min (suc n) (length l)) whole

    all_of : (n : ℕ) → length (groups ss read) ≤ n → stopped (matches ss read) xs n ≡ xs
    all_of n h = stopped_whole (matches ss read) xs n (omega (arith, ap length whole))

  every_match : filter (matches ss read) (places (length read) ss) ≡ groups ss read
  unfolding groups
  every_match = refl

  pub scan_bounded : Bounded (groups ss read) (λ n. scan_work ss read n)
  unfolding scan_work
  scan_bounded = record { sees = λ n. sees_of (places (length read) ss) every_match n; same = λ n m h k. rw (all_of (places (length read) ss) every_match n h, all_of (places (length read) ss) every_match m k) }

  module _ (q : ℕ) where
    pub work_bounded : 1 ≤ q → Bounded (groups ss read) (λ n. work q ss read n)
    unfolding work
    work_bounded some =
        record {
          sees = λ n. sees_of (comparable q ss read) (comparable_groups q ss read some) n;
          same = λ n m h k. rw (all_of (comparable q ss read) (comparable_groups q ss read some) n h, all_of (comparable q ss read) (comparable_groups q ss read some) m k, comparable_groups q ss read some, le-ltb n (length (groups ss read)) h, le-ltb m (length (groups ss read)) k);
        }

    -- a read shorter than a seed is searched at every start
    pub work_short : length read < q → (n : ℕ) → scan_work ss read n ≡ work q ss read n
    unfolding work scan_work comparable
    work_short h n = rw (lt-ltb (length read) q h)

-- ---- refusal 10

module _ (entries limit matched : ℕ) where
  room-listed : matched ≤ entries → room_refusal entries limit matched ≡ 0
  room-listed h = rw (le-ltb entries matched h)

  room_short : entries < matched → entries < limit → room_refusal entries limit matched ≡ 10
  room_short h k = rw (lt-ltb entries matched h, lt-ltb entries limit k)

  roomy : limit ≤ entries → room_refusal entries limit matched ≡ 0
  roomy h = by_test (ltb entries matched) (λ t. rw (t, le-ltb entries limit h)) (λ t. rw t)

-- ---- the answer

module _ (ss : List (List ℕ)) (ranked read : List ℕ) (limit bound : ℕ) (way : Way) (bounded : Bounded (groups ss read) (λ n. work_by way ss read n)) (b b' b'' : List ℕ) (m : MappingWork) (r : Result Mapping Refusal) where
  abbrev gs : List Place
  gs = groups ss read

  abbrev entries : ℕ
  entries = entry_count b

  abbrev rows : List ℕ
  rows = entries_of ranked (length read) (take bound gs)

  abbrev Goal : Type 0
  Goal = SearchAnswered way ss ranked read limit r b b''

  module _ (f : Found way ss ranked read bound m (cleared b) b') (e : bound ≡ min limit (entry_count (cleared b))) (c : Concluded limit bound m r b' b'') where
    bound_is : bound ≡ min limit entries
    bound_is = e ∙ ap (λ n. min limit (n / 4)) (length-cleared b)

    seen_is : m.seen ≡ min (suc bound) (length gs)
    seen_is = ap (λ (x : MappingWork). x.seen) f.work_is ∙ bounded.sees bound

    rows_fit : length rows ≤ 4 * entries
    rows_fit = omega (arith, length-entries ranked (length read) (take bound gs), length-take bound gs, bound_is)

    -- all groups are listed
    few : ltb bound m.seen ≡ false → Goal
    few t =
        let n : length gs ≤ bound = omega (arith, seen_is, ltb-false bound m.seen t) in
        let s : m.seen ≡ length gs = omega (arith, seen_is) in
        let same : m ≡ work_by way ss read limit = f.work_is ∙ bounded.same bound limit n (omega (arith, bound_is)) in
        let l : ltb limit (length gs) ≡ false = le-ltb limit (length gs) (omega (arith, bound_is)) in
        rw (room-listed entries limit (length gs) (omega (arith, bound_is)))
        (record {
          answer = rw l (rw t at c.answer ∙ ap (λ k. accepted (row (state_of k) k m)) s ∙ ap (λ x. accepted (row (state_of (length gs)) (length gs) x)) same);
          entries = rw l (rw t at c.entries ∙ f.content ∙ ap (λ l. placed 0 (entries_of ranked (length read) l) (cleared b)) (take_all bound gs n));
        })

    module _ (t : ltb bound m.seen ≡ true) where
      more : bound < length gs
      more = omega (arith, seen_is, ltb-true bound m.seen t)

      room-is : entry_count b' ≡ entries
      room-is = ap (λ l. entry_count l) f.content ∙ ap (λ n. n / 4) (length-listed b rows rows_fit)

      zero_again : b'' ≡ cleared b
      zero_again = rw t at c.entries ∙ ap (λ l. cleared l) f.content ∙ cleared_again b rows rows_fit

      answer_is : answer_of r ≡ cond (ltb entries limit) (refused 10) (accepted (row 2 0 m))
      answer_is = rw (t, room-is) at c.answer

      -- more groups than entries, and entries fewer than the limit
      short : ltb entries limit ≡ true → Goal
      short u =
          let k : entries < limit = ltb-true entries limit u in
          rw (room_short entries limit (length gs) (omega (arith, more, bound_is)) k)
          (record { answer = rw u at answer_is; entries = zero_again })

      -- more groups than the limit
      past : ltb entries limit ≡ false → Goal
      past u =
          let k : limit ≤ entries = ltb-false entries limit u in
          let z : bound ≡ limit = omega (arith, bound_is) in
          let l : ltb limit (length gs) ≡ true = lt-ltb limit (length gs) (omega (arith, more)) in
          rw (roomy entries limit (length gs) k)
          (record { answer = rw l (rw u at answer_is ∙ ap (λ x. accepted (row 2 0 x)) (f.work_is ∙ ap (λ n. work_by way ss read n) z)); entries = rw l (zero_again ∙ placed_none 0 (cleared b)) })

    answered : Goal
    answered = by_test (ltb bound m.seen) (λ t. by_test (ltb entries limit) (short t) (past t)) few

  -- the answer by the matches seen under the lesser of limit and entries is that of the limit
  pub search_answered : (b₀ : List ℕ) → b₀ ≡ cleared b → bound ≡ min limit (entry_count b₀) → Found way ss ranked read bound m b₀ b' → Concluded limit bound m r b' b'' → Goal
  search_answered b₀ z e f c = answered (rw z at f) (rw z at e) c

-- ---- the search at every start

module _ (ss : List (List ℕ)) (ranked read : List ℕ) (bound comparisons seen : ℕ) (b b' : List ℕ) where
  pub scan_found : Searched ss ranked read bound (places (length read) ss) 0 0 b comparisons seen b' → (w : MappingWork) → w ≡ work_of 0 0 0 (record { comparisons = comparisons; seen = seen }) → Found plain ss ranked read bound w b b'
  unfolding scan_work groups
  scan_found s w e =
      let none : bound - 0 ≡ bound = omega arith in
      let ps : List Place = places (length read) ss in
      let cs : comparisons ≡ length (stopped (matches ss read) ps bound) = s.comparisons_are ∙ zero-add _ ∙ ap (λ n. length (stopped (matches ss read) ps n)) none in
      let ms : seen ≡ length (filter (matches ss read) (stopped (matches ss read) ps bound)) = s.seen_are ∙ zero-add _ ∙ ap (λ n. length (filter (matches ss read) (stopped (matches ss read) ps n))) none in
      record {
        work_is = e ∙ (λ i. work_of 0 0 0 (record { comparisons = cs i; seen = ms i }));
        content = s.content ∙ ap (λ n. placed 0 (entries_of ranked (length read) (take n (filter (matches ss read) (stopped (matches ss read) ps n)))) b) none ∙ ap (λ l. placed 0 (entries_of ranked (length read) (take bound l)) b) (filter_stopped (matches ss read) ps bound) ∙ ap (λ l. placed 0 (entries_of ranked (length read) l) b) (take-take bound (suc bound) (filter (matches ss read) ps) (omega arith));
      }
