-- A search into a part of the entries: the part keeps its length, and comes back at its place.
use Rattle.std.specs.Prelude.{Result}
use Rattle.promises.specs.declared.refusal.Refusal.{Refusal}
use mathlib.Core.Path.{◌≡◌, refl, sym, ap, ◌∙◌}
use mathlib.Core.List.{List, ◌++◌, append_assoc}
use Prim.Native.Nat.{ℕ, zero, suc, ◌+◌, ◌≤◌}
use native.Mathlib.Omega.{arith}
use lib.ListN.{length, take, drop}
use lib.Seq.{drop-drop}
use lib.Dec.{ltb, eqb}
use borrow.Author.Tests.{ltb-false}
use borrow.Rule.Slice.PartMut.{put_mid}
use Rattle.lists.specs.Cut.{window}
use Rattle.lists.proofs.Cases.{by_test}
use Rattle.lists.proofs.Cut.{length-window}
use Rattle.buffers.specs.Placed.{placed}
use Rattle.buffers.proofs.Storing.{length-placed}
use Rattle.map_places.specs.Place.{Place, groups}
use Rattle.map_every_start.specs.Entries.{entries_of, entry_count, cleared}
use Rattle.map_every_start.proofs.Going.{length-entries}
use Rattle.map_by_index.specs.Work.{Way}
use Rattle.map_answers.specs.Answer.{entries_after, listed, room_refusal, read_entries}
use Rattle.map_search.specs.Answered.{SearchAnswered, PartSearched}
use Rattle.map_answers.proofs.Concluding.{length-cleared}
use Rattle.map_answers.specs.declared.answer.Mapping.{Mapping}

-- a part put back is a placed part
part_back : (from width : ℕ) (b g : List ℕ) → from + width ≤ length b → length g ≡ width → put_mid from width b g ≡ placed from g b
part_back from width b g h l =
    let e : drop width (drop from b) ≡ drop (from + length g) b = drop-drop width from b ∙ ap (λ k. drop (from + k) b) (sym l) in
    ap (λ r. take from b ++ (g ++ r)) e ∙ sym (append_assoc (take from b) g (drop (from + length g) b))

after_length : (b : List ℕ) (n : ℕ) (xs : List ℕ) → (n ≡ 0 → length xs ≤ length b) → length (entries_after n xs b) ≡ length b
after_length b zero xs f = length-placed 0 xs (cleared b) (omega (arith, f refl, length-cleared b)) ∙ length-cleared b
after_length b (suc n) xs f = by_test (eqb (suc n) 10) (λ e. rw e (length-cleared b)) (λ e. rw e refl)

-- where there is no refusal the listed groups have room
pub listed-room : (entries limit : ℕ) (gs : List Place) → room_refusal entries limit (length gs) ≡ 0 → length (listed limit gs) ≤ entries
listed-room entries limit gs z =
    by_test (ltb limit (length gs))
    (λ e. rw e (omega arith))
    (λ e. rw e (by_test (ltb entries (length gs))
    (λ f. by_test (ltb entries limit) (λ g. absurd (omega (arith, rw (f, g) at z))) (λ g. omega (arith, ltb-false limit (length gs) e, ltb-false entries limit g)))
    (λ f. ltb-false entries (length gs) f)))

-- a call that is refused by 10 where there is no room keeps the length of its entries
pub read_entries-length : (refusal : ℕ) (ranked : List ℕ) (n limit : ℕ) (gs : List Place) (b : List ℕ) → (refusal ≡ 0 → room_refusal (entry_count b) limit (length gs) ≡ 0) → length (read_entries refusal ranked n limit gs b) ≡ length b
read_entries-length refusal ranked n limit gs b f =
    after_length b refusal (entries_of ranked n (listed limit gs)) (λ z. let room = listed-room (entry_count b) limit gs (f z) in omega (arith, room, length-entries ranked n (listed limit gs)))

-- a lent part of k numbers is back with the answer for a read
pub part_searched : (way : Way) (ss : List (List ℕ)) (ranked read : List ℕ) (limit from width : ℕ) (r : Result Mapping Refusal) (b : List ℕ) → from + width ≤ length b → (k : ℕ) → k ≡ width → (g : List ℕ)
    → SearchAnswered way ss ranked read limit r (window b from k) g
    → PartSearched way ss ranked read limit from width r b (put_mid from k b g)
part_searched way ss ranked read limit from width r b h k e g a =
    let t : SearchAnswered way ss ranked read limit r (window b from width) g = rw e at a in
    let kept = read_entries-length (room_refusal (entry_count (window b from width)) limit (length (groups ss read))) ranked (length read) limit (groups ss read) (window b from width) (λ z. z) in
    let l : length g ≡ width = ap length t.entries ∙ kept ∙ length-window b from width h in
    record {
      answer = t.answer;
      part = ap (λ n. put_mid from n b g) e ∙ part_back from width b g h l ∙ ap (λ x. placed from x b) t.entries;
    }
