-- Reads mapped one after the other, each into its share.
use Rattle.std.specs.Prelude.{Result, Err}
use Rattle.promises.specs.declared.refusal.Refusal.{Refusal}
use mathlib.Core.Path.{◌≡◌, refl, sym, ap, ap₂, ◌∙◌}
use mathlib.Core.List.{List, []}
use Prim.Native.Nat.{ℕ, suc, ◌+◌, ◌*◌, ◌<◌, ◌≤◌}
use native.Mathlib.Omega.{arith}
use native.Mathlib.Nat.{mul-suc, mul-le-mul_left}
use lib.ListN.{length, get_or, take, drop}
use lib.Seq.{drop-drop}
use lib.Dec.{ltb}
use borrow.Author.Tests.{ltb-true, ltb-false}
use Rattle.lists.specs.Cut.{window, cut}
use Rattle.lists.proofs.Cases.{by_test}
use Rattle.lists.proofs.Cut.{length-window, length_cut}
use Rattle.promises.specs.Refusal.{Outcome, refusal_number}
use Rattle.promises.proofs.Refusing.{none_second}
use Rattle.buffers.specs.Placed.{placed}
use Rattle.buffers.proofs.Storing.{length-placed}
use Rattle.buffers.proofs.Placed.{placed_there, placed-before, placed-behind, placed_self}
use Rattle.map_places.specs.Place.{groups}
use Rattle.map_every_start.specs.Entries.{entry_count}
use Rattle.map_answers.specs.Answer.{Row, answer_of, room_refusal}
use Rattle.map_search.proofs.Parts.{read_entries-length}
use Rattle.indexed_mapper.specs.Map.{read_refusal, ranked_refusal}
use Rattle.indexed_mapper.proofs.Mapping.{read_refused}
use Rattle.batch_rows.specs.Rows.{row_numbers}
use Rattle.batch_reads.specs.Shares.{ReadsMapped, ShareMapped, RankedMapped, ranked_answer, ranked_entries}
use Rattle.batch_rows.proofs.Writing.{row_long}
use Rattle.map_answers.specs.declared.answer.Mapping.{Mapping}

-- ---- products

-- the next share ends within all of them
share_within : (width i n : ℕ) → i < n → width * i + width ≤ width * n
share_within width i n h = rw (← mul-suc width i) (mul-le-mul_left width h)

-- ---- a share

-- a mapped read keeps the length of its share
share_length : (ss : List (List ℕ)) (ranked read : List ℕ) (limit : ℕ) (part : List ℕ) → length (ranked_entries ss ranked read limit part) ≡ length part
share_length ss ranked read limit part =
    read_entries-length (ranked_refusal ss read limit (entry_count part)) ranked (length read) limit (groups ss read) part
    (none_second (read_refusal read limit) (room_refusal (entry_count part) limit (length (groups ss read))))

module _ (q : ℕ) (ss : List (List ℕ)) (ranked read : List ℕ) (limit from width : ℕ) (b : List ℕ) where
  -- refused before a search, with nothing touched
  pub share_refused : from + width ≤ length b → (e : Refusal) → refusal_number e ≡ read_refusal read limit → ShareMapped q ss ranked read limit from width (Err e) b b
  share_refused h e told =
      let r = read_refused q ss ranked read limit (window b from width) e told in
      record { answer = r.answer; share = sym (placed_self from width b h) ∙ ap (λ l. placed from l b) r.entries }

-- ---- reads mapped one after the other

-- the first i reads have their rows and shares, and nothing behind their shares is touched
pub record Shares (answer : List ℕ → Outcome Row) (after : List ℕ → List ℕ → List ℕ) (reads : List (List ℕ)) (width : ℕ) (rows₀ entries₀ : List ℕ) (i : ℕ) (rows entries : List ℕ) : Type 0 where
  pub upto : i ≤ length reads
  pub row : (j : ℕ) → j < i → window rows (8 * j) 8 ≡ row_numbers (answer (get_or reads j []))
  pub share : (j : ℕ) → j < i → window entries (width * j) width ≡ after (get_or reads j []) (window entries₀ (width * j) width)
  pub rest : drop (width * i) entries ≡ drop (width * i) entries₀
  pub rows_long : length rows ≡ length rows₀
  pub entries_long : length entries ≡ length entries₀

module _ (answer : List ℕ → Outcome Row) (after : List ℕ → List ℕ → List ℕ) (reads : List (List ℕ)) (width : ℕ) (rows₀ entries₀ : List ℕ) where
  shares_none : Shares answer after reads width rows₀ entries₀ 0 rows₀ entries₀
  shares_none = record { upto = omega arith; row = λ j h. absurd (omega arith); share = λ j h. absurd (omega arith); rest = refl; rows_long = refl; entries_long = refl }

  module _ (i : ℕ) (rows entries : List ℕ) (s : Shares answer after reads width rows₀ entries₀ i rows entries) where
    -- the next share is as at the start
    shares_untouched : window entries (width * i) width ≡ window entries₀ (width * i) width
    shares_untouched = ap (take width) s.rest

    shares_all : length reads ≤ i → ReadsMapped answer after reads width rows entries₀ entries
    shares_all h =
        let e : i ≡ length reads = omega (arith, s.upto) in
        record { row = λ j k. s.row j (omega arith); share = λ j k. s.share j (omega arith); rest = rw e at s.rest }

    module _ (here : i < length reads) (room : 8 * length reads ≤ length rows₀) (wide : width * length reads ≤ length entries₀) where
      row_room : 8 * i + 8 ≤ length rows
      row_room = omega (arith, s.rows_long)

      share_room : width * i + width ≤ length entries
      share_room = omega (arith, share_within width i (length reads) here, s.entries_long)

      module _ (r : Outcome Row) (part : List ℕ) (answered : r ≡ answer (get_or reads i [])) (written : part ≡ after (get_or reads i []) (window entries₀ (width * i) width)) (full : length part ≡ width) where
        abbrev rows' : List ℕ
        rows' = placed (8 * i) (row_numbers r) rows

        abbrev entries' : List ℕ
        entries' = placed (width * i) part entries

        row_inside : 8 * i + length (row_numbers r) ≤ length rows
        row_inside = rw (row_long r) row_room

        inside : width * i + length part ≤ length entries
        inside = omega (arith, share_room)

        row_next : (j : ℕ) → j < i + 1 → window rows' (8 * j) 8 ≡ row_numbers (answer (get_or reads j []))
        row_next j h =
            by_test (ltb j i)
            (λ e. let k = ltb-true j i e in placed-before (8 * i) (row_numbers r) rows (omega (arith, row_inside)) (8 * j) 8 (omega arith) ∙ s.row j k)
            (λ e. let k : j ≡ i = omega (arith, ltb-false j i e) in rw k (ap (λ n. window rows' (8 * i) n) (sym (row_long r)) ∙ placed_there (8 * i) (row_numbers r) rows (omega (arith, row_inside)) ∙ ap row_numbers answered))

        share_next : (j : ℕ) → j < i + 1 → window entries' (width * j) width ≡ after (get_or reads j []) (window entries₀ (width * j) width)
        share_next j h =
            by_test (ltb j i)
            (λ e. let k = ltb-true j i e in placed-before (width * i) part entries (omega (arith, inside)) (width * j) width (share_within width j i k) ∙ s.share j k)
            (λ e. let k : j ≡ i = omega (arith, ltb-false j i e) in rw k (ap (λ n. window entries' (width * i) n) (sym full) ∙ placed_there (width * i) part entries (omega (arith, inside)) ∙ written))

        behind : drop (width * (i + 1)) entries' ≡ drop (width * (i + 1)) entries₀
        behind =
            let m : width * (i + 1) ≡ width * i + length part = ap (λ n. width * n) one ∙ mul-suc width i ∙ ap (λ n. width * i + n) (sym full) in
            rw m (placed-behind (width * i) part entries (length part) (omega arith) inside ∙ sym (drop-drop (length part) (width * i) entries) ∙ ap (drop (length part)) s.rest ∙ drop-drop (length part) (width * i) entries₀)
          where
            one : i + 1 ≡ suc i
            one = omega arith

        shares_more : Shares answer after reads width rows₀ entries₀ (i + 1) rows' entries'
        shares_more =
            record {
              upto = omega arith;
              row = row_next;
              share = share_next;
              rest = behind;
              rows_long = length-placed (8 * i) (row_numbers r) rows row_inside ∙ s.rows_long;
              entries_long = length-placed (width * i) part entries inside ∙ s.entries_long;
            }

-- the same for ranked sequences
abbrev pub RankedShares : ℕ → List (List ℕ) → List ℕ → ℕ → List ℕ → List ℕ → ℕ → List ℕ → List ℕ → ℕ → List ℕ → List ℕ → Type 0
RankedShares q ss ranked limit bytes ends share rows₀ entries₀ i rows entries =
    Shares (λ read. ranked_answer q ss read limit share) (λ read part. ranked_entries ss ranked read limit part) (cut ends bytes) (4 * share) rows₀ entries₀ i rows entries

module _ (q : ℕ) (ss : List (List ℕ)) (ranked : List ℕ) (limit : ℕ) (bytes ends : List ℕ) (share : ℕ) (rows₀ entries₀ : List ℕ) where
  abbrev one_answer : List ℕ → Outcome Row
  one_answer read = ranked_answer q ss read limit share

  abbrev one_after : List ℕ → List ℕ → List ℕ
  one_after read part = ranked_entries ss ranked read limit part

  count : length (cut ends bytes) ≡ length ends
  count = length_cut 0 ends bytes

  module _ (i : ℕ) (rows entries : List ℕ) (s : RankedShares q ss ranked limit bytes ends share rows₀ entries₀ i rows entries) where
    pub shares_end : length ends ≤ i → RankedMapped q ss ranked limit bytes ends share rows entries₀ entries
    shares_end h = shares_all one_answer one_after (cut ends bytes) (4 * share) rows₀ entries₀ i rows entries s (omega (arith, count))

    module _ (here : i < length ends) (room : length rows₀ ≡ 8 * length ends) (wide : 4 * share * length ends ≤ length entries₀) where
      here' : i < length (cut ends bytes)
      here' = rw count here

      room' : 8 * length (cut ends bytes) ≤ length rows₀
      room' = omega (arith, count)

      wide' : 4 * share * length (cut ends bytes) ≤ length entries₀
      wide' = rw count wide

      pub shares_share : 4 * share * i + 4 * share ≤ length entries
      shares_share = share_room one_answer one_after (cut ends bytes) (4 * share) rows₀ entries₀ i rows entries s here' room' wide'

      module _ (read : List ℕ) (r : Result Mapping Refusal) (rows' entries' : List ℕ) (taken : read ≡ get_or (cut ends bytes) i []) (mapped : ShareMapped q ss ranked read limit (4 * share * i) (4 * share) r entries entries') (put : rows' ≡ placed (8 * i) (row_numbers (answer_of r)) rows) where
        long : length (window entries (4 * share * i) (4 * share)) ≡ 4 * share
        long = length-window entries (4 * share * i) (4 * share) shares_share

        answered : answer_of r ≡ one_answer (get_or (cut ends bytes) i [])
        answered =
            let n : entry_count (window entries (4 * share * i) (4 * share)) ≡ share = omega (arith, long) in
            mapped.answer ∙ ap₂ (λ l k. ranked_answer q ss l limit k) taken n

        written : one_after read (window entries (4 * share * i) (4 * share)) ≡ one_after (get_or (cut ends bytes) i []) (window entries₀ (4 * share * i) (4 * share))
        written = ap₂ (λ l b. ranked_entries ss ranked l limit b) taken (shares_untouched one_answer one_after (cut ends bytes) (4 * share) rows₀ entries₀ i rows entries s)

        full : length (one_after read (window entries (4 * share * i) (4 * share))) ≡ 4 * share
        full = share_length ss ranked read limit (window entries (4 * share * i) (4 * share)) ∙ long

        pub shares_next : RankedShares q ss ranked limit bytes ends share rows₀ entries₀ (i + 1) rows' entries'
        shares_next =
            rw (put, mapped.share)
            (shares_more one_answer one_after (cut ends bytes) (4 * share) rows₀ entries₀ i rows entries s here' room' wide' (answer_of r) (one_after read (window entries (4 * share * i) (4 * share))) answered written full)
