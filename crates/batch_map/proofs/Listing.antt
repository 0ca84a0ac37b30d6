-- Refusals of a list of reads, and from ranked sequences to the catalogue.
use Rattle.std.specs.Prelude.{Result, Ok, Err}
use Rattle.promises.specs.declared.refusal.Refusal.{Refusal}
use mathlib.Core.Path.{◌≡◌, refl, sym, ap, ◌∙◌}
use mathlib.Core.Bool.{Bool, true, false}
use mathlib.Core.List.{List, []}
use Prim.Native.Nat.{ℕ, ◌*◌, ◌/◌, ◌%◌, ◌≤◌}
use native.Mathlib.Omega.{arith}
use native.Mathlib.Nat.{mul-zero, mul_assoc}
use lib.ListN.{length, get_or, take, drop}
use lib.Dec.{eqb}
use borrow.Author.Tests.{eq-eqb, ne_eqb, eqb-true, eqb-false}
use Rattle.lists.specs.Cut.{window, cut, ends_within}
use Rattle.lists.proofs.Cases.{by_test, and-true}
use Rattle.lists.proofs.Cut.{length_cut}
use Rattle.promises.specs.Refusal.{unless, ◌or_else◌, refusal_number}
use Rattle.promises.proofs.Refusing.{first_stands, none_first, passed}
use Rattle.catalogue.specs.Catalogue.{Catalogue, supplied_places}
use Rattle.index_model.specs.Index.{index, index_of, mapped_sequences, ranked_sequences, index_refusal, columns_of}
use Rattle.index_plan.specs.Answers.{PlanRanked}
use Rattle.index_plan.proofs.Planning.{no_refusal, ranked_mapped, not-zero, test_refused}
use Rattle.map_places.specs.Place.{groups}
use Rattle.map_every_start.specs.Entries.{entry_count}
use Rattle.map_by_index.specs.Work.{work}
use Rattle.map_answers.specs.Bounds.{limit_right}
use Rattle.map_answers.specs.Answer.{read_answer, read_entries}
use Rattle.indexed_mapper.specs.Map.{ranked_refusal, map_refusal, map_answer, map_entries}
use Rattle.batch_rows.specs.Rows.{row_numbers}
use Rattle.batch_map.specs.Reads.{reads_right, list_refusal, reads_refusal, RankedReads, MapsReads, width_of}
use Rattle.batch_reads.specs.Shares.{RankedMapped, ReadsMapped, ranked_answer, ranked_entries}

-- ---- refusals of a limit and a list of reads

module _ (limit : ℕ) (bytes ends : List ℕ) (rows : ℕ) where
  pub limit_out : limit_right limit ≡ false → 9 ≡ list_refusal limit bytes ends rows
  limit_out e = rw e

  module _ (limited : limit_right limit ≡ true) where
    pub ends_wrong : ends_within 0 (length bytes) ends ≡ false → 25 ≡ list_refusal limit bytes ends rows
    ends_wrong e = rw (limited, e)

    module _ (right : ends_within 0 (length bytes) ends ≡ true) where
      pub rows_broken : (rows % 8 ≡ 0 → ⊥) → 25 ≡ list_refusal limit bytes ends rows
      rows_broken ne = rw (limited, right, ne_eqb rows (8 * length ends) (λ e. ne (omega arith)))

      pub rows_other : (rows / 8 ≡ length ends → ⊥) → 25 ≡ list_refusal limit bytes ends rows
      rows_other ne = rw (limited, right, ne_eqb rows (8 * length ends) (λ e. ne (omega arith)))

      pub list_right : rows % 8 ≡ 0 → rows / 8 ≡ length ends → 0 ≡ list_refusal limit bytes ends rows
      list_right z e = rw (limited, right, eq-eqb rows (8 * length ends) (omega arith))

  -- a list that is not refused
  pub list_fits : list_refusal limit bytes ends rows ≡ 0 → (ends_within 0 (length bytes) ends ≡ true) × (rows ≡ 8 * length ends)
  list_fits z =
      by_test (limit_right limit)
      (λ e. by_test (reads_right bytes ends rows)
      (λ f. let u = and-true (ends_within 0 (length bytes) ends) (eqb rows (8 * length ends)) f in (u.0, eqb-true rows (8 * length ends) u.1))
      (λ f. absurd (omega (arith, rw (e, f) at z))))
      (λ e. absurd (omega (arith, rw e at z)))

-- the shares of all reads are within the entries
pub shares_fit : (share n entries : ℕ) → share * n ≤ entries / 4 → 4 * share * n ≤ entries
shares_fit share n entries h = rw (mul_assoc 4 share n) (omega arith)

-- ---- reads for ranked sequences

module _ (q : ℕ) (ss : List (List ℕ)) (ranked ks rs os : List ℕ) (limit : ℕ) (bytes ends rows entries : List ℕ) where
  pub columns_wrong : columns_of (index_of q ss) ks rs os ≡ false → RankedReads q ss ranked ks rs os limit bytes ends 6 rows entries rows entries
  columns_wrong e = record { refusal = rw e; untouched = λ ne. (refl, refl); mapped = λ z. absurd (omega arith) }

  module _ (held : columns_of (index_of q ss) ks rs os ≡ true) where
    pub list_refused : (r : ℕ) → r ≡ list_refusal limit bytes ends (length rows) → (r ≡ 0 → ⊥) → RankedReads q ss ranked ks rs os limit bytes ends r rows entries rows entries
    list_refused r e ne = record { refusal = rw held e; untouched = λ z. (refl, refl); mapped = λ z. absurd (ne z) }

    module _ (share : ℕ) (rows' entries' : List ℕ) (m : RankedMapped q ss ranked limit bytes ends share rows' entries entries') where
      -- no read has no share
      none_mapped : (other : ℕ) → length ends ≡ 0 → RankedMapped q ss ranked limit bytes ends other rows' entries entries'
      none_mapped other z =
          let n : length (cut ends bytes) ≡ 0 = length_cut 0 ends bytes ∙ z in
          let whole : drop (4 * share * 0) entries' ≡ drop (4 * share * 0) entries = rw n at m.rest in
          record {
            row = λ i h. absurd (omega arith);
            share = λ i h. absurd (omega arith);
            rest = rw (n, mul-zero) (rw mul-zero at whole);
          }

      pub list_mapped : list_refusal limit bytes ends (length rows) ≡ 0 → ((length ends ≡ 0 → ⊥) → share ≡ entry_count entries / length ends) → RankedReads q ss ranked ks rs os limit bytes ends 0 rows entries rows' entries'
      list_mapped z e =
          record {
            refusal = rw held (sym z);
            untouched = λ ne. absurd (ne refl);
            mapped = λ y. by_test (eqb (length ends) 0)
                (λ t. none_mapped (entry_count entries / length ends) (eqb-true (length ends) 0 t))
                (λ t. rw (e (eqb-false (length ends) 0 t)) at m);
          }

-- ---- from the ranking of a catalogue

-- an index that is not refused
held_index : (t : Bool) (n : ℕ) → (unless t 6 or_else n) ≡ 0 → t ≡ true
held_index t n z = passed t 6 (λ e. omega arith) (none_first (unless t 6) n z)

module _ (q : ℕ) (c : Catalogue) (r : Result ℕ Refusal) (buffer : List ℕ) (p : PlanRanked q c r buffer) (ks rs os : List ℕ) (limit : ℕ) (bytes ends rows entries : List ℕ) where
  pub reads_refused : (e : Refusal) → r ≡ Err e → MapsReads q c ks rs os limit bytes ends (refusal_number e) rows entries rows entries
  unfolding reads_refusal
  reads_refused e told =
      let n : ℕ = refusal_number e in
      let ne = not-zero q c r buffer p e told in
      let rest : ℕ = list_refusal limit bytes ends (length rows) in
      record {
        refusal = first_stands n rest ne ∙ ap (λ m. m or_else rest) (test_refused q c r buffer p e told ks rs os);
        untouched = λ z. (refl, refl);
        mapped = λ z. absurd (ne z);
      }

  -- what `map` is refused by where the index is held
  read_refused : index_refusal q c ks rs os ≡ 0 → (read : List ℕ) (n : ℕ) → ranked_refusal (mapped_sequences c) read limit n ≡ map_refusal q c ks rs os read limit n
  unfolding map_refusal
  read_refused z read n = rw z refl

  module _ (k : ℕ) (e : r ≡ Ok k) where
    pub reads_done : (x : ℕ) (rows' entries' : List ℕ) → RankedReads q (ranked_sequences c.bases c.base_ends (take k buffer)) (take k buffer) ks rs os limit bytes ends x rows entries rows' entries' → MapsReads q c ks rs os limit bytes ends x rows entries rows' entries'
    unfolding reads_refusal index_refusal
    reads_done x rows' entries' a =
        record {
          refusal = rw (no_refusal q c r buffer p k e) same.refusal;
          untouched = same.untouched;
          mapped = λ z. all (same.mapped z) (sym same.refusal ∙ z);
        }
      where
        same : RankedReads q (mapped_sequences c) (supplied_places c) ks rs os limit bytes ends x rows entries rows' entries'
        same = rw (ranked_mapped q c r buffer p k e, p.ranks k e) at a

        held : (unless (columns_of (index q c) ks rs os) 6 or_else list_refusal limit bytes ends (length rows)) ≡ 0 → index_refusal q c ks rs os ≡ 0
        held z = rw (no_refusal q c r buffer p k e, held_index (columns_of (index q c) ks rs os) (list_refusal limit bytes ends (length rows)) z) refl

        all : RankedMapped q (mapped_sequences c) (supplied_places c) limit bytes ends (entry_count entries / length ends) rows' entries entries' → (unless (columns_of (index q c) ks rs os) 6 or_else list_refusal limit bytes ends (length rows)) ≡ 0
            → ReadsMapped (λ read. map_answer q c ks rs os read limit (entry_count entries / length ends)) (λ read part. map_entries q c ks rs os read limit part) (cut ends bytes) (width_of entries (length ends)) rows' entries entries'
        all m z =
            record {
              row = λ i h. m.row i h ∙ answer (get_or (cut ends bytes) i []);
              share = λ i h. m.share i h ∙ after (get_or (cut ends bytes) i []) (window entries (width_of entries (length ends) * i) (width_of entries (length ends)));
              rest = m.rest;
            }
          where
            answer : (read : List ℕ) → row_numbers (ranked_answer q (mapped_sequences c) read limit (entry_count entries / length ends)) ≡ row_numbers (map_answer q c ks rs os read limit (entry_count entries / length ends))
            answer read = ap (λ n. row_numbers (read_answer n limit (groups (mapped_sequences c) read) (work q (mapped_sequences c) read limit))) (read_refused (held z) read (entry_count entries / length ends))

            after : (read part : List ℕ) → ranked_entries (mapped_sequences c) (supplied_places c) read limit part ≡ map_entries q c ks rs os read limit part
            after read part = ap (λ n. read_entries n (supplied_places c) (length read) limit (groups (mapped_sequences c) read) part) (read_refused (held z) read (entry_count part))
