-- Many reads mapped in one call (REFERENCE.md, "Many reads").
use Rattle.std.specs.Prelude.{◌≡◌, Bool, ◌&&◌, List, ℕ, ◌*◌, ◌/◌, length, eqb}
use Rattle.lists.specs.Cut.{cut, ends_within}
use Rattle.promises.specs.Refusal.{unless, ◌or_else◌}
use Rattle.catalogue.specs.Catalogue.{Catalogue}
use Rattle.index_model.specs.Index.{index_of, columns_of, index_refusal}
use Rattle.map_every_start.specs.Entries.{entry_count}
use Rattle.map_answers.specs.Bounds.{limit_right}
use Rattle.indexed_mapper.specs.Map.{map_answer, map_entries}
use Rattle.batch_reads.specs.Shares.{ReadsMapped, RankedMapped}

-- the numbers of each read's share: as many whole entries as each of n reads can have
abbrev pub width_of : List ℕ → ℕ → ℕ
width_of buffer n = 4 * (entry_count buffer / n)

-- 25 where this fails: ends neither fall nor pass the bytes, and there are eight numbers for each read
abbrev pub reads_right : List ℕ → List ℕ → ℕ → Bool
reads_right bytes ends rows = ends_within 0 (length bytes) ends && eqb rows (8 * length ends)

-- 9, then 25
abbrev pub list_refusal : ℕ → List ℕ → List ℕ → ℕ → ℕ
list_refusal limit bytes ends rows = unless (limit_right limit) 9 or_else unless (reads_right bytes ends rows) 25

-- 1 to 4, 6, 9 and 25, the first whose condition holds
unfoldable pub reads_refusal : ℕ → Catalogue → List ℕ → List ℕ → List ℕ → ℕ → List ℕ → List ℕ → List ℕ → ℕ
reads_refusal q c ks rs os limit bytes ends rows = index_refusal q c ks rs os or_else list_refusal limit bytes ends (length rows)

-- a refused call touches nothing; else read i has the row and the entries that `map` gives it with its share
pub record MapsReads (q : ℕ) (c : Catalogue) (ks rs os : List ℕ) (limit : ℕ) (bytes ends : List ℕ) (r : ℕ) (rows entries rows' entries' : List ℕ) : Type 0 where
  pub refusal : r ≡ reads_refusal q c ks rs os limit bytes ends rows
  pub untouched : (r ≡ 0 → ⊥) → (rows' ≡ rows) × (entries' ≡ entries)
  pub mapped :
      r ≡ 0 → ReadsMapped (λ read. map_answer q c ks rs os read limit (entry_count entries / length ends)) (λ read part. map_entries q c ks rs os read limit part) (cut ends bytes) (width_of entries (length ends)) rows' entries entries'

-- ---- the same for ranked sequences that need no test

-- refused by 6, 9 or 25 with nothing touched, or all reads mapped
pub record RankedReads (q : ℕ) (ss : List (List ℕ)) (ranked ks rs os : List ℕ) (limit : ℕ) (bytes ends : List ℕ) (r : ℕ) (rows entries rows' entries' : List ℕ) : Type 0 where
  pub refusal : r ≡ (unless (columns_of (index_of q ss) ks rs os) 6 or_else list_refusal limit bytes ends (length rows))
  pub untouched : (r ≡ 0 → ⊥) → (rows' ≡ rows) × (entries' ≡ entries)
  pub mapped : r ≡ 0 → RankedMapped q ss ranked limit bytes ends (entry_count entries / length ends) rows' entries entries'
