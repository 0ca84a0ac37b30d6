-- The index of a catalogue (REFERENCE.md, "Index").
use Rattle.std.specs.Prelude.{◌≡◌, Bool, true, false, ◌&&◌, List, [], ◌∷◌, ◌++◌, map, ℕ, zero, suc, ◌≤◌, ◌<◌, length, get_or, leb, ltb, eqb}
use Rattle.lists.specs.Filter.{filter, every}
use Rattle.lists.specs.Sort.{sort}
use Rattle.lists.specs.Same.{same}
use Rattle.lists.specs.Cut.{cut, ends_within}
use Rattle.promises.specs.Refusal.{unless, ◌or_else◌}
use Rattle.bases.specs.Read.{capitals}
use Rattle.catalogue.specs.Catalogue.{Catalogue, Target, catalogue_refusal, mapped, max_targets, max_bases}
use Rattle.index_model.specs.declared.ranked.RankedTargets.{RankedTargets}
use Rattle.index_columns.specs.Posting.{Posting, earlier, row}
use Rattle.index_seeds.specs.Key.{key_of, max_seed}
use Rattle.index_seeds.specs.Seeds.{seeds, keys_of, ranks_of, positions_of}
use Rattle.index_seeds.specs.Window.{window_of, starts}

-- every seed of sequences by rank, the first of which has rank r
abbrev pub all_seeds : ℕ → ℕ → List (List ℕ) → List Posting
all_seeds q r [] = []
all_seeds q r (s ∷ ss) = seeds q r s ++ all_seeds q (suc r) ss

-- every seed of sequences by rank, ascending
unfoldable pub index_of : ℕ → List (List ℕ) → List Posting
index_of q ss = sort earlier (all_seeds q 0 ss)

-- the sequences of the mapped targets, by rank
abbrev pub mapped_sequences : Catalogue → List (List ℕ)
mapped_sequences c = map (λ (t : Target). t.bases) (mapped c)

-- the index of a catalogue: every seed of every mapped target, ascending
abbrev pub index : ℕ → Catalogue → List Posting
index q c = index_of q (mapped_sequences c)

-- the postings of a key
abbrev pub hits : ℕ → List Posting → List Posting
hits key ps = filter (λ (p : Posting). eqb p.key key) ps

-- ---- refusals

-- 1 where this fails
abbrev pub seed_right : ℕ → Bool
seed_right q = leb 1 q && leb q max_seed

-- plan: 1 to 4
unfoldable pub plan_refusal : ℕ → Catalogue → ℕ
plan_refusal q c = unless (seed_right q) 1 or_else catalogue_refusal c

-- build: 1 to 5; entries are what the shortest column holds
unfoldable pub build_refusal : ℕ → Catalogue → ℕ → ℕ
build_refusal q c entries = plan_refusal q c or_else unless (leb (length (index q c)) entries) 5

-- three columns have the number and the content of postings
abbrev pub columns_of : List Posting → List ℕ → List ℕ → List ℕ → Bool
columns_of ps ks rs os = same ks (keys_of ps) && same rs (ranks_of ps) && same os (positions_of ps)

-- the test of a lent index: 1 to 4, 6
unfoldable pub index_refusal : ℕ → Catalogue → List ℕ → List ℕ → List ℕ → ℕ
index_refusal q c ks rs os = plan_refusal q c or_else unless (columns_of (index q c) ks rs os) 6

-- ---- what inner calls are lent

-- the sequences at ranked places
abbrev pub ranked_sequences : List ℕ → List ℕ → List ℕ → List (List ℕ)
ranked_sequences bases ends ranked = map (λ p. get_or (cut ends bases) p []) ranked

-- those that the slices of a call hold
abbrev pub lent_sequences : List ℕ → List ℕ → List ℕ → List (List ℕ)
lent_sequences bases ends ranked = ranked_sequences bases ends ranked

abbrev pub sequences_in : RankedTargets → List (List ℕ)
sequences_in t = lent_sequences t.bases.now t.ends.now t.ranked.now

-- what every inner call is lent: sequences with right ends within the bound, and places of them by rank, all of capitals
pub record Lent (bases ends ranked : List ℕ) : Type 0 where
  pub right : ends_within 0 (length bases) ends ≡ true
  pub total : ends_within 0 max_bases ends ≡ true
  pub few : length ranked ≤ max_targets
  pub places : every (λ p. ltb p (length ends)) ranked ≡ true
  pub capitals : every capitals (ranked_sequences bases ends ranked) ≡ true

-- no more starts than this in as many sequences of as many bases as a catalogue can have
abbrev pub max_starts : ℕ
max_starts = 68719476736

-- columns that hold the index of sequences
pub record Indexed (q : ℕ) (ss : List (List ℕ)) (ks rs os : List ℕ) : Type 0 where
  pub keys : ks ≡ keys_of (index_of q ss)
  pub ranks : rs ≡ ranks_of (index_of q ss)
  pub positions : os ≡ positions_of (index_of q ss)

-- ---- what inner calls answer

-- a posting is a seed of the sequences
abbrev pub is_seed : ℕ → List (List ℕ) → Posting → Bool
is_seed q ss p =
    ltb p.rank (length ss) && ltb p.position (starts q (get_or ss p.rank [])) && eqb p.key (key_of (window_of (get_or ss p.rank []) p.position q))

-- each row is a seed and earlier than the next
pub record RowsRight (q : ℕ) (ss : List (List ℕ)) (ks rs os : List ℕ) : Type 0 where
  pub seeds : (i : ℕ) → i < length ks → is_seed q ss (row ks rs os i) ≡ true
  pub climb : (i : ℕ) → suc i < length ks → earlier (row ks rs os i) (row ks rs os (suc i)) ≡ true

-- row i is later than the row before it, if there is one
abbrev pub Climbs : List ℕ → List ℕ → List ℕ → ℕ → Type 0
Climbs ks rs os zero = Unit {0}
Climbs ks rs os (suc i) = earlier (row ks rs os i) (row ks rs os (suc i)) ≡ true

-- some of the rows of an index: those from one place up to another
pub record Block (rows from end : ℕ) : Type 0 where
  pub some : from < end
  pub inside : end ≤ rows

-- each row of a block is a seed and later than the row before it
pub record BlockRight (q : ℕ) (ss : List (List ℕ)) (ks rs os : List ℕ) (from end : ℕ) : Type 0 where
  pub seeds : (i : ℕ) → from ≤ i → i < end → is_seed q ss (row ks rs os i) ≡ true
  pub climb : (i : ℕ) → from ≤ i → i < end → Climbs ks rs os i

-- an answer tells whether a statement holds
pub record Tells (r : Bool) (holds : Type 0) : Type 0 where
  pub yes_so : r ≡ true → holds
  pub not_so : r ≡ false → holds → ⊥

-- an answer denies a statement only where it does not hold; where it does not deny it, it says nothing
pub record Denies (r : Bool) (holds : Type 0) : Type 0 where
  pub not_so : r ≡ false → holds → ⊥
