-- The seed that a search starts from, its candidates, and the list that is compared (REFERENCE.md, "Mapping").
use Rattle.std.specs.Prelude.{◌≡◌, Bool, cond, ◌&&◌, List, [], ◌∷◌, map, ℕ, ◌-◌, length, get_or, eqb, leb, ltb}
use Rattle.lists.specs.Filter.{filter}
use Rattle.lists.specs.Sort.{merge}
use Rattle.lists.specs.Limit.{stopped}
use Rattle.lists.specs.Cut.{window}
use Rattle.lists.specs.Numbers.{numbers}
use Rattle.bases.specs.Read.{oriented}
use Rattle.index_columns.specs.Posting.{Posting}
use Rattle.index_seeds.specs.Key.{key_of}
use Rattle.index_seeds.specs.Window.{fits_in, starts}
use Rattle.index_lookup.specs.Range.{RangeOf}
use Rattle.index_model.specs.Index.{index_of, hits}
use Rattle.map_places.specs.Place.{Place, place, before, places, matches}

-- ---- the rarest of n offsets, by how many postings each has

-- the offsets that are looked up: up to and with the first that has none
abbrev pub tried : ℕ → (ℕ → ℕ) → List ℕ
tried n count = stopped (λ o. eqb (count o) 0) (numbers 0 n) 0

-- the first offset with fewest, of one and those of a list
abbrev pub fewest : (ℕ → ℕ) → ℕ → List ℕ → ℕ
fewest count best [] = best
fewest count best (o ∷ os) = fewest count (cond (ltb (count o) (count best)) o best) os

abbrev pub rarest : ℕ → (ℕ → ℕ) → ℕ
rarest n count = fewest count 0 (tried n count)

-- ---- the candidate of a posting, for a seed at offset o of a read of n bases

-- at position x, it neither starts before 0 nor ends past its target
abbrev pub fits : List ℕ → ℕ → ℕ → ℕ → Bool
fits s n o x = leb o x && fits_in n s (x - o)

abbrev pub lies : List (List ℕ) → ℕ → ℕ → Posting → Bool
lies ss n o p = fits (get_or ss p.rank []) n o p.position

-- its position less the seed's offset
abbrev pub candidate : ℕ → ℕ → Posting → Place
candidate strand o p = place p.rank (p.position - o) strand

-- a read shorter than a seed is compared at every start
abbrev pub every_start : ℕ → List ℕ → Bool
every_start q read = ltb (length read) q

module _ (q : ℕ) (ss : List (List ℕ)) (read : List ℕ) where
  -- the postings of the seed at an offset of the read as it lies on a strand
  abbrev pub seed_hits : ℕ → ℕ → List Posting
  seed_hits strand o = hits (key_of (window (oriented strand read) o q)) (index_of q ss)

  abbrev pub seed_count : ℕ → ℕ → ℕ
  seed_count strand o = length (seed_hits strand o)

  -- how many offsets are looked up on a strand, and which is chosen
  abbrev pub lookups_on : ℕ → ℕ
  lookups_on strand = length (tried (starts q read) (seed_count strand))

  abbrev pub chosen : ℕ → ℕ
  chosen strand = rarest (starts q read) (seed_count strand)

  -- ---- candidates

  abbrev pub candidates_at : ℕ → ℕ → List Place
  candidates_at strand o = map (candidate strand o) (filter (lies ss (length read) o) (seed_hits strand o))

  abbrev pub candidates : ℕ → List Place
  candidates strand = candidates_at strand (chosen strand)

  -- ---- the compared list

  -- of a read that is compared at every start every place, else the candidates of both strands, ascending
  unfoldable pub comparable : List Place
  comparable = cond (every_start q read) (places (length read) ss) (merge before (candidates 0) (candidates 1))

  -- stopped at the first match past the limit
  abbrev pub compared : ℕ → List Place
  compared limit = stopped (matches ss read) comparable limit

-- ---- the choice of a seed, by the keys of an index

-- how many postings a key has
abbrev pub key_count : List ℕ → ℕ → ℕ
key_count keys k = length (filter (λ x. eqb x k) keys)

-- how many postings the seed at an offset has
abbrev pub offset_count : List ℕ → ℕ → List ℕ → ℕ → ℕ
offset_count keys q bases o = key_count keys (key_of (window bases o q))

-- the rarest seed, the range of its postings, and the lookups made
pub record Rarest (keys : List ℕ) (q : ℕ) (bases : List ℕ) (offset start end lookups : ℕ) : Type 0 where
  pub offset-is : offset ≡ rarest (starts q bases) (offset_count keys q bases)
  pub range_is : RangeOf keys (key_of (window bases offset q)) start end
  pub lookups_are : lookups ≡ length (tried (starts q bases) (offset_count keys q bases))
