-- Places of a read in sequences by rank, and where it matches (REFERENCE.md, "Places").
use Rattle.std.specs.Prelude.{◌≡◌, Bool, true, false, List, [], ◌∷◌, ◌++◌, ℕ, zero, suc, ◌-◌, ◌<◌, length, get_or, take}
use Rattle.lists.specs.Filter.{filter}
use Rattle.lists.specs.Same.{same}
use Rattle.lists.specs.Triple.{Triple, lexicographic}
use Rattle.bases.specs.Read.{folded, capitals, letters, oriented}
use Rattle.index_seeds.specs.Window.{window_of, FitsIn, starts}

-- the rank of a sequence, a start in it, and the strand: 0 for '+', 1 for '-'
pub record Place : Type 0 where
  pub rank : ℕ
  pub start : ℕ
  pub strand : ℕ

abbrev pub place : ℕ → ℕ → ℕ → Place
place r s d = record { rank = r; start = s; strand = d }

abbrev pub triple : Place → Triple
triple p = (p.rank, p.start, p.strand)

-- by rank, then start, then strand
abbrev pub before : Place → Place → Bool
before p q = lexicographic (triple p) (triple q)

-- n bases fit at a place
pub record Fits (n : ℕ) (ss : List (List ℕ)) (p : Place) : Type 0 where
  pub ranked : p.rank < length ss
  pub inside : FitsIn n (get_or ss p.rank []) p.start
  pub stranded : p.strand < 2

-- both strands at k starts from s on
abbrev pub places_in : ℕ → ℕ → ℕ → List Place
places_in r s zero = []
places_in r s (suc k) = place r s 0 ∷ place r s 1 ∷ places_in r (suc s) k

-- the fitting places of n bases in sequences by rank, the first of which has rank r
abbrev pub places_from : ℕ → ℕ → List (List ℕ) → List Place
places_from r n [] = []
places_from r n (s ∷ ss) = places_in r 0 (starts n s) ++ places_from (suc r) n ss

-- every fitting place of n bases, ascending
unfoldable pub places : ℕ → List (List ℕ) → List Place
places n ss = places_from 0 n ss

-- the most bases that a read may have
abbrev pub max_read : ℕ
max_read = 65535

-- a read of letters in either case laid at a start of a sequence of capitals, within it
pub record Laid (s : List ℕ) (start : ℕ) (read : List ℕ) : Type 0 where
  pub fits : FitsIn (length read) s start
  pub capitals : capitals s ≡ true
  pub letters : letters read ≡ true

-- the read, in upper case and as it lies on a strand, stands base for base at a start of a sequence
abbrev pub stands : List ℕ → ℕ → List ℕ → ℕ → Bool
stands s start read strand = same (window_of s start (length read)) (oriented strand (folded read))

-- its first i bases do
abbrev pub stands_to : ℕ → List ℕ → ℕ → List ℕ → ℕ → Bool
stands_to i s start read strand = same (window_of s start i) (take i (oriented strand (folded read)))

-- a read is said to differ only where it does not stand; where it is not, nothing is said
abbrev pub SaidToDiffer : Bool → List ℕ → ℕ → List ℕ → ℕ → Type 0
SaidToDiffer r s start read strand = r ≡ true → stands s start read strand ≡ false

-- the read stands at the place
unfoldable pub matches : List (List ℕ) → List ℕ → Place → Bool
matches ss read p = stands (get_or ss p.rank []) p.start read p.strand

-- every place where the read matches, ascending
unfoldable pub groups : List (List ℕ) → List ℕ → List Place
groups ss read = filter (matches ss read) (places (length read) ss)

-- the same place on the other strand
abbrev pub swapped : Place → Place
swapped p = place p.rank p.start (1 - p.strand)
