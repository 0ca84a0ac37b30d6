-- Placements as they stand in the entries of a read.
use Rattle.std.specs.Prelude.{Bool, true, false, List, [], ◌∷◌, map, ℕ, zero, suc, ◌-◌, get_or, drop}
use Rattle.lists.specs.Sort.{sort}
use Rattle.catalogue.specs.Catalogue.{Catalogue}
use Rattle.indexed_mapper.specs.Match.{by_rank}

-- an entry: the supplied place of the target, start, end, strand
pub record Placement : Type 0 where
  pub target : ℕ
  pub start : ℕ
  pub end : ℕ
  pub strand : ℕ

-- the first n entries
abbrev pub placements_in : ℕ → List ℕ → List Placement
placements_in zero buffer = []
placements_in (suc n) buffer =
    record { target = get_or buffer 0 0; start = get_or buffer 1 0; end = get_or buffer 2 0; strand = get_or buffer 3 0 } ∷ placements_in n (drop 4 buffer)

-- by rank, start, strand
abbrev pub placed_before : Catalogue → Placement → Placement → Bool
placed_before c x y = by_rank c (x.target, x.start, x.strand) (y.target, y.start, y.strand)

-- the same place on the other strand
abbrev pub other_strand : Placement → Placement
other_strand x = record { target = x.target; start = x.start; end = x.end; strand = 1 - x.strand }

-- the placements of a read turned round: strands swapped, and the list put back in order
abbrev pub turned_placements : Catalogue → List Placement → List Placement
turned_placements c xs = sort (placed_before c) (map other_strand xs)

-- if it is turned
abbrev pub placements_if : Bool → Catalogue → List Placement → List Placement
placements_if true c xs = turned_placements c xs
placements_if false c xs = xs
