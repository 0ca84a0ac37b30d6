-- The placement entries: four numbers for each group (REFERENCE.md, "Mapping").
use Rattle.std.specs.Prelude.{List, [], ◌∷◌, ◌++◌, ℕ, ◌+◌, ◌*◌, ◌/◌, length, get_or, replicate}
use Rattle.buffers.specs.Placed.{placed}
use Rattle.map_places.specs.Place.{Place}

-- the supplied place of the target, start, end, strand
abbrev pub entry_of : ℕ → ℕ → ℕ → ℕ → List ℕ
entry_of target start end strand = target ∷ start ∷ end ∷ strand ∷ []

-- the entries of places of n bases, one after the other; `ranked` holds the supplied place of each rank
abbrev pub entries_of : List ℕ → ℕ → List Place → List ℕ
entries_of ranked n [] = []
entries_of ranked n (p ∷ ps) = entry_of (get_or ranked p.rank 0) p.start (p.start + n) p.strand ++ entries_of ranked n ps

-- how many entries a buffer has
abbrev pub entry_count : List ℕ → ℕ
entry_count buffer = length buffer / 4

-- every entry zero; numbers behind the last whole entry stay
abbrev pub cleared : List ℕ → List ℕ
cleared buffer = placed 0 (replicate (4 * entry_count buffer) 0) buffer
