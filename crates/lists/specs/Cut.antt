-- Sequences laid end to end: bytes with ends.
use Rattle.std.specs.Prelude.{Bool, true, ◌&&◌, List, [], ◌∷◌, ℕ, ◌-◌, take, drop, leb}

-- n elements from `start` on
abbrev pub window : List ℕ → ℕ → ℕ → List ℕ
window xs start n = take n (drop start xs)

-- the sequences that end at the given ends, the first starting at `from`
abbrev pub cut_from : ℕ → List ℕ → List ℕ → List (List ℕ)
cut_from from [] bytes = []
cut_from from (e ∷ es) bytes = window bytes from (e - from) ∷ cut_from e es bytes

-- the sequences of bytes with ends
abbrev pub cut : List ℕ → List ℕ → List (List ℕ)
cut ends bytes = cut_from 0 ends bytes

-- no end is less than the one before it, the first one's being `from`, and none is past `most`
abbrev pub ends_within : ℕ → ℕ → List ℕ → Bool
ends_within from most [] = true
ends_within from most (e ∷ es) = leb from e && leb e most && ends_within e most es
