-- Numbers raised at some places.
use Rattle.std.specs.Prelude.{List, [], ◌∷◌, ℕ, suc, get_or, set}

-- numbers with the one at a place raised by one
abbrev pub raised : ℕ → List ℕ → List ℕ
raised at ns = set ns at (suc (get_or ns at 0))

-- raised at each of some places in turn
abbrev pub raised_at : List ℕ → List ℕ → List ℕ
raised_at [] ns = ns
raised_at (x ∷ xs) ns = raised_at xs (raised x ns)
