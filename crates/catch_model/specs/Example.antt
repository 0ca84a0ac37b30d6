-- The example of the rules: a stream, and the lines that are written for it (REFERENCE.md, "Worked examples").
use Rattle.std.specs.Prelude.{List, [], ◌∷◌, ◌++◌, ℕ, replicate}
use Rattle.catch_text.specs.Text.{text}

-- single, remap on, floor 0, limit 10; t1 linear ACGT; b closed AAAA; ordinal 0, S read AC without qualities
abbrev pub example_stream : List ℕ
example_stream =
    (1 ∷ 0 ∷ 1 ∷ 0 ∷ 10 ∷ replicate 7 0)
    ++ (2 ∷ 0 ∷ 2 ∷ 4 ∷ 0 ∷ 0 ∷ 0 ∷ text "t1ACGT")
    ++ (2 ∷ 1 ∷ 1 ∷ 4 ∷ 0 ∷ 0 ∷ 0 ∷ text "bAAAA")
    ++ (3 ∷ replicate 8 0)
    ++ (1 ∷ 4 ∷ 0 ∷ 0 ∷ 2 ∷ 0 ∷ 0 ∷ 0 ∷ text "AC")
    ++ 5 ∷ []

-- its lines
abbrev pub example_lines : List ℕ
example_lines =
    text "R 0 S 5 2\n"
    ++ text "G t1 0 2 +\n"
    ++ text "G t1 2 4 -\n"
    ++ text "S S 1 0\n"
    ++ text "S S 2 0\n"
    ++ text "S S 3 0\n"
    ++ text "S S 4 0\n"
    ++ text "S S 5 1\n"
    ++ text "T t1 2 0 1 placement_enumeration_complete\n"
    ++ text "T b - - - unavailable_closed_walk_audit_unsupported\n"
    ++ text "A placement_enumeration_complete 2 0 1\n"
