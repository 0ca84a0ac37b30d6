-- How two names stand to each other.
use Rattle.std.specs.Prelude.{cond, List, ℕ}
use Rattle.std.specs.declared.cmp.Ordering.{Ordering}
use Rattle.std.specs.declared.cmp.Ordering.TheVariants.{Less, Equal, Greater}
use Rattle.identifiers.specs.Name.{name_before}

abbrev pub comparison : List ℕ → List ℕ → Ordering
comparison x y = cond (name_before x y) Less (cond (name_before y x) Greater Equal)
