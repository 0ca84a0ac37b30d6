-- `map_places::agreeing::stretch_agrees` meets its contract. The invariant: agree says whether the first k bases do.
use mathlib.Core.Path.{◌≡◌}
use Rattle.bases.specs.Read.{oriented}
use Rattle.map_places.specs.Agreeing.{agreeing}
use Rattle.map_places.proofs.agreeing.stretch_agrees.Given as goal

abbrev pub invariant-loop-k : goal.invariant-loop-k
invariant-loop-k l = l.agree ≡ agreeing l.k l.sequence l.at (oriented l.strand l.read) l.from
