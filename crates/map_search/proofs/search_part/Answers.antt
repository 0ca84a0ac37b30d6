-- `map_search::search_part` meets its contract: the lent part comes back at its place.
use Prim.Native.Nat.{◌+◌, ◌-◌}
use native.Mathlib.Omega.{arith}
use Rattle.index_model.specs.Index.{ranked_sequences}
use Rattle.map_by_index.specs.Work.{by_index}
use Rattle.map_search.proofs.Parts.{part_searched}
use Rattle.map_search.proofs.search_part.Goals as goal

pub returns : goal.returns
returns c =
    let a = c.args in
    part_searched (by_index a.q) (ranked_sequences a.targets.bases.now a.targets.ends.now a.targets.ranked.now) a.targets.ranked.now a.read.now a.limit a.from a.width _ a.entries.now c.requires.width_in_bounds (a.from + a.width - a.from) (omega arith) _ c.search.ensures
