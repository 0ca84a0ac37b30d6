-- `indexed_mapper::map::map_ranked` meets its contract: refusal 6, or the answer for the read.
use mathlib.Core.Path.{sym, ◌∙◌}
use Rattle.index_model.specs.Index.{ranked_sequences}
use Rattle.indexed_mapper.proofs.Mapping.{mappable, index_refused, index_right_lem}
use Rattle.indexed_mapper.proofs.map.map_ranked.Goals as goal

pub returns-then-not-is_index : goal.returns-then-not-is_index
returns-then-not-is_index c =
    let a = c.args in
    index_refused a.q (ranked_sequences a.targets.bases.now a.targets.ends.now a.targets.ranked.now) a.targets.ranked.now a.read.now a.limit a.entries.now a.index.keys.now a.index.ranks.now a.index.positions.now (sym c.is_index.ensures ∙ c.if-not-is_index.true)

pub map_read-requires : goal.map_read-requires
map_read-requires c =
    let p = c.requires in
    mappable _ _ _ _ _ _ _ p.0 p.1 (sym c.is_index.ensures ∙ c.if-not-is_index.false)

pub returns : goal.returns
returns c =
    let a = c.args in
    index_right_lem a.q (ranked_sequences a.targets.bases.now a.targets.ends.now a.targets.ranked.now) a.targets.ranked.now a.read.now a.limit a.entries.now a.index.keys.now a.index.ranks.now a.index.positions.now (sym c.is_index.ensures ∙ c.if-not-is_index.false) _ _ c.map_read.ensures
