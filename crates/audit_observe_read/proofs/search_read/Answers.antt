-- `audit_observe_read::search_read` meets its contract: the part stays, or it comes back with the answer of the search.
use Prim.Native.Nat.{◌+◌, ◌-◌}
use native.Mathlib.Omega.{arith}
use Rattle.index_model.specs.Index.{ranked_sequences}
use Rattle.map_by_index.specs.Work.{plain}
use Rattle.map_search.proofs.Parts.{part_searched}
use Rattle.audit_observe_read.proofs.Observed.{searchable, index_searchable, not_searched, part_observed}
use Rattle.audit_observe_read.proofs.search_read.Goals as goal

pub returns-then-not-searched : goal.returns-then-not-searched
returns-then-not-searched c =
    let a = c.args in
    not_searched a.settings (ranked_sequences a.targets.bases.now a.targets.ends.now a.targets.ranked.now) a.indexed a.q a.targets.ranked.now a.read.now a.searched a.from a.width a.entries.now c.requires.width_in_bounds c.if-not-searched.true _ c.unsearched.ensures

pub search_part-requires : goal.search_part-requires
search_part-requires c =
    let a = c.args in
    let o = c.requires in record { index_searchable = index_searchable a.indexed a.q a.targets.bases.now a.targets.ends.now a.targets.ranked.now a.index.keys.now a.index.ranks.now a.index.positions.now o.observable.0 a.searched a.read.now o.observable.1 c.if-not-searched.false c.if-indexed.true; width_in_bounds = o.width_in_bounds }

pub returns-then-indexed : goal.returns-then-indexed
returns-then-indexed c =
    let a = c.args in
    part_observed a.settings (ranked_sequences a.targets.bases.now a.targets.ends.now a.targets.ranked.now) a.indexed a.q a.targets.ranked.now a.read.now a.searched a.from a.width a.entries.now c.if-not-searched.false _ c.if-indexed.true _ (omega arith) _ _ c.search_part.ensures

pub search_every_start-requires : goal.search_every_start-requires
search_every_start-requires c =
    let a = c.args in
    let o = c.requires in
    searchable a.indexed a.q a.targets.bases.now a.targets.ends.now a.targets.ranked.now a.index.keys.now a.index.ranks.now a.index.positions.now o.observable.0 a.searched a.read.now o.observable.1 c.if-not-searched.false

pub returns : goal.returns
returns c =
    let a = c.args in
    let part = part_searched plain (ranked_sequences a.targets.bases.now a.targets.ends.now a.targets.ranked.now) a.targets.ranked.now a.read.now _ a.from a.width _ a.entries.now c.requires.width_in_bounds (a.from + a.width - a.from) (omega arith) _ c.search_every_start.ensures in
    part_observed a.settings (ranked_sequences a.targets.bases.now a.targets.ends.now a.targets.ranked.now) a.indexed a.q a.targets.ranked.now a.read.now a.searched a.from a.width a.entries.now c.if-not-searched.false _ c.if-indexed.false _ (omega arith) _ _ part
