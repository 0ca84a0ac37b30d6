-- `map_search::search` meets its contract: a short read at every start, else by the index under the lesser of limit and entries.
use native.Mathlib.Omega.{arith}
use Rattle.index_model.specs.Index.{ranked_sequences}
use Rattle.map_by_index.specs.Work.{by_index}
use Rattle.map_search.proofs.Searching.{search_answered, work_bounded, work_short}
use Rattle.map_search.proofs.search.Goals as goal

pub returns-then-read-q : goal.returns-then-read-q
returns-then-read-q c =
    let a = c.args in
    let ss = ranked_sequences a.targets.bases.now a.targets.ends.now a.targets.ranked.now in
    rw (work_short ss a.read.now a.q (omega (arith, c.if-read-q.true)) a.limit) at c.search_every_start.ensures

pub search_index-work-requires : goal.search_index-work-requires
search_index-work-requires c = record { index_searchable = c.requires; q_in_bounds = (omega (arith, c.if-read-q.false), omega (arith, c.bound_of-bound.ensures)) }

pub returns : goal.returns
returns c =
    let a = c.args in
    let ss = ranked_sequences a.targets.bases.now a.targets.ends.now a.targets.ranked.now in
    search_answered ss a.targets.ranked.now a.read.now a.limit _ (by_index a.q) (work_bounded ss a.read.now a.q c.requires.seed.some) a.entries.now _ _ _ _ _ c.clear_entries.ensures c.bound_of-bound.ensures c.search_index-work.ensures c.conclude.ensures
