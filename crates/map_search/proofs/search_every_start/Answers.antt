-- `map_search::search_every_start` meets its contract: a search of every place under the lesser of limit and entries.
use Rattle.index_model.specs.Index.{ranked_sequences}
use Rattle.map_by_index.specs.Work.{plain}
use Rattle.map_search.proofs.Searching.{search_answered, scan_bounded, scan_found}
use Rattle.map_search.proofs.search_every_start.Goals as goal

pub returns : goal.returns
returns c =
    let a = c.args in
    let ss = ranked_sequences a.targets.bases.now a.targets.ends.now a.targets.ranked.now in
    search_answered ss a.targets.ranked.now a.read.now a.limit _ plain (scan_bounded ss a.read.now) a.entries.now _ _ _ _ _ c.clear_entries.ensures c.bound_of-bound.ensures (scan_found ss a.targets.ranked.now a.read.now _ _ _ _ _ c.scan-tally.ensures _ c.work_of.ensures) c.conclude.ensures
