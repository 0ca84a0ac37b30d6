-- `indexed_mapper::map::map_read` meets its contract: the refusal of the read or the limit, or the search.
use Rattle.std.proofs.lemmas.Result.{err_from_is_err_and}
use mathlib.Core.Path.{sym, ap, ◌∙◌}
use Rattle.promises.specs.Refusal.{test_number}
use Rattle.index_model.specs.Index.{ranked_sequences}
use Rattle.indexed_mapper.proofs.Mapping.{searchable, read_refused, read_searched}
use Rattle.indexed_mapper.proofs.map.map_read.Goals as goal

pub returns-in_err-check_read : goal.returns-in_err-check_read
returns-in_err-check_read c =
    let a = c.args in
    let p = err_from_is_err_and c.from_residual.result c.from_residual.ensures.1 in
    rw (p.1, p.2) (read_refused a.q (ranked_sequences a.targets.bases.now a.targets.ends.now a.targets.ranked.now) a.targets.ranked.now a.read.now a.limit a.entries.now _ (sym (ap test_number c.in_err-check_read.was) ∙ c.check_read.ensures))

pub search-requires : goal.search-requires
search-requires c =
    let a = c.args in
    searchable a.q a.targets.bases.now a.targets.ends.now a.targets.ranked.now _ _ _ _ a.limit c.requires (sym c.check_read.ensures ∙ ap test_number c.in_ok-check_read.was)

pub returns : goal.returns
returns c =
    let a = c.args in
    read_searched a.q (ranked_sequences a.targets.bases.now a.targets.ends.now a.targets.ranked.now) a.targets.ranked.now a.read.now a.limit a.entries.now (sym c.check_read.ensures ∙ ap test_number c.in_ok-check_read.was) _ _ c.search.ensures
