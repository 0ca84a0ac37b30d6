-- `batch_reads::map_share` meets its contract: the refusal of the read or the limit, or the search into its share.
use Rattle.std.proofs.lemmas.Result.{err_from_is_err_and}
use mathlib.Core.Path.{sym, ap, ◌∙◌}
use Rattle.promises.specs.Refusal.{test_number}
use Rattle.index_model.specs.Index.{ranked_sequences}
use Rattle.indexed_mapper.proofs.Mapping.{searchable}
use Rattle.batch_reads.proofs.Sharing.{share_refused}
use Rattle.batch_reads.proofs.map_share.Goals as goal

pub returns-in_err-check_read : goal.returns-in_err-check_read
returns-in_err-check_read c =
    let a = c.args in
    let p = err_from_is_err_and c.from_residual.result c.from_residual.ensures.1 in
    rw (p.1, p.2) (share_refused a.q (ranked_sequences a.targets.bases.now a.targets.ends.now a.targets.ranked.now) a.targets.ranked.now a.read.now a.limit a.from a.width a.entries.now c.requires.1 _ (sym (ap test_number c.in_err-check_read.was) ∙ c.check_read.ensures))

pub search_part-requires-clause-index_searchable : goal.search_part-requires-clause-index_searchable
search_part-requires-clause-index_searchable c = let a = c.args in searchable a.q a.targets.bases.now a.targets.ends.now a.targets.ranked.now _ _ _ _ a.limit c.requires.0 (sym c.check_read.ensures ∙ ap test_number c.in_ok-check_read.was)
