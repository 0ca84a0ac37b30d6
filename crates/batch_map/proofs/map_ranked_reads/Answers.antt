-- `batch_map::map_ranked_reads` meets its contract: refusals 6, 9 and 25, or all reads mapped.
use Rattle.std.proofs.lemmas.Result.{err_from_is_err_and}
use mathlib.Core.Path.{sym, ap, ◌∙◌}
use Rattle.promises.specs.Refusal.{test_number}
use lib.ListN.{length}
use Rattle.index_model.specs.Index.{ranked_sequences}
use Rattle.promises.proofs.Refusing.{numbered}
use Rattle.indexed_mapper.proofs.Mapping.{mappable}
use Rattle.batch_map.proofs.Listing.{list_fits, shares_fit, columns_wrong, list_refused, list_mapped}
use Rattle.batch_map.proofs.map_ranked_reads.Goals as goal

pub returns-then-not-is_index : goal.returns-then-not-is_index
returns-then-not-is_index c =
    let a = c.args in
    let ss = ranked_sequences a.targets.bases.now a.targets.ends.now a.targets.ranked.now in
    columns_wrong a.q ss a.targets.ranked.now a.index.keys.now a.index.ranks.now a.index.positions.now a.limit a.reads.now a.read_ends.now a.rows.now a.entries.now (sym c.is_index.ensures ∙ c.if-not-is_index.true)

pub returns-in_err-check_reads : goal.returns-in_err-check_reads
returns-in_err-check_reads c =
    let a = c.args in
    let ss = ranked_sequences a.targets.bases.now a.targets.ends.now a.targets.ranked.now in
    let p = err_from_is_err_and c.from_residual.result c.from_residual.ensures.1 in
    rw (p.1, p.2) (list_refused a.q ss a.targets.ranked.now a.index.keys.now a.index.ranks.now a.index.positions.now a.limit a.reads.now a.read_ends.now a.rows.now a.entries.now (sym c.is_index.ensures ∙ c.if-not-is_index.false) _ (sym (ap test_number c.in_err-check_reads.was) ∙ c.check_reads.ensures) (numbered _))

pub map_shares-requires : goal.map_shares-requires
map_shares-requires c =
    let a = c.args in
    let ss = ranked_sequences a.targets.bases.now a.targets.ends.now a.targets.ranked.now in
    let fits = list_fits a.limit a.reads.now a.read_ends.now (length a.rows.now) (sym c.check_reads.ensures ∙ ap test_number c.in_ok-check_reads.was) in record { mappable = (mappable _ _ _ _ _ _ _ c.requires.0 c.requires.1 (sym c.is_index.ensures ∙ c.if-not-is_index.false), fits.0); rows_len = (fits.1, shares_fit c.share_of-share.result (length a.read_ends.now) (length a.entries.now) c.share_of-share.ensures.0) }

pub returns : goal.returns
returns c =
    let a = c.args in
    let ss = ranked_sequences a.targets.bases.now a.targets.ends.now a.targets.ranked.now in
    list_mapped a.q ss a.targets.ranked.now a.index.keys.now a.index.ranks.now a.index.positions.now a.limit a.reads.now a.read_ends.now a.rows.now a.entries.now (sym c.is_index.ensures ∙ c.if-not-is_index.false) _ _ _ c.map_shares.ensures (sym c.check_reads.ensures ∙ ap test_number c.in_ok-check_reads.was) c.share_of-share.ensures.1
