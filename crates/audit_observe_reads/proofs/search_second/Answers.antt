-- `audit_observe_reads::search_second` meets its contract: the answer for the second read beside that for the first.
use Rattle.std.proofs.lemmas.Result.{err_from_is_err_and}
use native.Mathlib.Omega.{arith}
use Rattle.index_model.specs.Index.{ranked_sequences}
use Rattle.audit_observe_read.specs.Observed.{way_if}
use Rattle.audit_observe_reads.proofs.Second.{second_refused, second_mapped}
use Rattle.audit_observe_reads.proofs.search_second.Goals as goal

pub returns-in_err-second : goal.returns-in_err-second
returns-in_err-second c =
    let a = c.args in
    let p = err_from_is_err_and c.from_residual.result c.from_residual.ensures.1 in
    rw (p.1, p.2) (second_refused a.settings (ranked_sequences a.targets.bases.now a.targets.ends.now a.targets.ranked.now) (way_if a.indexed a.q) a.targets.ranked.now a.read.now a.searched _ a.width (omega arith) _ a.entries.now _ c.search_read.ensures a.first _ c.in_err-second.was)

pub returns : goal.returns
returns c =
    let a = c.args in
    second_mapped a.settings (ranked_sequences a.targets.bases.now a.targets.ends.now a.targets.ranked.now) (way_if a.indexed a.q) a.targets.ranked.now a.read.now a.searched _ a.width (omega arith) _ a.entries.now _ c.search_read.ensures a.first _ c.in_ok-second.was
