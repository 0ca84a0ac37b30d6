-- `catch_fragments::read_reads` meets its contract: the first read's answer, and behind it the second's where there are two.
use Rattle.std.proofs.lemmas.Result.{err_from_is_err_and}
use native.Mathlib.Omega.{arith}
use Rattle.catch_fragments.proofs.Fragments.{reads_unread, first_within, one_found, pair_told}
use Rattle.catch_fragments.proofs.read_reads.Goals as goal

pub read_pair-requires : goal.read_pair-requires
read_pair-requires c = let a = c.args in first_within a.bytes.now a.ordinal _ c.in_ok-first.ensures

pub returns-then-count-eq2 : goal.returns-then-count-eq2
returns-then-count-eq2 c = let a = c.args in pair_told a.bytes.now a.ordinal _ c.in_ok-first.ensures a.count (omega arith) c.read_pair.result c.read_pair.ensures

pub returns : goal.returns
returns c = let a = c.args in one_found a.bytes.now a.ordinal _ c.in_ok-first.ensures a.count (omega arith)

pub returns-in_err-first : goal.returns-in_err-first
returns-in_err-first c =
    let p = err_from_is_err_and c.from_residual.result c.from_residual.ensures.1 in
    rw (p.1, p.2) (reads_unread c.args.bytes.now c.args.count (omega arith) c.args.ordinal _ c.in_err-first.ensures)
