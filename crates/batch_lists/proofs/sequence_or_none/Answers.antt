-- `batch_lists::sequence_or_none` meets its contract: there is no sequence behind the last.
use Rattle.std.proofs.Common.{[], sym, arith}
use lib.ListN.{get_or-eq_default}
use Rattle.lists.specs.Cut.{cut}
use Rattle.lists.proofs.Cut.{length_cut}
use Rattle.batch_lists.proofs.sequence_or_none.Goals as goal

pub returns : goal.returns
returns c = let a = c.args in sym (get_or-eq_default (cut a.ends.now a.bytes.now) [] {n = a.i} (omega (arith, length_cut 0 a.ends.now a.bytes.now)))
