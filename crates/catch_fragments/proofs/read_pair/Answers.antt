-- `catch_fragments::read_pair` meets its contract: the second read's answer, behind the first.
use Rattle.std.proofs.lemmas.Result.{err_from_is_err_and}
use mathlib.Core.Path.{refl}
use Rattle.catch_fragments.proofs.Fragments.{pair_unread}
use Rattle.catch_fragments.proofs.read_pair.Goals as goal

pub returns : goal.returns
returns c = let t = c.in_ok-second.ensures in record { ordinal = refl; count = refl; first = refl; placed = t.0; end = refl; told = t.1 }

pub returns-in_err-second : goal.returns-in_err-second
returns-in_err-second c =
    let p = err_from_is_err_and c.from_residual.result c.from_residual.ensures.1 in
    rw (p.1, p.2) (pair_unread c.args.bytes.now c.args.ordinal c.args.first _ c.in_err-second.ensures)
