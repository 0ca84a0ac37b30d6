-- `index_calls::build_ranked` meets its contract: refusal 5 before anything is written, or room in every column.
use mathlib.Core.Path.{refl}
use native.Mathlib.Omega.{arith}
use Rattle.index_calls.proofs.Building.{no_room, with_room}
use Rattle.index_calls.proofs.build_ranked.Goals as goal

pub returns-then-keys-n : goal.returns-then-keys-n
returns-then-keys-n c = no_room _ _ _ _ _ (omega (arith, c.then-keys-n.either, c.count_postings-n.ensures))

pub returns : goal.returns
returns c =
    with_room _ _ _ _ _ _ c.count_postings-n.ensures (omega (arith, c.if-keys-n.false, c.if-ranks-n.false, c.if-positions-n.false)) _ _ _ c.build_index.ensures _ refl
