-- `catch_fragment_lines::put_mate` meets its contract: R, and G behind it.
use native.Mathlib.Omega.{arith}
use Rattle.catch_fragment_lines.proofs.Answering.{two_added, fewer_lent}
use Rattle.catch_fragment_lines.proofs.put_mate.Goals as goal

pub put_groups-requires : goal.put_groups-requires
put_groups-requires c =
    let a = c.args in
    (fewer_lent a.identifiers.now a.ends.now a.entries.now _ _ (omega arith) c.requires.0, omega (arith, c.requires.1, c.put_read-a.ensures.room, c.put_read-a.auto.out))

pub returns : goal.returns
returns c = two_added c.put_read-a.ensures c.put_groups.ensures
