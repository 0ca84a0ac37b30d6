-- `audit_counters::has_room` meets its contract.
use mathlib.Core.Path.{◌∙◌}
use Prim.Native.Nat.{◌-◌, ◌*◌}
use native.Mathlib.Omega.{arith}
use lib.Dec.{leb}
use lib.ListN.{get_or}
use Rattle.std.proofs.Common.{rules, tests}
use Rattle.std.proofs.lemmas.Iterator.{YieldsList-from_range}
use Rattle.std.proofs.lemmas.Iterator.Search.{all_from_yields_List}
use Rattle.audit_ledger.specs.Booking.{max_counter}
use Rattle.audit_counters.proofs.Room.{room_pass}
use Rattle.audit_counters.proofs.has_room.Goals as goal

pub returns : goal.returns
returns c =
    let a = c.args in
    all_from_yields_List (λ i. leb (get_or a.counters.now (get_or a.entries.now (4 * i) 0) 0) (max_counter - a.more)) _ _ _ c.all.ensures.ran (YieldsList-from_range 0 a.n a.n (cc) (omega arith)) (λ x b q k. search (rules, tests))
    ∙ room_pass a.more a.entries.now a.counters.now (omega arith) a.n
