-- `audit_book_fragment::raise_counters` meets its contract.
use Rattle.audit_ledger.specs.Booking.{counters_of}
use Rattle.audit_book_fragment.proofs.Raises.{singles_raisable, multi_raisable, raised_are}
use Rattle.audit_book_fragment.proofs.raise_counters.Goals as goal

pub raise_targets-requires-2 : goal.raise_targets-requires-2
raise_targets-requires-2 c =
    let a = c.args in
    let k = counters_of a.placements.now a.singles.now a.multi.now in
    singles_raisable a.n a.entries.now k c.requires _ c.single_groups.ensures

pub raise_targets-requires-3 : goal.raise_targets-requires-3
raise_targets-requires-3 c =
    let a = c.args in
    let k = counters_of a.placements.now a.singles.now a.multi.now in
    multi_raisable a.n a.entries.now k c.requires _ c.several_groups.ensures

pub returns : goal.returns
returns c =
    let a = c.args in
    let k = counters_of a.placements.now a.singles.now a.multi.now in
    raised_are a.n a.entries.now k _ _ c.single_groups.ensures c.several_groups.ensures _ _ _ c.raise_targets.ensures c.raise_targets-2.ensures c.raise_targets-3.ensures
