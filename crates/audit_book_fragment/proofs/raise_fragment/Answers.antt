-- `audit_book_fragment::raise_fragment` meets its contract.
use Rattle.audit_ledger.specs.Booking.{counters_of}
use Rattle.audit_book_fragment.proofs.Fragments.{first_raisable}
use Rattle.audit_book_fragment.proofs.raise_fragment.Goals as goal

pub raise_counters-requires : goal.raise_counters-requires
raise_counters-requires c =
    let a = c.args in
    let k = counters_of a.placements.now a.singles.now a.multi.now in
    first_raisable a.first a.second a.two a.width a.entries.now k c.requires
