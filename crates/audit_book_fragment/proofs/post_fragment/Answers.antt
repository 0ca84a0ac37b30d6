-- `audit_book_fragment::post_fragment` meets its contract.
use Rattle.std.proofs.Common.{◌∙◌}
use Rattle.lists.proofs.Tails.{tail_lent}
use Rattle.audit_ledger.specs.Booking.{counters_of}
use Rattle.audit_book_fragment.proofs.Fragments.{first_full, second_full, both_posted}
use Rattle.audit_book_fragment.proofs.post_fragment.Goals as goal

pub returns-in_err-one : goal.returns-in_err-one
returns-in_err-one c =
    let a = c.args in
    let k = counters_of a.counters.placements.now a.counters.singles.now a.counters.multi.now in
    rw c.from_residual.ensures (first_full a.first a.second a.two a.width a.entries.now k a.ledger _ c.added_by.ensures _ c.post_read.ensures c.in_err-one.was)

pub returns-in_err-both : goal.returns-in_err-both
returns-in_err-both c =
    let a = c.args in
    let k = counters_of a.counters.placements.now a.counters.singles.now a.counters.multi.now in
    rw c.from_residual-in_err-both.ensures (second_full a.first a.second a.two a.width a.entries.now k a.ledger _ c.added_by.ensures _ c.post_read.ensures _ c.in_ok-one.was c.if-not-two.false _ (tail_lent a.width a.entries.now) _ c.added_by-2.ensures _ c.post_read-2.ensures c.in_err-both.was)

pub returns : goal.returns
returns c =
    let a = c.args in
    let k = counters_of a.counters.placements.now a.counters.singles.now a.counters.multi.now in
    c.then_some-2.ensures ∙ both_posted a.first a.second a.two a.width a.entries.now k a.ledger _ c.added_by.ensures _ c.post_read.ensures _ c.in_ok-one.was c.if-not-two.false _ (tail_lent a.width a.entries.now) _ c.added_by-2.ensures _ c.post_read-2.ensures _ c.in_ok-both.was _ c.counters_fit-2.ensures
