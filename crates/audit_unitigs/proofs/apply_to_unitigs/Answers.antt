-- `audit_unitigs::apply_to_unitigs` meets its contract.
use Rattle.catalogue.specs.Catalogue.{catalogue_in}
use Rattle.audit_ledger.specs.Booking.{counters_of}
use Rattle.audit_unitigs.proofs.Applying.{both_named, targets_out, audited_out, lists_out, names_out, rows-lent, applies}
use Rattle.audit_unitigs.proofs.apply_to_unitigs.Goals as goal

pub returns-then-not-in_bounds : goal.returns-then-not-in_bounds
returns-then-not-in_bounds c =
    let audited = catalogue_in c.args.audited in
    let lent = catalogue_in c.args.catalogue in
    let counters = counters_of c.args.counters.placements.now c.args.counters.singles.now c.args.counters.multi.now in
    targets_out audited lent c.args.sheet counters c.args.rows.now c.in_bounds.result c.in_bounds.ensures c.if-not-in_bounds.true

pub returns-then-not-in_bounds-2 : goal.returns-then-not-in_bounds-2
returns-then-not-in_bounds-2 c =
    let audited = catalogue_in c.args.audited in
    let lent = catalogue_in c.args.catalogue in
    let counters = counters_of c.args.counters.placements.now c.args.counters.singles.now c.args.counters.multi.now in
    audited_out audited lent c.args.sheet counters c.args.rows.now c.in_bounds.result c.in_bounds.ensures c.if-not-in_bounds.false c.in_bounds-2.result c.in_bounds-2.ensures c.if-not-in_bounds-2.true

pub returns-then-not-lists_right : goal.returns-then-not-lists_right
returns-then-not-lists_right c =
    let audited = catalogue_in c.args.audited in
    let lent = catalogue_in c.args.catalogue in
    let counters = counters_of c.args.counters.placements.now c.args.counters.singles.now c.args.counters.multi.now in
    lists_out audited lent c.args.sheet counters c.args.rows.now c.in_bounds.result c.in_bounds.ensures c.if-not-in_bounds.false c.in_bounds-2.result c.in_bounds-2.ensures c.if-not-in_bounds-2.false c.lists_right.result c.lists_right.ensures c.if-not-lists_right.true

pub same_targets-requires : goal.same_targets-requires
same_targets-requires c =
    let audited = catalogue_in c.args.audited in
    let lent = catalogue_in c.args.catalogue in
    let counters = counters_of c.args.counters.placements.now c.args.counters.singles.now c.args.counters.multi.now in
    both_named audited lent c.args.sheet counters c.args.rows.now c.in_bounds.result c.in_bounds.ensures c.if-not-in_bounds.false c.in_bounds-2.result c.in_bounds-2.ensures c.if-not-in_bounds-2.false

pub returns-then-not-same_targets : goal.returns-then-not-same_targets
returns-then-not-same_targets c =
    let audited = catalogue_in c.args.audited in
    let lent = catalogue_in c.args.catalogue in
    let counters = counters_of c.args.counters.placements.now c.args.counters.singles.now c.args.counters.multi.now in
    names_out audited lent c.args.sheet counters c.args.rows.now c.in_bounds.result c.in_bounds.ensures c.if-not-in_bounds.false c.in_bounds-2.result c.in_bounds-2.ensures c.if-not-in_bounds-2.false c.lists_right.result c.lists_right.ensures c.if-not-lists_right.false c.same_targets.result c.same_targets.ensures c.if-not-same_targets.true

pub write_rows-requires : goal.write_rows-requires
write_rows-requires c =
    let audited = catalogue_in c.args.audited in
    let lent = catalogue_in c.args.catalogue in
    let counters = counters_of c.args.counters.placements.now c.args.counters.singles.now c.args.counters.multi.now in
    rows-lent audited lent c.args.sheet counters c.args.rows.now c.in_bounds.result c.in_bounds.ensures c.if-not-in_bounds.false c.in_bounds-2.result c.in_bounds-2.ensures c.if-not-in_bounds-2.false c.lists_right.result c.lists_right.ensures c.if-not-lists_right.false c.same_targets.result c.same_targets.ensures c.if-not-same_targets.false

pub returns : goal.returns
returns c =
    let audited = catalogue_in c.args.audited in
    let lent = catalogue_in c.args.catalogue in
    let counters = counters_of c.args.counters.placements.now c.args.counters.singles.now c.args.counters.multi.now in
    applies audited lent c.args.sheet counters c.args.rows.now c.in_bounds.result c.in_bounds.ensures c.if-not-in_bounds.false c.in_bounds-2.result c.in_bounds-2.ensures c.if-not-in_bounds-2.false c.lists_right.result c.lists_right.ensures c.if-not-lists_right.false c.same_targets.result c.same_targets.ensures c.if-not-same_targets.false _ c.write_rows.ensures
