-- `audit_fragment::audit_fragment` meets its contract: the opening's checks refuse, or the fragment is audited in the targets that they ranked.
use Rattle.catalogue.specs.Catalogue.{catalogue_in}
use native.Mathlib.Omega.{arith}
use Rattle.audit_ledger.specs.Booking.{counters_of}
use Rattle.audit_model.specs.Calls.{held_of, mate_of, fragment_of}
use Rattle.audit_fragment.proofs.Opened.{tested, within, prefix, opening_stands, opening_passes}
use Rattle.audit_fragment.proofs.audit_fragment.Goals as goal

pub slice_bounds-ranked-end : goal.slice_bounds-ranked-end
slice_bounds-ranked-end c =
    let a = c.args in
    within a.q a.offset (catalogue_in a.catalogue) a.indexed a.index.keys.now a.index.ranks.now a.index.positions.now (held_of a.state a.placements.now a.singles.now a.multi.now) (fragment_of a.ordinal a.count (mate_of a.first_role a.first.now a.first_present a.first_qualities.now) (mate_of a.second_role a.second.now a.second_present a.second_qualities.now)) a.entries.now _ _ c.check_opening-ranking.ensures c.requires.0 _ c.in-Ok.is

pub slice_bounds-audit_tested-end : goal.slice_bounds-audit_tested-end
slice_bounds-audit_tested-end c =
    let a = c.args in
    prefix a.q a.offset (catalogue_in a.catalogue) a.indexed a.index.keys.now a.index.ranks.now a.index.positions.now (held_of a.state a.placements.now a.singles.now a.multi.now) (fragment_of a.ordinal a.count (mate_of a.first_role a.first.now a.first_present a.first_qualities.now) (mate_of a.second_role a.second.now a.second_present a.second_qualities.now)) a.entries.now _ _ c.check_opening-ranking.ensures c.requires.0 _ c.in-Ok.is

pub audit_tested-requires : goal.audit_tested-requires
audit_tested-requires c =
    let a = c.args in
    tested a.q a.offset (catalogue_in a.catalogue) a.indexed a.index.keys.now a.index.ranks.now a.index.positions.now a.state.settings (counters_of a.placements.now a.singles.now a.multi.now) _ _ c.check_opening-ranking.ensures c.requires.0 _ c.in-Ok.is (omega (arith, c.check_opening-ranking.auto.ranked))

pub returns-in-Err : goal.returns-in-Err
returns-in-Err c =
    let a = c.args in
    opening_stands a.q a.offset (catalogue_in a.catalogue) a.indexed a.index.keys.now a.index.ranks.now a.index.positions.now (held_of a.state a.placements.now a.singles.now a.multi.now) (fragment_of a.ordinal a.count (mate_of a.first_role a.first.now a.first_present a.first_qualities.now) (mate_of a.second_role a.second.now a.second_present a.second_qualities.now)) a.entries.now _ _ c.check_opening-ranking.ensures _ c.in-Err.is

pub returns-in-Ok : goal.returns-in-Ok
returns-in-Ok c =
    let a = c.args in
    opening_passes a.q a.offset (catalogue_in a.catalogue) a.indexed a.index.keys.now a.index.ranks.now a.index.positions.now (held_of a.state a.placements.now a.singles.now a.multi.now) (fragment_of a.ordinal a.count (mate_of a.first_role a.first.now a.first_present a.first_qualities.now) (mate_of a.second_role a.second.now a.second_present a.second_qualities.now)) a.entries.now _ _ c.check_opening-ranking.ensures c.requires.0 _ c.in-Ok.is _ _ _ c.audit_tested.ensures
