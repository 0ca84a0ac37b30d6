-- `map_every_start::visit::visit` meets its contract.
use mathlib.Core.Path.{◌∙◌}
use native.Mathlib.Omega.{arith}
use Rattle.index_model.specs.Index.{ranked_sequences}
use Rattle.map_places.specs.Place.{place}
use Rattle.map_every_start.proofs.Going.{place_differs, place_past, place-entered}
use Rattle.map_every_start.proofs.Visiting.{fit_end, fit_matches}
use Rattle.map_every_start.proofs.visit.visit.Goals as goal

pub returns-then-not-stands_at : goal.returns-then-not-stands_at
returns-then-not-stands_at c =
    let a = c.args in let p = place a.rank a.start a.strand in
    let ss = ranked_sequences a.targets.bases.now a.targets.ends.now a.targets.ranked.now in
    place_differs ss _ _ _ p _ _ _ (fit_matches a.targets.bases.now a.targets.ends.now a.targets.ranked.now a.read.now c.requires.searchable p c.requires.fits_at.0 _ c.ranked_sequence-sequence.ensures _ c.stands_at.ensures ∙ c.if-not-stands_at.true)

pub returns-then-bound-seen : goal.returns-then-bound-seen
returns-then-bound-seen c =
    let a = c.args in let p = place a.rank a.start a.strand in
    let ss = ranked_sequences a.targets.bases.now a.targets.ends.now a.targets.ranked.now in
    place_past ss _ _ _ p _ _ _ (fit_matches a.targets.bases.now a.targets.ends.now a.targets.ranked.now a.read.now c.requires.searchable p c.requires.fits_at.0 _ c.ranked_sequence-sequence.ensures _ c.stands_at.ensures ∙ c.if-not-stands_at.false) (omega (arith, c.if-bound-seen.true, c.requires.fits_at.1.within))

pub end_of-end-requires : goal.end_of-end-requires
end_of-end-requires c =
    let a = c.args in let p = place a.rank a.start a.strand in
    omega (arith, fit_end a.targets.bases.now a.targets.ends.now a.targets.ranked.now a.read.now c.requires.searchable p c.requires.fits_at.0)

pub returns : goal.returns
returns c =
    let a = c.args in
    let p = place a.rank a.start a.strand in
    let ss = ranked_sequences a.targets.bases.now a.targets.ends.now a.targets.ranked.now in
    let k = place-entered ss a.targets.ranked.now a.read.now a.bound p a.tally.comparisons a.tally.seen a.entries.now (fit_matches a.targets.bases.now a.targets.ends.now a.targets.ranked.now a.read.now c.requires.searchable p c.requires.fits_at.0 _ c.ranked_sequence-sequence.ensures _ c.stands_at.ensures ∙ c.if-not-stands_at.false) (omega (arith, c.if-bound-seen.false)) in
    rw (c.write_entry.ensures, c.end_of-end.ensures) k
