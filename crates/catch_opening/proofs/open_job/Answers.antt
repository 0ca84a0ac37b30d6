-- `catch_opening::open_job` meets its contract: the opening's checks refuse, or the index of the ranked targets is built.
use Rattle.std.proofs.lemmas.Result.{err_from_is_err_and}
use native.Mathlib.Omega.{arith}
use Rattle.catalogue.specs.Catalogue.{catalogue_in}
use Rattle.audit_ledger.specs.Booking.{counters_of}
use Rattle.catch_opening.proofs.Opening.{job_refused, job_within, job_lent, job_room, job_opened}
use Rattle.catch_opening.proofs.open_job.Goals as goal

pub slice_bounds-targets-end : goal.slice_bounds-targets-end
slice_bounds-targets-end c =
    let a = c.args in
    job_within (catalogue_in a.catalogue) a.settings (counters_of a.counters.placements.now a.counters.singles.now a.counters.multi.now) _ _ c.check_opening.ensures _ c.in_ok-k.was

pub count_postings-n-requires : goal.count_postings-n-requires
count_postings-n-requires c =
    let a = c.args in
    job_lent (catalogue_in a.catalogue) a.settings (counters_of a.counters.placements.now a.counters.singles.now a.counters.multi.now) _ _ c.check_opening.ensures _ c.in_ok-k.was
    (omega (arith, c.check_opening.auto.ranked, c.requires.places))

pub build_index-requires : goal.build_index-requires
build_index-requires c =
    let a = c.args in
    record {
      lent = job_lent (catalogue_in a.catalogue) a.settings (counters_of a.counters.placements.now a.counters.singles.now a.counters.multi.now) _ _ c.check_opening.ensures _ c.in_ok-k.was (omega (arith, c.check_opening.auto.ranked, c.requires.places));
      room =
          job_room (catalogue_in a.catalogue) a.settings (counters_of a.counters.placements.now a.counters.singles.now a.counters.multi.now) _ _ c.check_opening.ensures _ c.in_ok-k.was
          (omega (arith, c.check_opening.auto.ranked, c.requires.places)) a.keys.now a.ranks.now a.positions.now
          (record { places = omega (arith, c.check_opening.auto.ranked, c.requires.places); keys = c.requires.keys; ranks = c.requires.ranks; positions = c.requires.positions });
    }

pub returns : goal.returns
returns c =
    let a = c.args in
    job_opened (catalogue_in a.catalogue) a.settings (counters_of a.counters.placements.now a.counters.singles.now a.counters.multi.now) _ _ c.check_opening.ensures _ c.in_ok-k.was _ c.count_postings-n.ensures _ _ _ _ _ _ c.build_index.ensures

pub returns-in_err-k : goal.returns-in_err-k
returns-in_err-k c =
    let a = c.args in
    let p = err_from_is_err_and c.from_residual.result c.from_residual.ensures.1 in
    rw (p.1, p.2)
    (job_refused (catalogue_in a.catalogue) a.settings (counters_of a.counters.placements.now a.counters.singles.now a.counters.multi.now) _ _ c.check_opening.ensures _ c.in_err-k.was a.keys.now a.ranks.now a.positions.now)
