-- `catch_supply::open` meets its contract: another code is refused, else the step is as the job is opened.
use Rattle.catalogue.specs.Catalogue.{catalogue_in}
use native.Mathlib.Omega.{arith}
use Rattle.audit_ledger.specs.Booking.{counters_of}
use Rattle.catch_supply.proofs.Supplying.{at_three, at_five, open_elsewhere, open_refuses, open_goes}
use Rattle.catch_supply.proofs.open.Goals as goal
use Rattle.catch_supply.proofs.open.Goals.{else-code-ne3-via-then-code-ne3+else-code-ne5, else-code-ne3-via-else-code-ne3}

pub returns-then-code-ne5 : goal.returns-then-code-ne5
returns-then-code-ne5 c =
    let a = c.args in
    open_elsewhere a.code (catalogue_in a.catalogue) a.settings (counters_of a.counters.placements.now a.counters.singles.now a.counters.multi.now) a.out.now a.at a.ranked.now a.keys.now a.ranks.now a.positions.now c.requires.1 _ _ (λ e. omega arith) c.if-code-ne5.true c.refuse.ensures

pub returns-in-Err : goal.returns-in-Err
returns-in-Err c =
    let a = c.args in
    let k = c.open_job-opening in
    open_refuses a.code (catalogue_in a.catalogue) a.settings (counters_of a.counters.placements.now a.counters.singles.now a.counters.multi.now) a.out.now a.at k.new.ranked k.new.keys k.new.ranks k.new.positions c.requires.1 (elim c.else-code-ne3.branch [ else-code-ne3-via-then-code-ne3+else-code-ne5 w ↦ at_five a.code (omega arith) | else-code-ne3-via-else-code-ne3 w ↦ at_three a.code (omega arith) ]) _ c.in-Err.ensures _ _ c.refuse-in-Err.ensures

pub returns-in-Ok : goal.returns-in-Ok
returns-in-Ok c =
    let a = c.args in
    let k = c.open_job-opening in
    open_goes a.code (catalogue_in a.catalogue) a.settings (counters_of a.counters.placements.now a.counters.singles.now a.counters.multi.now) a.out.now a.at k.new.ranked k.new.keys k.new.ranks k.new.positions c.requires.1 (elim c.else-code-ne3.branch [ else-code-ne3-via-then-code-ne3+else-code-ne5 w ↦ at_five a.code (omega arith) | else-code-ne3-via-else-code-ne3 w ↦ at_three a.code (omega arith) ]) _ c.in-Ok.ensures
