-- `catch_state::begun_job` meets its contract, answer by answer.
use mathlib.Core.Path.{sym, ap, ◌∙◌}
use Rattle.audit_model.specs.declared.settings.AuditState.{AuditState}
use Rattle.catch_supply.specs.Supplying.{went}
use Rattle.catch_state.specs.declared.JobStage.TheVariants as stages
use Rattle.catch_state.specs.declared.Advanced.{Advanced}
use Rattle.catch_state.specs.Jobs.{begun_job}
use Rattle.catch_state.proofs.begun_job.Goals as goal

pub returns-in-Err : goal.returns-in-Err
returns-in-Err c = let a = c.args in sym (ap (begun_job a.at a.job) c.in-Err.is)

pub returns-in-Ok : goal.returns-in-Ok
returns-in-Ok c =
    let a = c.args in
    let begun : AuditState → Advanced = λ x. record { job = record { stage = stages.Supplying; supply = a.job.supply; indexed = a.job.indexed; state = x }; advance = went a.at 12 } in
    ap begun c.fresh_state.ensures ∙ sym (ap (begun_job a.at a.job) c.in-Ok.is)
