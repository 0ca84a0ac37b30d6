-- `catch_state::new_job` meets its contract.
use mathlib.Core.Path.{ap}
use Rattle.audit_model.specs.declared.settings.AuditState.{AuditState}
use Rattle.catch_state.specs.declared.JobStage.TheVariants as stages
use Rattle.catch_state.specs.declared.Job.{Job}
use Rattle.catch_state.specs.Jobs.{no_supply}
use Rattle.catch_state.proofs.new_job.Goals as goal

pub returns : goal.returns
returns c =
    let new : AuditState → Job = λ x. record { stage = stages.Beginning; supply = no_supply; indexed = record { ranked = 0; postings = 0 }; state = x } in
    ap new c.zero_state.ensures
