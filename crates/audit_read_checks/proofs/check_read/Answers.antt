-- `audit_read_checks::check_read` meets its contract: its tests are those that are asked.
use Rattle.std.proofs.Common.{sym, ◌∙◌}
use Rattle.bases.specs.Read.{read_of}
use Rattle.audit_read_checks.proofs.Checked.{held, judged}
use Rattle.audit_read_checks.proofs.check_read.Goals as goal

pub returns : goal.returns
returns c =
    let a = c.args in
    judged a.offset a.settings (read_of a.bases.now a.present a.qualities.now) (sym c.length_right.ensures ∙ c.if-not-length_right.false) (held _ c.if-not-settings.false) _ c.judge_read.ensures
