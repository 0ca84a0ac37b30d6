-- `audit_checks::check_settings` meets its contract, test by test.
use mathlib.Core.Path.{sym, ◌∙◌}
use native.Mathlib.Omega.{arith}
use borrow.Author.Tests.{ltb-true, ltb-false}
use Rattle.audit_checks.proofs.Opening.{floor_out, limit_out, settings_right}
use Rattle.audit_checks.proofs.check_settings.Goals as goal

pub returns-then-offset-settings : goal.returns-then-offset-settings
returns-then-offset-settings c = floor_out c.args.offset c.args.settings (omega arith) (omega (arith, ltb-true))

pub returns-then-not-limit_right : goal.returns-then-not-limit_right
returns-then-not-limit_right c = limit_out c.args.offset c.args.settings (omega (arith, ltb-false)) (omega arith) (sym c.limit_right.ensures ∙ c.if-not-limit_right.true)

pub returns : goal.returns
returns c = settings_right c.args.offset c.args.settings (omega (arith, ltb-false)) (omega arith) (sym c.limit_right.ensures ∙ c.if-not-limit_right.false)
