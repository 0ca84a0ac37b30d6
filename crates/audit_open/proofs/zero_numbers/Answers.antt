-- `audit_open::zero_numbers` meets its contract: as many numbers are set to zero as there are.
use mathlib.Core.Path.{◌∙◌}
use Rattle.audit_open.proofs.Starting.{all_zero}
use Rattle.audit_open.proofs.zero_numbers.Goals as goal

pub returns : goal.returns
returns c = c.clear.ensures ∙ all_zero c.args.numbers.now
