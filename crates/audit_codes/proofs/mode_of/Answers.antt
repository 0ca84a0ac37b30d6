-- `audit_codes::mode_of` meets its contract: a number that is not 0 stands for pairs.
use native.Mathlib.Omega.{arith}
use Rattle.audit_codes.proofs.Codes.{paired}
use Rattle.audit_codes.proofs.mode_of.Goals as goal

pub returns : goal.returns
returns c = paired c.args.number (omega arith)
