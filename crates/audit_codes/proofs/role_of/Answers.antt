-- `audit_codes::role_of` meets its contract: a number that is neither 0 nor 1 stands for R2.
use native.Mathlib.Omega.{arith}
use Rattle.audit_codes.proofs.Codes.{second}
use Rattle.audit_codes.proofs.role_of.Goals as goal

pub returns : goal.returns
returns c = second c.args.number (omega arith) (omega arith)
