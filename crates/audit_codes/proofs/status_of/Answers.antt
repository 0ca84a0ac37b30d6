-- `audit_codes::status_of` meets its contract.
use native.Mathlib.Omega.{arith}
use Rattle.audit_codes.proofs.Codes.{unsupported}
use Rattle.audit_codes.proofs.status_of.Goals as goal

pub returns : goal.returns
returns c = unsupported c.args.number (omega arith) (omega arith) (omega arith)
