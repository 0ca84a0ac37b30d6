-- `c_calls::codes_right` meets its contract.
use native.Mathlib.Omega.{arith}
use Rattle.c_calls.proofs.Telling.{no_role, by-mark}
use Rattle.c_calls.proofs.codes_right.Goals as goal

pub returns-then-role-gt2 : goal.returns-then-role-gt2
returns-then-role-gt2 c = no_role c.args.role c.args.mark (omega arith)

pub returns : goal.returns
returns c = by-mark c.args.role c.args.mark (omega arith)
