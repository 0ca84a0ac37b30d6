-- `catch_fields::put_role` meets its contract.
use native.Mathlib.Omega.{arith}
use Rattle.catch_fields.proofs.put_role.Goals as goal

pub returns-in-S : goal.returns-in-S
returns-in-S c = record { adds = rw c.in-S.is c.put_bytes.ensures; room = omega arith }

pub returns-in-R1 : goal.returns-in-R1
returns-in-R1 c = record { adds = rw c.in-R1.is c.put_bytes-in-R1.ensures; room = omega arith }

pub returns-in-R2 : goal.returns-in-R2
returns-in-R2 c = record { adds = rw c.in-R2.is c.put_bytes-in-R2.ensures; room = omega arith }
