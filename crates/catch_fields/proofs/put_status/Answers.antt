-- `catch_fields::put_status` meets its contract.
use native.Mathlib.Omega.{arith}
use Rattle.catch_fields.proofs.put_status.Goals as goal

pub returns-in-Complete : goal.returns-in-Complete
returns-in-Complete c = record { adds = rw c.in-Complete.is c.put_bytes.ensures; room = omega arith }

pub returns-in-CandidateLimit : goal.returns-in-CandidateLimit
returns-in-CandidateLimit c = record { adds = rw c.in-CandidateLimit.is c.put_bytes-in-CandidateLimit.ensures; room = omega arith }

pub returns-in-RemapDisabled : goal.returns-in-RemapDisabled
returns-in-RemapDisabled c = record { adds = rw c.in-RemapDisabled.is c.put_bytes-in-RemapDisabled.ensures; room = omega arith }

pub returns-in-ClosedUnsupported : goal.returns-in-ClosedUnsupported
returns-in-ClosedUnsupported c = record { adds = rw c.in-ClosedUnsupported.is c.put_bytes-in-ClosedUnsupported.ensures; room = omega arith }
