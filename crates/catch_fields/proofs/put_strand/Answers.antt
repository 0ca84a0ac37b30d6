-- `catch_fields::put_strand` meets its contract.
use native.Mathlib.Omega.{arith}
use borrow.Author.Tests.{ne_eqb}
use Rattle.catch_fields.proofs.put_strand.Goals as goal

pub returns-then-strand-eq0 : goal.returns-then-strand-eq0
returns-then-strand-eq0 c = record { adds = rw c.if-strand-eq0.true c.put_bytes.ensures; room = omega arith }

pub returns : goal.returns
returns c = record { adds = rw (ne_eqb _ _ c.if-strand-eq0.false) c.put_bytes-2.ensures; room = omega arith }
