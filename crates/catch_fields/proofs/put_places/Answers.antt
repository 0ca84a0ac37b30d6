-- `catch_fields::put_places` meets its contract.
use native.Mathlib.Omega.{arith}
use borrow.Author.Tests.{lt-ltb, le-ltb}
use Rattle.map_answers.specs.Answer.{state_number}
use Rattle.catch_text.proofs.Decimal.{decimal-room}
use Rattle.catch_fields.proofs.put_places.Goals as goal

pub returns-then-state_number-lt3 : goal.returns-then-state_number-lt3
returns-then-state_number-lt3 c = record { adds = rw (lt-ltb (state_number c.args.mapping.state) 3 (omega arith)) c.put_bytes.ensures; room = omega arith }

pub put_decimal-requires : goal.put_decimal-requires
put_decimal-requires c = omega (arith, decimal-room c.args.mapping.groups (omega (arith, c.well_formed)))

pub returns : goal.returns
returns c = record { adds = rw (le-ltb (state_number c.args.mapping.state) 3 (omega arith)) c.put_decimal.ensures; room = omega (arith, decimal-room c.args.mapping.groups (omega (arith, c.well_formed))) }
