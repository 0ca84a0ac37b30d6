-- `c_state::last_of` meets its contract: an ordinal where the flag is not 0.
use native.Mathlib.Omega.{arith}
use Rattle.c_state.proofs.Writing.{accepted_last}
use Rattle.c_state.proofs.last_of.Goals as goal

pub returns : goal.returns
returns c = accepted_last c.args.flag c.args.ordinal (omega arith)
