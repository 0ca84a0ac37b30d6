-- `c_state::eighteen` meets its contract.
use mathlib.Core.Path.{refl}
use Prim.Native.Nat.{◌+◌, ◌-◌}
use native.Mathlib.Omega.{arith}
use Rattle.c_state.proofs.Writing.{put_eighteen}
use Rattle.c_state.proofs.eighteen.Goals as goal

pub returns : goal.returns
returns c = put_eighteen c.args.numbers.now _ _ c.args.at (c.args.at + 18 - c.args.at) (omega arith) c.requires refl c.copy_numbers.ensures
