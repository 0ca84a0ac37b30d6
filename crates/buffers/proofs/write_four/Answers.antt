-- `buffers::write_four` meets its contract.
use native.Mathlib.Omega.{arith}
use Rattle.buffers.proofs.Filling.{four_put}
use Rattle.buffers.proofs.write_four.Goals as goal

pub returns : goal.returns
returns c = let a = c.args in four_put a.at a.buffer.now a.a a.b a.c a.d (omega (arith, c.requires))
