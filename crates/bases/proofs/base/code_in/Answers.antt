-- `bases::base::code_in` meets its contract: the entry divided by 256.
use native.Mathlib.Omega.{arith}
use Rattle.bases.proofs.Bytes.{complement_byte}
use Rattle.bases.proofs.base.code_in.Goals as goal

pub returns : goal.returns
returns c = omega (arith, c.requires.holds c.args.b c.ranges.b.fits, complement_byte c.args.b c.ranges.b.fits)
