-- `catch_fragments::read_fits` meets its contract: the first test that fails, or whether the length is at most 4,096.
use native.Mathlib.Omega.{arith}
use borrow.Author.Tests.{le-leb, lt-leb}
use Rattle.catch_fragments.proofs.read_fits.Goals as goal

pub returns-then-role-gt2 : goal.returns-then-role-gt2
returns-then-role-gt2 c = rw (lt-leb c.args.role 2 (omega arith))

pub returns-then-mark-gt1 : goal.returns-then-mark-gt1
returns-then-mark-gt1 c = let a = c.args in rw (le-leb a.role 2 (omega arith), lt-leb a.mark 1 (omega arith))

pub returns-then-length-gt4096 : goal.returns-then-length-gt4096
returns-then-length-gt4096 c = let a = c.args in rw (le-leb a.role 2 (omega arith), le-leb a.mark 1 (omega arith), lt-leb a.length 4096 (omega arith))

pub returns : goal.returns
returns c = let a = c.args in rw (le-leb a.role 2 (omega arith), le-leb a.mark 1 (omega arith), le-leb a.length 4096 (omega arith))
