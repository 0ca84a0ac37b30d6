-- `test_cases::reading::room` meets its contract. By the law the elements are not counted one by one.
use mathlib.Core.Path.{sym}
use Prim.Native.Nat.{ℕ}
use lib.ListN.{length-replicate}
use Rattle.test_cases.proofs.reading.room.Goals as goal

pub returns : goal.returns
returns c = sym (length-replicate {A = ℕ} 393216 0)
