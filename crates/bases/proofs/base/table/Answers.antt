-- `bases::base::table` meets its contract: the test of the table, computed at all 256 bytes.
use mathlib.Core.Path.{refl}
use Rattle.bases.specs.Base.{code_of, complement_of}
use Rattle.bases.proofs.Bytes.{table_right}
use Rattle.bases.proofs.base.table.Goals as goal

pub returns : goal.returns
unfolding code_of complement_of
returns c = table_right _ refl
