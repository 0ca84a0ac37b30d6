-- `catch_advance::refuse` meets its contract: the line of the refusal is written, and the run has ended.
use mathlib.Core.Path.{refl}
use Rattle.catch_advance.proofs.refuse.Goals as goal

pub returns : goal.returns
returns g c = record { adds = c.put_refusal-end.ensures; last = refl }
