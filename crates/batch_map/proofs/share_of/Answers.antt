-- `batch_map::share_of` meets its contract: a division, where there are reads.
use mathlib.Core.Path.{refl}
use native.Mathlib.Nat.{div-mul-le_self, div-le_self}
use Rattle.batch_map.proofs.share_of.Goals as goal

pub returns : goal.returns
returns c = (div-mul-le_self _ _, λ ne. refl, div-le_self _ _)
