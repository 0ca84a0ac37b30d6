-- `jekaumeo_audit::apply_to_unitigs::jekaumeo_apply_to_unitigs` meets its contract: the rows of the targets.
use Rattle.jekaumeo_audit.proofs.apply_to_unitigs.jekaumeo_apply_to_unitigs.Goals as goal

pub returns : goal.returns
returns c = c.apply_numbers.ensures
