-- `jekaumeo_audit::fragments::jekaumeo_fragments` meets its contract: the call over the list.
use Rattle.jekaumeo_audit.proofs.fragments.jekaumeo_fragments.Goals as goal

pub returns : goal.returns
returns c = c.fragments_numbers.ensures
