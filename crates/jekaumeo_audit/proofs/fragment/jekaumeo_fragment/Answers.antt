-- `jekaumeo_audit::fragment::jekaumeo_fragment` meets its contract: the fragment call with the lent index.
use Rattle.jekaumeo_audit.proofs.fragment.jekaumeo_fragment.Goals as goal

pub returns : goal.returns
returns c = c.fragment_numbers.ensures
