-- `jekaumeo_audit::plain_fragment::jekaumeo_plain_fragment` meets its contract: the fragment with no index.
use Rattle.jekaumeo_audit.proofs.plain_fragment.jekaumeo_plain_fragment.Goals as goal

pub returns : goal.returns
returns c = c.fragment_numbers.ensures
