-- `audit_observe_reads::share_of` meets its contract.
use native.Mathlib.Omega.{arith}
use Rattle.audit_observe_reads.proofs.share_of.Goals as goal

pub returns-in-SingleEnd : goal.returns-in-SingleEnd
returns-in-SingleEnd c = rw c.in-SingleEnd.is (omega arith)

pub returns-in-PairedEnd : goal.returns-in-PairedEnd
returns-in-PairedEnd c = rw c.in-PairedEnd.is (omega arith)
