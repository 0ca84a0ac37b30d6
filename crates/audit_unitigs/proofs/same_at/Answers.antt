-- `audit_unitigs::same_at` meets its contract.
use Rattle.audit_unitigs.proofs.Comparing.{names_told}
use Rattle.audit_unitigs.proofs.same_at.Goals as goal

pub returns-then-marks-i : goal.returns-then-marks-i
returns-then-marks-i c = names_told _ _ _ _ c.sequence_at.ensures c.sequence_at-then-marks-i.ensures _ c.eq.ensures _ _ c.if-marks-i.true
