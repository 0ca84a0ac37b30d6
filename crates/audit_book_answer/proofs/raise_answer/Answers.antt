-- `audit_book_answer::raise_answer` meets its contract, answer by answer.
use Rattle.audit_book_answer.proofs.Answering.{refused_raised, single_raisable, single_raised, pair_raisable, pair_raised}
use Rattle.audit_book_answer.proofs.raise_answer.Goals as goal

pub raise_fragment-requires : goal.raise_fragment-requires
raise_fragment-requires g c = single_raisable _ _ _ _ _ _ c.in-Ok-Single.is _ (rw c.in-Ok-Single.is at c.in-Ok-Single.field-0-is) _ c.tally_of-one.ensures _ c.requires

pub raise_fragment-requires-in-Ok-Paired : goal.raise_fragment-requires-in-Ok-Paired
raise_fragment-requires-in-Ok-Paired g c = pair_raisable _ _ _ _ _ _ c.in-Ok-Paired.is _ (rw c.in-Ok-Paired.is at c.in-Ok-Paired.field-0-is) _ _ c.tally_of.ensures c.tally_of-in-Ok-Paired.ensures _ c.requires

pub returns-in-Err : goal.returns-in-Err
returns-in-Err g c = refused_raised _ _ _ _ _ _ c.in-Err.is _

pub returns-in-Ok-Single : goal.returns-in-Ok-Single
returns-in-Ok-Single g c = single_raised _ _ _ _ _ _ c.in-Ok-Single.is _ (rw c.in-Ok-Single.is at c.in-Ok-Single.field-0-is) _ c.tally_of-one.ensures _ _ c.raise_fragment.ensures

pub returns-in-Ok-Paired : goal.returns-in-Ok-Paired
returns-in-Ok-Paired g c = pair_raised _ _ _ _ _ _ c.in-Ok-Paired.is _ (rw c.in-Ok-Paired.is at c.in-Ok-Paired.field-0-is) _ _ c.tally_of.ensures c.tally_of-in-Ok-Paired.ensures _ _ c.raise_fragment-in-Ok-Paired.ensures
