-- `audit_book_answer::post_answer` meets its contract, answer by answer.
use Rattle.audit_book_answer.proofs.Answering.{refused_posted, single_postable, single_posted, pair_postable, pair_posted}
use Rattle.audit_book_answer.proofs.post_answer.Goals as goal

pub post_fragment-requires : goal.post_fragment-requires
post_fragment-requires g c = single_postable _ _ _ _ _ _ c.in-Ok-Single.is _ (rw c.in-Ok-Single.is at c.in-Ok-Single.field-0-is) _ c.tally_of-one.ensures _ c.requires

pub post_fragment-requires-in-Ok-Paired : goal.post_fragment-requires-in-Ok-Paired
post_fragment-requires-in-Ok-Paired g c = pair_postable _ _ _ _ _ _ c.in-Ok-Paired.is _ (rw c.in-Ok-Paired.is at c.in-Ok-Paired.field-0-is) _ _ c.tally_of.ensures c.tally_of-in-Ok-Paired.ensures _ c.requires

pub returns-in-Err : goal.returns-in-Err
returns-in-Err g c = refused_posted _ _ _ _ _ _ c.in-Err.is _

pub returns-in-Ok-Single : goal.returns-in-Ok-Single
returns-in-Ok-Single g c = single_posted _ _ _ _ _ _ c.in-Ok-Single.is _ (rw c.in-Ok-Single.is at c.in-Ok-Single.field-0-is) _ c.tally_of-one.ensures _ _ c.post_fragment.ensures

pub returns-in-Ok-Paired : goal.returns-in-Ok-Paired
returns-in-Ok-Paired g c = pair_posted _ _ _ _ _ _ c.in-Ok-Paired.is _ (rw c.in-Ok-Paired.is at c.in-Ok-Paired.field-0-is) _ _ c.tally_of.ensures c.tally_of-in-Ok-Paired.ensures _ _ c.post_fragment-in-Ok-Paired.ensures
