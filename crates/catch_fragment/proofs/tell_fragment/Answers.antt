-- `catch_fragment::tell_fragment` meets its contract: the fragment is audited, and the lines of its answer are written.
use native.Mathlib.Omega.{arith}
use Rattle.audit_model.specs.Calls.{held_of}
use Rattle.audit_observe_reads.proofs.Fragment.{known_within}
use Rattle.catch_fragment.proofs.Answered.{answer_lent, answer_written}
use Rattle.catch_fragment.proofs.tell_fragment.Goals as goal

pub overflow_mul-width : goal.overflow_mul-width
overflow_mul-width c =
    omega (arith, c.requires.whole, known_within c.args.state.settings.mode _ c.share_of-width.result c.share_of-width.ensures)

pub audit_tested-audit-requires : goal.audit_tested-audit-requires
audit_tested-audit-requires c = c.requires.tested

pub put_answer-end-requires : goal.put_answer-end-requires
put_answer-end-requires c =
    let a = c.args in
    let t = c.audit_tested-audit in
    answer_lent a.targets.bases.now a.targets.ends.now a.targets.ranked.now a.index.keys.now a.index.ranks.now a.index.positions.now a.identifiers.now a.identifier_ends.now a.bytes.now a.head (held_of a.state a.placements.now a.singles.now a.multi.now) a.entries.now a.out.now a.at c.requires c.share_of-width.result c.share_of-width.ensures t.new.entries t.auto.entries _ _ _ t.result.answer t.ensures.observed

pub returns : goal.returns
returns c =
    let a = c.args in
    let t = c.audit_tested-audit in
    record {
      audited = t.ensures;
      adds = answer_written a.targets.bases.now a.targets.ends.now a.targets.ranked.now a.index.keys.now a.index.ranks.now a.index.positions.now a.identifiers.now a.identifier_ends.now a.bytes.now a.head (held_of a.state a.placements.now a.singles.now a.multi.now) a.entries.now a.out.now a.at c.requires c.share_of-width.result c.share_of-width.ensures t.new.entries t.auto.entries _ _ _ t.result.answer t.ensures.observed _ _ c.put_answer-end.ensures;
    }
