-- `c_calls::finish::finish_numbers` meets its contract: 26, or the finish, and its sheet.
use mathlib.Core.Path.{sym, ◌∙◌}
use native.Mathlib.Omega.{arith}
use Rattle.c_calls.proofs.Telling.{no_answer, finish_by_state, finish_wrong, finish_told}
use Rattle.c_calls.proofs.finish.finish_numbers.Goals as goal

pub returns-then-answer-lt25 : goal.returns-then-answer-lt25
returns-then-answer-lt25 c = finish_wrong _ _ _ c.args.state.now c.args.answer.now (no_answer c.args.state.now c.args.answer.now (omega arith))

pub returns-then-not-is_state : goal.returns-then-not-is_state
returns-then-not-is_state c = finish_wrong _ _ _ c.args.state.now c.args.answer.now (finish_by_state c.args.state.now c.args.answer.now (omega arith) _ (sym c.is_state.ensures ∙ c.if-not-is_state.true))

pub state_of-held-requires : goal.state_of-held-requires
state_of-held-requires c = sym c.is_state.ensures ∙ c.if-not-is_state.false

pub returns : goal.returns
returns c = finish_told _ _ _ c.args.state.now c.args.answer.now (finish_by_state c.args.state.now c.args.answer.now (omega arith) _ (sym c.is_state.ensures ∙ c.if-not-is_state.false)) _ c.state_of-held.ensures c.finish_audit-finish.result c.finish_audit-finish.ensures _ _ c.put_finish.ensures
