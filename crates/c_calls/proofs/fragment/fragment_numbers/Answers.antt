-- `c_calls::fragment::fragment_numbers` meets its contract: 26, or the fragment, and the state and the rows that it leaves.
use mathlib.Core.Path.{refl, sym, ◌∙◌}
use native.Mathlib.Omega.{arith}
use Rattle.c_state.proofs.Testing.{state_parts}
use Rattle.c_calls.proofs.Telling.{two_rows, fragment_short, fragment_first, fragment_second, fragment_no_state, fragment_told}
use Rattle.c_calls.proofs.fragment.fragment_numbers.Goals as goal

pub returns-then-answer-lt16 : goal.returns-then-answer-lt16
returns-then-answer-lt16 c = fragment_short _ _ _ _ c.args.state.now c.args.answer.now c.args.entries.now (omega arith)

pub returns-then-not-codes_right : goal.returns-then-not-codes_right
returns-then-not-codes_right c = fragment_first _ _ _ _ c.args.state.now c.args.answer.now c.args.entries.now (omega arith) (sym c.codes_right.ensures ∙ c.if-not-codes_right.true)

pub returns-then-not-codes_right-2 : goal.returns-then-not-codes_right-2
returns-then-not-codes_right-2 c = fragment_second _ _ _ _ c.args.state.now c.args.answer.now c.args.entries.now (omega arith) (sym c.codes_right.ensures ∙ c.if-not-codes_right.false) (sym c.codes_right-2.ensures ∙ c.if-not-codes_right-2.true)

pub returns-then-not-is_state : goal.returns-then-not-is_state
returns-then-not-is_state c = fragment_no_state _ _ _ _ c.args.state.now c.args.answer.now c.args.entries.now (omega arith) (sym c.codes_right.ensures ∙ c.if-not-codes_right.false) (sym c.codes_right-2.ensures ∙ c.if-not-codes_right-2.false) (sym c.is_state.ensures ∙ c.if-not-is_state.true)

pub state_of-held-requires : goal.state_of-held-requires
state_of-held-requires c = (sym c.is_state.ensures ∙ c.if-not-is_state.false)

pub put_state-requires : goal.put_state-requires
put_state-requires c = (state_parts c.args.state.now (sym c.is_state.ensures ∙ c.if-not-is_state.false)).sized

pub write_fragment-requires : goal.write_fragment-requires
write_fragment-requires c = omega (arith, two_rows c.audit_fragment-audit.result.answer, c.if-answer-lt16.false)

pub bounds-answer-0 : goal.bounds-answer-0
bounds-answer-0 c = omega (arith, c.answer-1.given, c.if-answer-lt16.false)

pub returns : goal.returns
returns c = fragment_told _ _ _ _ c.args.state.now c.args.answer.now c.args.entries.now (omega (arith, c.if-answer-lt16.false)) (sym c.codes_right.ensures ∙ c.if-not-codes_right.false) (sym c.codes_right-2.ensures ∙ c.if-not-codes_right-2.false) (sym c.is_state.ensures ∙ c.if-not-is_state.false) _ c.state_of-held.ensures _ _ c.role_of.ensures c.role_of-2.ensures c.audit_fragment-audit.result _ _ c.audit_fragment-audit.ensures _ c.put_state.ensures _ c.write_fragment.ensures _ refl
