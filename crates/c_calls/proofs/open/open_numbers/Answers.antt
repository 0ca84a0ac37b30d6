-- `c_calls::open::open_numbers` meets its contract: 26, or the opening, and the state that it leaves.
use native.Mathlib.Omega.{arith}
use Rattle.c_calls.proofs.Telling.{no_room, no_mode, no_remap, open_all, open_wrong, open_told}
use Rattle.c_calls.proofs.open.open_numbers.Goals as goal

pub returns-then-state-ne-STATE_LENGTH : goal.returns-then-state-ne-STATE_LENGTH
returns-then-state-ne-STATE_LENGTH c = open_wrong _ _ _ c.args.mode c.args.remap c.args.floor c.args.limit c.args.state.now (no_room c.args.mode c.args.remap c.args.state.now (omega arith))

pub returns-then-mode-gt1 : goal.returns-then-mode-gt1
returns-then-mode-gt1 c = open_wrong _ _ _ c.args.mode c.args.remap c.args.floor c.args.limit c.args.state.now (no_mode c.args.mode c.args.remap c.args.state.now (omega arith) (omega arith))

pub returns-then-remap-gt1 : goal.returns-then-remap-gt1
returns-then-remap-gt1 c = open_wrong _ _ _ c.args.mode c.args.remap c.args.floor c.args.limit c.args.state.now (no_remap c.args.mode c.args.remap c.args.state.now (omega arith) (omega arith) (omega arith))

pub returns : goal.returns
returns c = open_told _ _ _ c.args.mode c.args.remap c.args.floor c.args.limit c.args.state.now (open_all c.args.mode c.args.remap c.args.state.now (omega arith) (omega arith) (omega arith)) _ c.mode_of.ensures c.open_audit-opened.result _ c.open_audit-opened.ensures _ c.number_of.ensures _ c.put_state.ensures
