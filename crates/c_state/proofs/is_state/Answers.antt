-- `c_state::is_state` meets its contract: one test after the other.
use native.Mathlib.Omega.{arith}
use Rattle.c_state.proofs.Testing.{wrong_length, wrong_layout, wrong_mode, wrong_remap, wrong_floor, wrong_flag, wrong_ordinal, with_last, without_last}
use Rattle.c_state.proofs.is_state.Goals as goal
use Rattle.c_state.proofs.is_state.Goals.{then-numbers-eq0+else-numbers-ne0, else-numbers-eq0}

pub returns-then-numbers-ne-STATE_LENGTH : goal.returns-then-numbers-ne-STATE_LENGTH
returns-then-numbers-ne-STATE_LENGTH c = wrong_length c.args.numbers.now (omega arith)

pub returns-then-numbers-ne-STATE_LAYOUT : goal.returns-then-numbers-ne-STATE_LAYOUT
returns-then-numbers-ne-STATE_LAYOUT c = wrong_layout c.args.numbers.now (omega arith) (omega arith)

pub returns-then-numbers-gt1 : goal.returns-then-numbers-gt1
returns-then-numbers-gt1 c = wrong_mode c.args.numbers.now (omega arith) (omega arith) (omega arith)

pub returns-then-numbers-gt1-2 : goal.returns-then-numbers-gt1-2
returns-then-numbers-gt1-2 c = wrong_remap c.args.numbers.now (omega arith) (omega arith) (omega arith) (omega arith)

pub returns-then-numbers-gt255 : goal.returns-then-numbers-gt255
returns-then-numbers-gt255 c = wrong_floor c.args.numbers.now (omega arith) (omega arith) (omega arith) (omega arith) (omega arith)

pub returns-then-numbers-gt1-3 : goal.returns-then-numbers-gt1-3
returns-then-numbers-gt1-3 c = wrong_flag c.args.numbers.now (omega arith) (omega arith) (omega arith) (omega arith) (omega arith) (omega arith)

pub returns-then-numbers-ne0 : goal.returns-then-numbers-ne0
returns-then-numbers-ne0 c = wrong_ordinal c.args.numbers.now (omega arith) (omega arith) (omega arith) (omega arith) (omega arith) (omega arith) (omega arith)

pub returns : goal.returns
returns c =
    elim c.if-numbers-eq0.branch [
      | then-numbers-eq0+else-numbers-ne0 w ↦ without_last c.args.numbers.now (omega arith) (omega arith) (omega arith) (omega arith) (omega arith) (omega arith) (omega arith)
      | else-numbers-eq0 w ↦ with_last c.args.numbers.now (omega arith) (omega arith) (omega arith) (omega arith) (omega arith) (omega arith)
    ]
