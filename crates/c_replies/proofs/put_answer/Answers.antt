-- `c_replies::put_answer` meets its contract: the row is written, and its first number is returned.
use mathlib.Core.Path.{ap, ◌∙◌}
use lib.ListN.{get_or}
use Rattle.map_answers.specs.Answer.{answer_by}
use Rattle.c_replies.proofs.Writing.{row_number}
use Rattle.c_replies.proofs.put_answer.Goals as goal

pub returns : goal.returns
returns g c =
    let a = c.args in
    let w = c.write_row.ensures in
    record { number = ap (λ l. get_or l 0 0) w ∙ row_number (answer_by g.E.Numbered.its_number a.mapped) a.answer.now; written = w }
