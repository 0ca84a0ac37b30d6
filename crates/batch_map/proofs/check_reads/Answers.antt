-- `batch_map::check_reads` meets its contract: one test after the other.
use mathlib.Core.Path.{sym, ◌∙◌}
use Rattle.batch_map.proofs.Listing.{limit_out, ends_wrong, rows_broken, rows_other, list_right}
use Rattle.batch_map.proofs.check_reads.Goals as goal

pub returns-then-not-limit_right : goal.returns-then-not-limit_right
returns-then-not-limit_right c = let a = c.args in limit_out a.limit a.reads.now a.read_ends.now a.rows (sym c.limit_right.ensures ∙ c.if-not-limit_right.true)

pub returns-then-not-ends_within : goal.returns-then-not-ends_within
returns-then-not-ends_within c = let a = c.args in ends_wrong a.limit a.reads.now a.read_ends.now a.rows (sym c.limit_right.ensures ∙ c.if-not-limit_right.false) (sym c.ends_within.ensures ∙ c.if-not-ends_within.true)

pub returns-then-rows-ne0 : goal.returns-then-rows-ne0
returns-then-rows-ne0 c = let a = c.args in rows_broken a.limit a.reads.now a.read_ends.now a.rows (sym c.limit_right.ensures ∙ c.if-not-limit_right.false) (sym c.ends_within.ensures ∙ c.if-not-ends_within.false) c.if-rows-ne0.true

pub returns-then-rows-read_ends : goal.returns-then-rows-read_ends
returns-then-rows-read_ends c = let a = c.args in rows_other a.limit a.reads.now a.read_ends.now a.rows (sym c.limit_right.ensures ∙ c.if-not-limit_right.false) (sym c.ends_within.ensures ∙ c.if-not-ends_within.false) c.if-rows-read_ends.true

pub returns : goal.returns
returns c = let a = c.args in list_right a.limit a.reads.now a.read_ends.now a.rows (sym c.limit_right.ensures ∙ c.if-not-limit_right.false) (sym c.ends_within.ensures ∙ c.if-not-ends_within.false) c.if-rows-ne0.false c.if-rows-read_ends.false
