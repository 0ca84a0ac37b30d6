-- `catalogue::bounds::marks_right` meets its contract: every mark passes the test.
use Rattle.std.proofs.Common.{leb, rules}
use Rattle.std.proofs.lemmas.Iterator.{YieldsList-from_slice}
use Rattle.std.proofs.lemmas.Iterator.Search.{all_from_yields_List}
use borrow.Author.Tests.{tests}
use Rattle.catalogue.proofs.bounds.marks_right.Goals as goal

pub returns : goal.returns
returns c = all_from_yields_List (λ m. leb m 1) _ _ _ c.all.ensures.ran (YieldsList-from_slice c.args.marks.now cc) (λ x b q k. search (rules, tests))
