-- `batch_lists::all_within` meets its contract: every byte passes the test.
use Rattle.std.proofs.Common.{leb, rules}
use Rattle.std.proofs.lemmas.Iterator.{YieldsList-from_slice}
use Rattle.std.proofs.lemmas.Iterator.Search.{all_from_yields_List}
use borrow.Author.Tests.{tests}
use Rattle.batch_lists.proofs.all_within.Goals as goal

pub returns : goal.returns
returns c = all_from_yields_List (λ b. leb b c.args.most) _ _ _ c.all.ensures.ran (YieldsList-from_slice c.args.bytes.now cc) (λ x b q k. search (rules, tests))
