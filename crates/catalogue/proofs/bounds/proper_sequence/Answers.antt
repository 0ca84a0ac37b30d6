-- `catalogue::bounds::proper_sequence` meets its contract: some byte, and every one a capital.
use Rattle.std.proofs.Common.{◌≡◌, rules, arith}
use Rattle.std.proofs.lemmas.Iterator.{YieldsList-from_slice}
use Rattle.std.proofs.lemmas.Iterator.Search.{all_from_yields_List}
use borrow.Author.Tests.{tests}
use Rattle.lists.specs.Filter.{every}
use Rattle.bases.specs.Base.{is_capital}
use Rattle.std.proofs.lemmas.Grind.{common_steps}
use Rattle.catalogue.proofs.bounds.proper_sequence.Goals as goal

pub returns-then-not-is_empty : goal.returns-then-not-is_empty
returns-then-not-is_empty c =
    let e : c.all.result ≡ every is_capital c.args.bases.now =
    all_from_yields_List is_capital _ _ _ c.all.ensures.ran (YieldsList-from_slice c.args.bases.now cc) (λ x b q k. search (rules, tests)) in
    grind (arith, common_steps)
