-- `catch_commands::is_name` meets its contract: every byte passes the test.
use Rattle.std.proofs.Common.{rules}
use Rattle.std.proofs.lemmas.Iterator.{YieldsList-from_slice}
use Rattle.std.proofs.lemmas.Iterator.Search.{all_from_yields_List}
use borrow.Author.Tests.{tests}
use Rattle.catch_commands.specs.Commands.{is_name_byte}
use Rattle.catch_commands.proofs.is_name.Goals as goal

pub returns : goal.returns
returns c = all_from_yields_List is_name_byte _ _ _ c.all.ensures.ran (YieldsList-from_slice c.args.bytes.now cc) (λ x b q k. search (rules, tests))
