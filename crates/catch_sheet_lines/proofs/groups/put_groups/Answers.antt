use Rattle.lists.specs.Cut.{cut}
use Rattle.catch_sheet_lines.proofs.Listing.{listed_more}
use Rattle.catch_sheet_lines.proofs.Grouping.{lines_more}
use Rattle.catch_sheet_lines.proofs.groups.put_groups.Goals as goal

pub loop-i-preserved : goal.loop-i-preserved
loop-i-preserved c =
    let a = c.args in
    listed_more c.loop-i.invariant c.loop-i-test.true (lines_more (cut a.ends.now a.identifiers.now) c.loop-i.i a.entries.now) c.put_entry-p.ensures c.put_entry-p.auto.out
