-- `catch_sheet_lines::counts::put_counts` meets its contract.
use Rattle.catch_sheet_lines.proofs.Counting.{paired_told}
use Rattle.catch_sheet_lines.proofs.counts.put_counts.Goals as goal

pub returns-in-PairedEnd : goal.returns-in-PairedEnd
returns-in-PairedEnd c = paired_told c.args.sheet c.in-PairedEnd.is c.put_states-a.ensures c.put_states-in-PairedEnd.ensures
