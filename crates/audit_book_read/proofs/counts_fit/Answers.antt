-- `audit_book_read::counts_fit` meets its contract.
use native.Mathlib.Omega.{arith}
use Rattle.audit_book_read.proofs.Counts.{raised_small}
use Rattle.audit_book_read.proofs.counts_fit.Goals as goal

pub returns : goal.returns
returns c = raised_small c.args.at c.args.counts.now c.requires (λ i. omega (arith, c.type_inv.counts i))
