-- `audit_sheet::balance::sum_agrees` meets its contract. The invariant: what is summed and what is left make up the whole.
use mathlib.Core.Path.{◌≡◌}
use Prim.Native.Nat.{◌+◌}
use lib.ListN.{drop}
use Rattle.lists.specs.Sum.{sum}
use Rattle.audit_sheet.proofs.balance.sum_agrees.Given as goal

abbrev pub invariant-loop-number : goal.invariant-loop-number
invariant-loop-number l = l.sum + sum (drop l.number-index l.numbers) ≡ sum l.numbers
