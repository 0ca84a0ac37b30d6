-- `audit_counters::sums_fit` meets its contract.
use mathlib.Core.Path.{◌∙◌}
use Prim.Native.Nat.{◌-◌}
use native.Mathlib.Omega.{arith}
use lib.Dec.{leb}
use Rattle.std.proofs.Common.{rules, tests}
use Rattle.std.proofs.lemmas.Iterator.{YieldsList-from_slice, YieldsList-from_zip}
use Rattle.std.proofs.lemmas.Iterator.Search.{all_from_yields_List}
use Rattle.audit_ledger.specs.Booking.{max_counter}
use Rattle.audit_counters.proofs.Adding.{sums_pass}
use Rattle.audit_counters.proofs.sums_fit.Goals as goal

pub returns : goal.returns
returns c =
    let a = c.args in
    all_from_yields_List (λ p. leb p.1 (max_counter - p.0)) c.all.new.self _ _ c.all.ensures.ran (YieldsList-from_zip (YieldsList-from_slice a.counters.now cc) (YieldsList-from_slice a.marks.now cc)) (λ x b q k. search (rules, tests))
    ∙ sums_pass a.counters.now a.marks.now c.requires (λ i. omega (arith, c.type_inv.counters i))
