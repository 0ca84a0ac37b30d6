-- `catch_supply::begin` meets its contract: another code is refused, else the step is as the settings are read.
use native.Mathlib.Omega.{arith}
use Rattle.catch_supply.proofs.Supplying.{begin_elsewhere, begin_reads, begin-refuses, begin-stays}
use Rattle.catch_supply.proofs.begin.Goals as goal

pub returns-then-code-ne1 : goal.returns-then-code-ne1
returns-then-code-ne1 c =
    let a = c.args in
    begin_elsewhere a.ended a.code a.bytes.now a.out.now a.at _ _ (λ e. omega arith) c.refuse.ensures

pub returns-in-Ok : goal.returns-in-Ok
returns-in-Ok c =
    let a = c.args in
    begin_reads a.ended a.code a.bytes.now a.out.now a.at (omega arith) c.in-Ok.settings c.in-Ok.ensures

pub returns-in-Err-Wrong : goal.returns-in-Err-Wrong
returns-in-Err-Wrong c =
    let a = c.args in
    begin-refuses a.ended a.code a.bytes.now a.out.now a.at (omega arith) _ _ (rw c.in-Err-Wrong.field-0-is at c.in-Err-Wrong.ensures) c.refuse-in-Err-Wrong.ensures

pub returns-in-Err-More : goal.returns-in-Err-More
returns-in-Err-More c =
    let a = c.args in
    begin-stays a.ended a.code a.bytes.now a.out.now a.at (omega arith) _ _ (rw c.in-Err-More.field-0-is at c.in-Err-More.ensures) c.wait_or_refuse.ensures
