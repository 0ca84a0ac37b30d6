-- `audit_roles::validate_fragment_roles` meets its contract, mode by mode.
use Rattle.audit_model.specs.Settings.{role_number}
use native.Mathlib.Omega.{arith}
use Rattle.audit_roles.proofs.Roles.{not_one, one_read, not_two, not_first, two_reads}
use Rattle.audit_roles.proofs.validate_fragment_roles.Goals as goal

pub returns-then-count-ne1 : goal.returns-then-count-ne1
returns-then-count-ne1 c =
    let a = c.args in
    not_one a.mode a.count (role_number a.first) (role_number a.second) c.in-SingleEnd.is c.if-count-ne1.true

pub returns-then-count-ne2 : goal.returns-then-count-ne2
returns-then-count-ne2 c =
    let a = c.args in
    not_two a.mode a.count (role_number a.first) (role_number a.second) c.in-PairedEnd.is c.if-count-ne2.true

pub returns-then-one-ne1 : goal.returns-then-one-ne1
returns-then-one-ne1 c =
    let a = c.args in
    not_first a.mode a.count (role_number a.first) (role_number a.second) c.in-PairedEnd.is _ c.role_number-one.ensures c.if-one-ne1.true (omega (arith, c.if-count-ne2.false))

pub returns-else-count-ne1 : goal.returns-else-count-ne1
returns-else-count-ne1 c =
    let a = c.args in
    one_read a.mode a.count (role_number a.first) (role_number a.second) c.in-SingleEnd.is (omega (arith, c.if-count-ne1.false)) _ c.role_number-one.ensures

pub returns-else-one-ne1 : goal.returns-else-one-ne1
returns-else-one-ne1 c =
    let a = c.args in
    two_reads a.mode a.count (role_number a.first) (role_number a.second) c.in-PairedEnd.is (omega (arith, c.if-count-ne2.false)) _ c.role_number-one.ensures (omega (arith, c.if-one-ne1.false)) _ c.role_number-two.ensures
