-- `catch_supply::supply` meets its contract: the step is as the target is read, and one that is read is stored behind the others.
use mathlib.Core.List.{[]}
use Prim.Native.Nat.{◌+◌, ◌-◌}
use native.Mathlib.Omega.{arith}
use lib.ListN.{length-take}
use Rattle.catch_targets.specs.Supplied.{supplied_in}
use Rattle.catch_advance.proofs.Advancing.{nothing_added}
use Rattle.catch_supply.proofs.Supplying.{target_there, target_fitting, supply-refuses, supply-stays, supply-went, kept_more}
use Rattle.catch_supply.proofs.supply.Goals as goal

pub overflow_add-middle : goal.overflow_add-middle
overflow_add-middle c =
    let a = c.args in
    let l = target_there a.held a.identifiers.now a.identifier_ends.now a.bases.now a.base_ends.now a.marks.now c.requires.0 a.bytes.now c.in-Ok.head c.in-Ok.ensures in
    omega (arith, l)

pub overflow_add-end : goal.overflow_add-end
overflow_add-end c =
    let a = c.args in
    let l = target_there a.held a.identifiers.now a.identifier_ends.now a.bases.now a.base_ends.now a.marks.now c.requires.0 a.bytes.now c.in-Ok.head c.in-Ok.ensures in
    omega (arith, l)

pub slice_bounds-store_target-end : goal.slice_bounds-store_target-end
slice_bounds-store_target-end c =
    let a = c.args in
    let l = target_there a.held a.identifiers.now a.identifier_ends.now a.bases.now a.base_ends.now a.marks.now c.requires.0 a.bytes.now c.in-Ok.head c.in-Ok.ensures in
    omega (arith, l)

pub slice_bounds-store_target-end-in-Ok : goal.slice_bounds-store_target-end-in-Ok
slice_bounds-store_target-end-in-Ok c =
    let a = c.args in
    let l = target_there a.held a.identifiers.now a.identifier_ends.now a.bases.now a.base_ends.now a.marks.now c.requires.0 a.bytes.now c.in-Ok.head c.in-Ok.ensures in
    omega (arith, l)

pub store_target-supply-requires : goal.store_target-supply-requires
store_target-supply-requires c =
    let a = c.args in
    let w = target_fitting a.held a.identifiers.now a.identifier_ends.now a.bases.now a.base_ends.now a.marks.now c.requires.0 a.bytes.now c.in-Ok.head c.in-Ok.ensures in
    let k = c.requires.0 in
    record {
      identifiers = simp length-take (omega (arith, k.names, k.identifiers, w.one, w.identifier));
      bases = simp length-take (omega (arith, k.sequences, w.bases));
      identifier_ends = omega (arith, k.identifier_ends, w.one);
      base_ends = omega (arith, k.base_ends, w.one);
      marks = omega (arith, k.marks, w.one);
    }

pub overflow_add-result : goal.overflow_add-result
overflow_add-result c =
    let a = c.args in
    let l = target_there a.held a.identifiers.now a.identifier_ends.now a.bases.now a.base_ends.now a.marks.now c.requires.0 a.bytes.now c.in-Ok.head c.in-Ok.ensures in
    omega (arith, l)

pub returns-in-Err-Wrong : goal.returns-in-Err-Wrong
returns-in-Err-Wrong c =
    let a = c.args in record { supply_told = supply-refuses a.held a.identifiers.now a.identifier_ends.now a.bases.now a.base_ends.now a.marks.now c.requires.0 a.bytes.now a.ended a.out.now a.at _ _ (rw c.in-Err-Wrong.field-0-is at c.in-Err-Wrong.ensures) c.refuse.ensures; supply_kept = c.requires.0 }

pub returns-in-Err-More : goal.returns-in-Err-More
returns-in-Err-More c =
    let a = c.args in record { supply_told = supply-stays a.held a.identifiers.now a.identifier_ends.now a.bases.now a.base_ends.now a.marks.now c.requires.0 a.bytes.now a.ended a.out.now a.at _ _ (rw c.in-Err-More.field-0-is at c.in-Err-More.ensures) c.wait_or_refuse.ensures; supply_kept = c.requires.0 }

pub returns-in-Ok : goal.returns-in-Ok
returns-in-Ok c =
    let a = c.args in
    let n = c.in-Ok.head.name in
    let m = c.in-Ok.head.count in
    let k = c.store_target-supply in
    let l = target_there a.held a.identifiers.now a.identifier_ends.now a.bases.now a.base_ends.now a.marks.now c.requires.0 a.bytes.now c.in-Ok.head c.in-Ok.ensures in record {
      supply_told = λ t. record {
        text = [];
        adds = nothing_added a.out.now a.at;
        told = supply-went a.held a.identifiers.now a.identifier_ends.now a.bases.now a.base_ends.now a.marks.now c.requires.0 a.bytes.now c.in-Ok.head c.in-Ok.ensures (6 + n - 6) (6 + n + m - (6 + n)) (supplied_in k.result k.new.identifiers k.new.identifier_ends k.new.bases k.new.base_ends k.new.marks) k.ensures.marks_value (omega arith) (omega arith) (1 + (6 + n + m)) (omega arith) t;
      };
      supply_kept = kept_more a.held a.identifiers.now a.identifier_ends.now a.bases.now a.base_ends.now a.marks.now c.requires.0 a.bytes.now c.in-Ok.head c.in-Ok.ensures k.result k.new.identifiers k.new.identifier_ends k.new.bases k.new.base_ends k.new.marks (6 + n - 6) (6 + n + m - (6 + n)) _ _ (omega arith) (omega arith) k.ensures.value k.auto.identifiers k.auto.identifier_ends k.auto.bases k.auto.base_ends k.auto.marks;
    }
