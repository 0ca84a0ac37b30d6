-- `catch_commands::read_target` meets its contract: the head is judged first, then there are enough bytes, then the identifier.
use mathlib.Core.Path.{refl, sym, ◌∙◌}
use Prim.Native.Nat.{◌+◌, ◌-◌, ◌<◌, ◌≤◌}
use native.Mathlib.Omega.{arith}
use lib.ListN.{get_or}
use Rattle.catch_commands.proofs.Targets.{target_count, target_none, target_refused, target_short, target_misnamed, target_read, target_within}
use Rattle.catch_commands.proofs.read_target.Goals as goal

pub returns-then-bytes-lt6 : goal.returns-then-bytes-lt6
returns-then-bytes-lt6 c = λ k t h. target_none k _ (omega arith)

pub overflow_cast-name : goal.overflow_cast-name
overflow_cast-name c = omega (arith, c.shared_slice_known-3-1.given 1)

pub returns-then-not-target_fits : goal.returns-then-not-target_fits
returns-then-not-target_fits c =
    let misfit = sym c.target_fits.ensures ∙ c.if-not-target_fits.true in
    λ k m h.
    let a = c.args in
    target_refused k a.bytes.now _ _ c.little_endian-count.result a.targets a.held m h (omega arith) refl refl c.little_endian-count.ensures misfit

pub overflow_add-name : goal.overflow_add-name
overflow_add-name c =
    let number = c.little_endian-count.result in
    let fits = sym c.target_fits.ensures ∙ c.if-not-target_fits.false in
    let few : (let a = c.args in (get_or a.bytes.now 1 0 < 256) × (a.held + number ≤ 1024)) =
    let a = c.args in
    let l = target_count (get_or a.bytes.now 0 0) (get_or a.bytes.now 1 0) number a.targets a.held fits in
    omega (arith, c.shared_slice_known-3-1.given 1) in
    omega (arith, few)

pub returns-then-bytes-name : goal.returns-then-bytes-name
returns-then-bytes-name c =
    let number = c.little_endian-count.result in
    let fits = sym c.target_fits.ensures ∙ c.if-not-target_fits.false in
    let few : (let a = c.args in (get_or a.bytes.now 1 0 < 256) × (a.held + number ≤ 1024)) =
    let a = c.args in
    let l = target_count (get_or a.bytes.now 0 0) (get_or a.bytes.now 1 0) number a.targets a.held fits in
    omega (arith, c.shared_slice_known-3-1.given 1) in
    λ k m h.
    let a = c.args in
    target_short k a.bytes.now _ _ number a.targets a.held m h (omega arith) refl refl c.little_endian-count.ensures fits (omega arith) (omega (arith, few))

pub returns-then-not-is_name : goal.returns-then-not-is_name
returns-then-not-is_name c =
    let number = c.little_endian-count.result in
    let fits = sym c.target_fits.ensures ∙ c.if-not-target_fits.false in
    λ k m h.
    let a = c.args in
    target_misnamed k a.bytes.now _ _ number a.targets a.held m h (omega arith) refl refl c.little_endian-count.ensures fits (omega arith) (6 + get_or a.bytes.now 1 0 - 6) (omega arith) (sym c.is_name.ensures ∙ c.if-not-is_name.true)

pub returns : goal.returns
returns c =
    let number = c.little_endian-count.result in
    let fits = sym c.target_fits.ensures ∙ c.if-not-target_fits.false in
    let few : (let a = c.args in (get_or a.bytes.now 1 0 < 256) × (a.held + number ≤ 1024)) =
    let a = c.args in
    let l = target_count (get_or a.bytes.now 0 0) (get_or a.bytes.now 1 0) number a.targets a.held fits in
    omega (arith, c.shared_slice_known-3-1.given 1) in
    λ k m h.
    let a = c.args in
    let l = get_or a.bytes.now 1 0 in
    (target_read k a.bytes.now (get_or a.bytes.now 0 0) l number a.targets a.held m h (omega arith) refl refl c.little_endian-count.ensures fits (omega arith) (6 + l - 6) (omega arith) (sym c.is_name.ensures ∙ c.if-not-is_name.false), target_within k a.bytes.now (get_or a.bytes.now 0 0) l number a.targets a.held m h (omega arith) refl refl c.little_endian-count.ensures fits few.0)
