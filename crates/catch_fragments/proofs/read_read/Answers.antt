-- `catch_fragments::read_read` meets its contract: the code, then the head is judged, then there are enough bytes.
use mathlib.Core.Path.{refl, sym, ◌∙◌}
use Prim.Native.Nat.{◌+◌, ◌-◌, ◌≤◌}
use native.Mathlib.Omega.{arith}
use lib.ListN.{get_or}
use Rattle.catch_fragments.proofs.Mates.{read_most, qualities_most, read_none, no_read, read_headless, read_refused, read_short, read_found}
use Rattle.catch_fragments.proofs.read_read.Goals as goal

pub returns-then-left-lt1 : goal.returns-then-left-lt1
returns-then-left-lt1 c = let a = c.args in read_none a.bytes.now a.at (omega arith)

pub returns-then-bytes-at-ne4 : goal.returns-then-bytes-at-ne4
returns-then-bytes-at-ne4 c = let a = c.args in no_read a.bytes.now a.at (omega arith) (λ e. omega arith)

pub returns-then-left-lt7 : goal.returns-then-left-lt7
returns-then-left-lt7 c = let a = c.args in read_headless a.bytes.now a.at (omega arith) (omega arith) (omega arith)

pub returns-then-not-read_fits : goal.returns-then-not-read_fits
returns-then-not-read_fits c =
    let a = c.args in
    read_refused a.bytes.now a.at _ _ c.little_endian-length.result (a.at + 7 - (a.at + 3)) (omega arith) (omega arith) refl refl c.little_endian-length.ensures (omega arith) (sym c.read_fits.ensures ∙ c.if-not-read_fits.true)

pub overflow_add-count : goal.overflow_add-count
overflow_add-count c =
    let number = c.little_endian-length.result in
    let fits = sym c.read_fits.ensures ∙ c.if-not-read_fits.false in
    let few : ((number ≤ 4096) × (c.quality_count-qualities.result ≤ number)) =
    let a = c.args in
    let m = read_most (get_or a.bytes.now (a.at + 1) 0) (get_or a.bytes.now (a.at + 2) 0) number fits in
    let q = qualities_most (get_or a.bytes.now (a.at + 2) 0) number in
    omega (arith, c.quality_count-qualities.ensures) in
    omega (arith, few)

pub returns-then-left-count : goal.returns-then-left-count
returns-then-left-count c =
    let number = c.little_endian-length.result in
    let fits = sym c.read_fits.ensures ∙ c.if-not-read_fits.false in
    let few : ((number ≤ 4096) × (c.quality_count-qualities.result ≤ number)) =
    let a = c.args in
    let m = read_most (get_or a.bytes.now (a.at + 1) 0) (get_or a.bytes.now (a.at + 2) 0) number fits in
    let q = qualities_most (get_or a.bytes.now (a.at + 2) 0) number in
    omega (arith, c.quality_count-qualities.ensures) in
    let a = c.args in
    read_short a.bytes.now a.at _ _ number (a.at + 7 - (a.at + 3)) (omega arith) (omega arith) refl refl c.little_endian-length.ensures (omega arith) fits _ c.quality_count-qualities.ensures (omega (arith, few))

pub returns : goal.returns
returns c =
    let number = c.little_endian-length.result in
    let fits = sym c.read_fits.ensures ∙ c.if-not-read_fits.false in
    let few : ((number ≤ 4096) × (c.quality_count-qualities.result ≤ number)) =
    let a = c.args in
    let m = read_most (get_or a.bytes.now (a.at + 1) 0) (get_or a.bytes.now (a.at + 2) 0) number fits in
    let q = qualities_most (get_or a.bytes.now (a.at + 2) 0) number in
    omega (arith, c.quality_count-qualities.ensures) in
    let a = c.args in
    read_found a.bytes.now a.at (get_or a.bytes.now (a.at + 1) 0) (get_or a.bytes.now (a.at + 2) 0) number (a.at + 7 - (a.at + 3)) (omega arith) (omega arith) refl refl c.little_endian-length.ensures (omega arith) fits _ c.quality_count-qualities.ensures _ (omega (arith, few)) (omega arith) (omega arith) (omega arith) c.role_of.ensures refl
