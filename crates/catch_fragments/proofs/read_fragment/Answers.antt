-- `catch_fragments::read_fragment` meets its contract: the count is judged, then there are as many reads.
use mathlib.Core.Path.{refl}
use native.Mathlib.Omega.{arith}
use lib.ListN.{get_or}
use Rattle.catch_fragments.proofs.Fragments.{fragment_headless, fragment_refused, fragment_none, fragment_told}
use Rattle.catch_fragments.proofs.read_fragment.Goals as goal

pub returns-then-bytes-lt9 : goal.returns-then-bytes-lt9
returns-then-bytes-lt9 c = fragment_headless _ (omega arith)

pub overflow_cast-count : goal.overflow_cast-count
overflow_cast-count c = omega (arith, c.shared_slice_known-2-1.given 8)

pub returns-then-count-gt2 : goal.returns-then-count-gt2
returns-then-count-gt2 c = let b = c.args.bytes.now in fragment_refused b (get_or b 8 0) _ (omega arith) refl c.little_endian-ordinal.ensures (omega arith)

pub returns-then-count-eq0 : goal.returns-then-count-eq0
returns-then-count-eq0 c =
    let b = c.args.bytes.now in
    (fragment_none b (get_or b 8 0) _ (omega arith) refl c.little_endian-ordinal.ensures (omega arith) (omega arith) _ _, omega arith, omega arith)

pub returns : goal.returns
returns c =
    let b = c.args.bytes.now in
    fragment_told b (get_or b 8 0) _ (omega arith) refl c.little_endian-ordinal.ensures (omega arith) c.read_reads.result c.read_reads.ensures
