use mathlib.Core.Path.{sym, ◌∙◌}
use Prim.Native.Nat.{◌+◌}
use native.Mathlib.Omega.{arith}
use lib.ListN.{length}
use Rattle.map_places.proofs.Comparing.{compared_differ, compared_all}
use Rattle.map_places.proofs.stands_at.Goals as goal

pub returns-then-not-stretch_agrees : goal.returns-then-not-stretch_agrees
returns-then-not-stretch_agrees c =
    let a = c.args in
    sym (sym (compared_all a.sequence.now a.start a.read.now a.strand) ∙ compared_differ a.sequence.now a.start a.read.now a.strand (c.loop-i.i + 64) (length a.read.now) (omega (arith, c.loop-i-test.true)) (sym c.stretch_agrees.ensures ∙ c.if-not-stretch_agrees.true))

pub returns : goal.returns
returns c =
    let a = c.args in
    c.stretch_agrees-2.ensures ∙ compared_all a.sequence.now a.start a.read.now a.strand
