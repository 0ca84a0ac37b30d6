use mathlib.Core.Path.{sym, ◌∙◌}
use native.Mathlib.Omega.{arith}
use Rattle.bases.specs.Read.{oriented}
use Rattle.map_places.specs.Agreeing.{stretch}
use Rattle.map_places.proofs.Alike.{agree_more}
use Rattle.map_places.proofs.agreeing.whole_stretches.Goals as goal

pub loop-k-preserved : goal.loop-k-preserved
loop-k-preserved c =
    let a = c.args in
    let l = c.loop-k in
    record {
      few = omega (arith, c.loop-k-test.true);
      agree = agree_more a.sequence.now a.at (oriented a.strand a.read.now) a.from l.k stretch l.invariant.agree (sym c.stretch_agrees.ensures ∙ c.if-not-stretch_agrees.false);
    }
