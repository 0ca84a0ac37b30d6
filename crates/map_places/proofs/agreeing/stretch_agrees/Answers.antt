use mathlib.Core.Path.{◌≡◌, ap, ◌∙◌}
use native.Mathlib.Omega.{arith}
use Rattle.bases.specs.Read.{oriented}
use Rattle.map_places.specs.Agreeing.{agreeing, stretch}
use Rattle.map_places.proofs.Alike.{letters_there}
use Rattle.map_places.proofs.agreeing.stretch_agrees.Goals as goal

pub oriented_agrees-agree-requires : goal.oriented_agrees-agree-requires
oriented_agrees-agree-requires c = letters_there c.args.sequence.now c.args.at c.args.read.now c.args.from stretch c.requires c.loop-k.k c.loop-k-test.true

pub returns : goal.returns
returns c =
    let a = c.args in
    let l = c.loop-k in
    let e : l.k ≡ stretch = omega (arith, c.loop-k-test.false) in
    l.invariant ∙ ap (λ n. agreeing n a.sequence.now a.at (oriented a.strand a.read.now) a.from) e
