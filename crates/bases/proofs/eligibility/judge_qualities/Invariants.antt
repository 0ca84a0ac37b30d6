-- `bases::eligibility::judge_qualities` meets its contract. The invariant: the verdict on the bytes from here on is the verdict on all.
use mathlib.Core.Path.{◌≡◌}
use lib.ListN.{drop}
use Rattle.bases.specs.Eligibility.{qualities_test}
use Rattle.bases.proofs.eligibility.judge_qualities.Given as goal

abbrev pub invariant-loop-q : goal.invariant-loop-q
invariant-loop-q l = qualities_test l.floor l.offset l.qualities ≡ qualities_test l.floor l.offset (drop l.q-index l.qualities)
