-- The bases behind postings, one posting after the other.
use mathlib.Core.Path.{◌≡◌, subst}
use mathlib.Core.List.{List, []}
use Prim.Native.Nat.{ℕ, ◌+◌, ◌≤◌}
use native.Mathlib.Omega.{arith}
use lib.ListN.{get_or}
use lib.Dec.{ltb}
use borrow.Author.Tests.{ltb-true, ltb-false}
use Rattle.lists.proofs.Cases.{by_test}
use Rattle.map_places.proofs.Alike.{agree_each, each_agree}
use Rattle.map_rarest_seed.specs.Shown.{GoesOn, Shown, Behind}

-- fewer bases
goes_less : (q : ℕ) (s : List ℕ) (position : ℕ) (b : List ℕ) (o r k : ℕ) → GoesOn q s position b o r → k ≤ r → GoesOn q s position b o k
goes_less q s position b o r k g h =
    record { inside = omega (arith, g.inside); agree = each_agree s (position + q) b (o + q) k (λ m l. agree_each s (position + q) b (o + q) r g.agree m (omega arith)) }

-- one posting more
pub shown_more : (q : ℕ) (ss : List (List ℕ)) (rs os b : List ℕ) (o start i most left : ℕ) → Shown q ss rs os b o start i most left → (rank position : ℕ) → rank ≡ get_or rs i 0 → position ≡ get_or os i 0
    → (r : ℕ) → Behind q ss rank position b o left r → Shown q ss rs os b o start (i + 1) most r
shown_more q ss rs os b o start i most left g rank position e f r t =
    record {
      few = omega (arith, t.few, g.few);
      each = λ j k l. by_test (ltb j i)
          (λ u. goes_less q (get_or ss (get_or rs j 0) []) (get_or os j 0) b o left r (g.each j k (ltb-true j i u)) t.few)
          (λ u. (let same : i ≡ j = omega (arith, ltb-false j i u) in
          subst (λ x. GoesOn q (get_or ss (get_or rs x 0) []) (get_or os x 0) b o r) same (rw (← e, ← f) t.goes_on)));
    }
