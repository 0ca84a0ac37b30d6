-- The targets of listed groups: they stand in the entries, and those of one target stand together.
use mathlib.Core.Path.{◌≡◌, refl, sym, ap, ap₂, ◌∙◌}
use mathlib.Core.Bool.{Bool, true, false, not, ◌&&◌, true≢false}
use mathlib.Core.Logic.{inl, inr}
use mathlib.Core.List.{List, [], ◌∷◌, ◌++◌}
use Prim.Native.Nat.{ℕ, zero, suc, ◌-◌, ◌*◌, ◌≤◌, ◌<◌}
use native.Mathlib.Omega.{arith}
use lib.ListN.{length, get_or, take, drop}
use lib.Seq.{get_or-take}
use lib.Dec.{eqb, ltb}
use borrow.Author.Tests.{eqb-true, eqb-false, ltb-true}
use Rattle.lists.specs.Filter.{cons_if, every}
use Rattle.lists.specs.Member.{◌∈◌, Distinct}
use Rattle.lists.specs.Order.{Ascending}
use Rattle.lists.proofs.Cases.{by_test}
use Rattle.lists.proofs.Member.{map-∈}
use Rattle.lists.proofs.Places.{drop-take}
use Rattle.map_places.specs.Place.{Place, before}
use Rattle.map_every_start.specs.Entries.{entries_of}
use Rattle.audit_ledger.specs.Booking.{targets_of, is_in, distinct}
use Rattle.audit_ledger.proofs.Targets.{distinct-get_or}
use Rattle.audit_counters.specs.Targets.{targets_in, run_ends}

-- ---- in the entries

-- the targets of listed groups are those of the entries at whose front they stand
pub targets-listed : (ranked : List ℕ) (n : ℕ) (gs : List Place) (rest : List ℕ) → targets_in (length gs) (entries_of ranked n gs ++ rest) ≡ targets_of ranked gs
targets-listed ranked n [] rest = refl
targets-listed ranked n (p ∷ gs) rest = ap {B = List ℕ} (λ l. get_or ranked p.rank 0 ∷ l) (targets-listed ranked n gs rest)

-- they are read off the front alone
pub targets_front : (n m : ℕ) (b : List ℕ) → 4 * n ≤ m → targets_in n (take m b) ≡ targets_in n b
targets_front zero m b h = refl
targets_front (suc n) m b h =
    let k : 4 * n ≤ m - 4 = omega arith in
    ap₂ {C = List ℕ} (λ x l. x ∷ l) (get_or-take m b 0 0 (omega arith)) (ap (targets_in n) (drop-take 4 m b) ∙ targets_front n (m - 4) (drop 4 b) k)

-- ---- runs

-- equal numbers stand together: one that differs from the next does not come again
abbrev pub Grouped : List ℕ → Type 0
Grouped [] = Unit {0}
Grouped (x ∷ []) = Unit {0}
Grouped (x ∷ y ∷ ys) = ((x ≡ y → ⊥) → x ∈ (y ∷ ys) → ⊥) × Grouped (y ∷ ys)

-- a number that stands in a list is told to
in_told : (x : ℕ) (ys : List ℕ) → is_in x ys ≡ true → x ∈ ys
in_told x [] e = absurd (true≢false (sym e))
in_told x (y ∷ ys) e = go (eqb x y) refl e (in_told x ys)
  where
    go : (b : Bool) → eqb x y ≡ b → not (not b && every (λ z. not (eqb x z)) ys) ≡ true → (is_in x ys ≡ true → x ∈ ys) → x ∈ (y ∷ ys)
    go true d f ih = inl (eqb-true x y d)
    go false d f ih = inr (ih f)

-- then the ends of runs are the distinct numbers
pub runs_distinct : (ts : List ℕ) → Grouped ts → run_ends ts ≡ distinct ts
runs_distinct [] g = refl
runs_distinct (x ∷ []) g = refl
runs_distinct (x ∷ y ∷ ys) g = go (eqb x y) refl (runs_distinct (y ∷ ys) g.1)
  where
    none : (b : Bool) → is_in x (y ∷ ys) ≡ b → eqb x y ≡ false → b ≡ false
    none true e d = absurd (g.0 (eqb-false x y d) (in_told x (y ∷ ys) e))
    none false e d = refl

    go : (b : Bool) → eqb x y ≡ b → run_ends (y ∷ ys) ≡ distinct (y ∷ ys) → cons_if (not b) x (run_ends (y ∷ ys)) ≡ cons_if (not (is_in x (y ∷ ys))) x (distinct (y ∷ ys))
    go true d ih = ih ∙ sym (ap (λ t. cons_if (not (not (not t && every (λ z. not (eqb x z)) ys))) x (distinct (y ∷ ys))) d)
    go false d ih = ap (λ l. x ∷ l) ih ∙ sym (ap (λ t. cons_if (not t) x (distinct (y ∷ ys))) (none (is_in x (y ∷ ys)) refl d))

-- ---- the groups of a read

-- they ascend by rank, so that those of one target stand together
pub groups_grouped : (ranked : List ℕ) → Distinct ranked → (gs : List Place) → Ascending before gs → ((p : Place) → p ∈ gs → p.rank < length ranked) → Grouped (targets_of ranked gs)
groups_grouped ranked d [] a inside = tt
groups_grouped ranked d (p ∷ []) a inside = tt
groups_grouped ranked d (p ∷ q ∷ gs) a inside = (apart, groups_grouped ranked d (q ∷ gs) a.1 (λ r m. inside r (inr m)))
  where
    -- the rank of a later place is no less
    no_less : (x y : Place) → before x y ≡ true → x.rank ≤ y.rank
    no_less x y e = by_test (ltb x.rank y.rank) (λ t. omega (arith, ltb-true x.rank y.rank t)) (λ t. equal t)
      where
        equal : ltb x.rank y.rank ≡ false → x.rank ≤ y.rank
        equal t = by_test (eqb x.rank y.rank) (λ u. omega (arith, eqb-true x.rank y.rank u)) (λ u. absurd (true≢false (sym (rw (t, u) at e))))

    later : (r : Place) → r ∈ (q ∷ gs) → q.rank ≤ r.rank
    later r (inl e) = omega (arith, ap (λ (z : Place). z.rank) e)
    later r (inr m) = no_less q r (a.1.0 r m)

    apart : (get_or ranked p.rank 0 ≡ get_or ranked q.rank 0 → ⊥) → get_or ranked p.rank 0 ∈ targets_of ranked (q ∷ gs) → ⊥
    apart ne m =
        let r = map-∈ (λ (z : Place). get_or ranked z.rank 0) (get_or ranked p.rank 0) (q ∷ gs) m in
        let same : p.rank ≡ r.0.rank = distinct-get_or ranked d p.rank r.0.rank (inside p (inl refl)) (inside r.0 (inr r.1)) r.2 in
        let less : p.rank ≤ q.rank = no_less p q (a.0 q (inl refl)) in
        let e : p.rank ≡ q.rank = omega (arith, same, less, later r.0 r.1) in
        ne (ap (λ n. get_or ranked n 0) e)
