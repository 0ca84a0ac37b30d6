-- The keys of an index, and the postings of a key.
use mathlib.Core.Path.{◌≡◌, sym, ◌∙◌}
use mathlib.Core.Logic.{◌⊎◌, inl, inr}
use mathlib.Core.List.{List}
use Prim.Native.Nat.{ℕ, ◌-◌, ◌<◌, ◌≤◌}
use native.Mathlib.Omega.{arith}
use lib.ListN.{length, get_or, take, drop, length-map}
use lib.Dec.{eqb}
use borrow.Author.Tests.{eq-eqb, ne_eqb}
use Rattle.lists.proofs.Filter.{filter_range}
use Rattle.lists.proofs.Order.{ascending_at}
use Rattle.lists.proofs.Places.{get_or-map}
use Rattle.lists.proofs.Triple.{test_before}
use Rattle.index_columns.specs.Posting.{Posting, triple, earlier}
use Rattle.index_columns.proofs.Rows.{none}
use Rattle.index_seeds.specs.Seeds.{keys_of}
use Rattle.index_lookup.specs.Range.{Rising, RangeOf}
use Rattle.index_model.specs.Index.{hits, index_of}
use Rattle.index_model.proofs.Indexing.{index_ascending}

-- the keys of an index do not fall
pub index_rising : (q : ℕ) (ss : List (List ℕ)) → Rising (keys_of (index_of q ss))
index_rising q ss i j h k =
    let n = length-map (index_of q ss) (λ (p : Posting). p.key) in
    let e = get_or-map (λ (p : Posting). p.key) none 0 (index_of q ss) i (omega arith) in
    let f = get_or-map (λ (p : Posting). p.key) none 0 (index_of q ss) j (omega arith) in
    rw (e, f) (go (test_before (triple (get_or (index_of q ss) i none)) (triple (get_or (index_of q ss) j none)) (ascending_at earlier none (index_of q ss) (index_ascending q ss) i j h (omega arith))))
  where
    go : {m n : ℕ} {B : Type 0} → (m < n) ⊎ ((m ≡ n) × B) → m ≤ n
    go (inl l) = omega arith
    go (inr l) = omega arith

-- the part of an index between start and end of a key is its hits
pub range_hits : (key start end : ℕ) (ps : List Posting) → RangeOf (keys_of ps) key start end → hits key ps ≡ take (end - start) (drop start ps)
range_hits key start end ps r =
    filter_range (λ (p : Posting). eqb p.key key) none start (end - start) ps (omega (arith, n, r.ordered, r.inside))
    (λ i h. ne_eqb _ key (λ e. let b = r.before i h in omega (arith, at i (omega (arith, n, r.inside, r.ordered)))))
    (λ i h k. eq-eqb _ key (sym (at i (omega (arith, n, r.inside, r.ordered))) ∙ r.among i h (omega (arith, r.ordered))))
    (λ i h k. ne_eqb _ key (λ e. let a = r.after i (omega (arith, r.ordered)) (omega (arith, n)) in omega (arith, at i k)))
  where
    n : length (keys_of ps) ≡ length ps
    n = length-map ps (λ (p : Posting). p.key)

    at : (i : ℕ) → i < length ps → get_or (keys_of ps) i 0 ≡ (get_or ps i none).key
    at i h = get_or-map (λ (p : Posting). p.key) none 0 ps i h
