-- An index has no more postings than its targets have bases.
use mathlib.Core.Path.{◌≡◌, refl, ap, ◌∙◌}
use mathlib.Core.Bool.{Bool, true, false, ◌&&◌}
use mathlib.Core.List.{List, [], ◌∷◌, map, Permᴰ}
use Prim.Native.Nat.{ℕ, suc, ◌+◌, ◌-◌, ◌≤◌}
use native.Mathlib.Omega.{arith}
use lib.ListN.{length, drop, length-append, length-take, length-drop}
use lib.Dec.{leb}
use borrow.Author.Tests.{leb-true}
use Rattle.lists.specs.Cut.{cut_from, ends_within}
use Rattle.lists.specs.Filter.{cons_if, filter}
use Rattle.lists.proofs.Cases.{and-true}
use Rattle.lists.proofs.Permutation.{sort_permutes}
use Rattle.catalogue.specs.Catalogue.{Catalogue, Target, names, sequences, targets_from, targets, is_mapped, by_name, mapped}
use Rattle.index_seeds.specs.Window.{starts}
use Rattle.index_seeds.specs.Seeds.{seeds}
use Rattle.index_seeds.proofs.Storing.{length-seeds}
use Rattle.index_model.specs.Index.{all_seeds, mapped_sequences, index}
use Rattle.index_model.proofs.Indexing.{length-index}

-- ---- lengths summed

abbrev sum_by : {A : Type 0} → (A → ℕ) → List A → ℕ
sum_by f [] = 0
sum_by f (x ∷ xs) = f x + sum_by f xs

permuted_sum : {A : Type 0} (f : A → ℕ) {xs ys : List A} → Permᴰ xs ys → sum_by f xs ≡ sum_by f ys
permuted_sum f Permᴰ.nil = refl
permuted_sum f (Permᴰ.cons e d) = omega (arith, ap f e, permuted_sum f d)
permuted_sum f (Permᴰ.swap {l = l} e g) = omega (arith, ap f e, ap f g)
permuted_sum f (Permᴰ.trans d e) = permuted_sum f d ∙ permuted_sum f e

filter_sum : {A : Type 0} (f : A → ℕ) (p : A → Bool) (xs : List A) → sum_by f (filter p xs) ≤ sum_by f xs
filter_sum f p [] = omega arith
filter_sum f p (x ∷ xs) = go (p x) (filter_sum f p xs)
  where
    go : (b : Bool) → sum_by f (filter p xs) ≤ sum_by f xs → sum_by f (cons_if b x (filter p xs)) ≤ f x + sum_by f xs
    go true h = omega arith
    go false h = omega arith

-- ---- the postings of sequences

seeds_few : (q r : ℕ) (s : List ℕ) → 1 ≤ q → length (seeds q r s) ≤ length s
seeds_few q r s some = omega (arith, length-seeds q r s 0 (starts q s))

all_few : (q r : ℕ) (ss : List (List ℕ)) → 1 ≤ q → length (all_seeds q r ss) ≤ sum_by length ss
all_few q r [] some = omega arith
all_few q r (s ∷ ss) some = omega (arith, length-append (seeds q r s) (all_seeds q (suc r) ss), seeds_few q r s some, all_few q (suc r) ss some)

-- ---- the sequences of a catalogue

-- sequences that lie within bytes have no more elements than these behind the first one's start
cut_few : (from : ℕ) (ends bytes : List ℕ) → ends_within from (length bytes) ends ≡ true → from ≤ length bytes → sum_by length (cut_from from ends bytes) + from ≤ length bytes
cut_few from [] bytes right within = omega arith
cut_few from (e ∷ es) bytes right within =
    let a = and-true (leb from e && leb e (length bytes)) (ends_within e (length bytes) es) right in
    let b = and-true (leb from e) (leb e (length bytes)) a.0 in
    let low = leb-true from e b.0 in
    let high = leb-true e (length bytes) b.1 in
    omega (arith, length-take (e - from) (drop from bytes), length-drop from bytes, cut_few e es bytes a.1 high)

-- targets have the sequences that are supplied
targets-sum : (k : ℕ) (ns ss : List (List ℕ)) (ms : List ℕ) → sum_by (λ (t : Target). length t.bases) (targets_from k ns ss ms) ≤ sum_by length ss
targets-sum k [] ss ms = omega arith
targets-sum k (n ∷ ns) [] ms = omega arith
targets-sum k (n ∷ ns) (s ∷ ss) [] = omega arith
targets-sum k (n ∷ ns) (s ∷ ss) (m ∷ ms) = omega (arith, targets-sum (suc k) ns ss ms)

map-sum : {A : Type 0} (f : A → List ℕ) (xs : List A) → sum_by length (map f xs) ≡ sum_by (λ (x : A). length (f x)) xs
map-sum f [] = refl
map-sum f (x ∷ xs) = ap (λ n. length (f x) + n) (map-sum f xs)

module _ (c : Catalogue) (right : ends_within 0 (length c.bases) c.base_ends ≡ true) where
  mapped_few : sum_by length (mapped_sequences c) ≤ length c.bases
  unfolding mapped
  mapped_few =
      omega (
        arith,
        map-sum (λ (t : Target). t.bases) (mapped c),
        permuted_sum (λ (t : Target). length t.bases) (sort_permutes by_name (filter is_mapped (targets c))),
        filter_sum (λ (t : Target). length t.bases) is_mapped (targets c),
        targets-sum 0 (names c) (sequences c) c.marks,
        cut_few 0 c.base_ends c.bases right (omega arith),
      )

  pub index_few : (q : ℕ) → 1 ≤ q → length (index q c) ≤ length c.bases
  index_few q some = omega (arith, length-index q (mapped_sequences c), all_few q 0 (mapped_sequences c) some, mapped_few)
