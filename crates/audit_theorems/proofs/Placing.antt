-- Placements in the entries of a read: those of its listed groups, and those of the groups turned round.
use mathlib.Core.Path.{◌≡◌, refl, ap, ◌∙◌}
use mathlib.Core.Bool.{Bool, true, false, cond}
use mathlib.Core.Logic.{inl, inr}
use mathlib.Core.List.{List, [], ◌∷◌, ◌++◌, map}
use Prim.Native.Nat.{ℕ, ◌+◌, ◌<◌}
use native.Mathlib.Omega.{arith}
use lib.ListN.{length, get_or}
use Rattle.lists.specs.Member.{◌∈◌}
use Rattle.lists.specs.Sort.{insert, sort}
use Rattle.lists.proofs.Member.{map-∈}
use Rattle.lists.proofs.Sort.{sort-∈}
use Rattle.catalogue.specs.Catalogue.{Catalogue, Valid, mapped, supplied_places}
use Rattle.map_places.specs.Place.{Place, before, swapped}
use Rattle.map_every_start.specs.Entries.{entries_of}
use Rattle.indexed_mapper.specs.Laws.{turned_groups}
use Rattle.indexed_mapper.proofs.Matching.{rank_is}
use Rattle.audit_theorems.specs.Placements.{Placement, placements_in, placed_before, other_strand, turned_placements}

-- ---- sorting and maps

module _ {A B : Type 0} (less : A → A → Bool) (below : B → B → Bool) (f : A → B) where
  insert_map : (x : A) (ys : List A) → ((y : A) → y ∈ ys → below (f x) (f y) ≡ less x y) → map f (insert less x ys) ≡ insert below (f x) (map f ys)
  insert_map x [] h = refl
  insert_map x (y ∷ ys) h = rw (h y (inl refl)) (go (less x y) (insert_map x ys (λ z m. h z (inr m))))
    where
      go : (b : Bool) → map f (insert less x ys) ≡ insert below (f x) (map f ys) → map f (cond b (x ∷ y ∷ ys) (y ∷ insert less x ys)) ≡ cond b (f x ∷ f y ∷ map f ys) (f y ∷ insert below (f x) (map f ys))
      go true ih = refl
      go false ih = ap {B = List B} (λ l. f y ∷ l) ih

  -- a map that keeps the order of a list's elements may go first
  sort_map : (xs : List A) → ((x y : A) → x ∈ xs → y ∈ xs → below (f x) (f y) ≡ less x y) → map f (sort less xs) ≡ sort below (map f xs)
  sort_map [] h = refl
  sort_map (x ∷ xs) h = insert_map x (sort less xs) (λ y m. h x y (inl refl) (inr (sort-∈ less y xs m))) ∙ ap (insert below (f x)) (sort_map xs (λ u v m k. h u v (inr m) (inr k)))

-- ---- entries

-- the placement of a group of a read of n bases
abbrev pub placement_of : List ℕ → ℕ → Place → Placement
placement_of ranked n p = record { target = get_or ranked p.rank 0; start = p.start; end = p.start + n; strand = p.strand }

-- the entries of groups hold their placements, whatever stands behind them
pub placements_listed : (ranked : List ℕ) (n : ℕ) (gs : List Place) (rest : List ℕ) → placements_in (length gs) (entries_of ranked n gs ++ rest) ≡ map (placement_of ranked n) gs
placements_listed ranked n [] rest = refl
placements_listed ranked n (p ∷ ps) rest = ap {B = List Placement} (λ l. placement_of ranked n p ∷ l) (placements_listed ranked n ps rest)

-- ---- groups turned round

module _ (c : Catalogue) (valid : Valid c) (n : ℕ) where
  abbrev shown : Place → Placement
  shown p = placement_of (supplied_places c) n p

  -- placements are in order as the groups are
  shown_order : (x y : Place) → x.rank < length (mapped c) → y.rank < length (mapped c) → placed_before c (shown x) (shown y) ≡ before x y
  shown_order x y h k = rw (rank_is c valid x.rank h, rank_is c valid y.rank k)

  shown-swapped : (gs : List Place) → map shown (map swapped gs) ≡ map other_strand (map shown gs)
  shown-swapped [] = refl
  shown-swapped (p ∷ ps) = ap {B = List Placement} (λ l. other_strand (shown p) ∷ l) (shown-swapped ps)

  -- the placements of the groups turned round are the placements turned round
  pub placements_turned : (gs : List Place) → ((p : Place) → p ∈ gs → p.rank < length (mapped c)) → map shown (turned_groups gs) ≡ turned_placements c (map shown gs)
  placements_turned gs h = sort_map before (placed_before c) shown (map swapped gs) (λ x y m k. shown_order x y (ranked x m) (ranked y k)) ∙ ap (sort (placed_before c)) (shown-swapped gs)
    where
      ranked : (x : Place) → x ∈ map swapped gs → x.rank < length (mapped c)
      ranked x m = let r = map-∈ swapped x gs m in omega (arith, h r.0 r.1, ap (λ (p : Place). p.rank) r.2)
