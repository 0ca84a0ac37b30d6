-- Sequences with ends: how a loop over them goes on, and a sequence by its place.
use mathlib.Core.Path.{◌≡◌, refl, sym, ap, ◌∙◌}
use mathlib.Core.Bool.{Bool, true, false, ◌&&◌}
use mathlib.Core.List.{List, [], ◌∷◌}
use Prim.Native.Nat.{ℕ, zero, suc, ◌+◌, ◌-◌, ◌<◌, ◌≤◌}
use native.Mathlib.Omega.{arith}
use native.Mathlib.Numerals.{add-one}
use lib.ListN.{length, get_or, drop, length-take, length-drop, drop_of_length-le}
use lib.Seq.{drop-cons}
use lib.Dec.{leb}
use borrow.Author.Tests.{leb-true, le-leb, lt-leb}
use Rattle.lists.specs.Filter.{every}
use Rattle.lists.specs.Cut.{window, cut_from, cut, ends_within}
use Rattle.lists.proofs.Cases.{and-true}

-- what holds of an end, the one before it, and those behind it
abbrev pub EndAt : ℕ → ℕ → ℕ → List ℕ → Type 0
EndAt from most e es = (from ≤ e) × (e ≤ most) × (ends_within e most es ≡ true)

ends_split : (from most e : ℕ) (es : List ℕ) → ends_within from most (e ∷ es) ≡ true → EndAt from most e es
ends_split from most e es t =
    let u = and-true (leb from e && leb e most) (ends_within e most es) t in
    let v = and-true (leb from e) (leb e most) u.0 in
    (leb-true from e v.0, leb-true e most v.1, u.1)

-- the sequences and ends from place i on
module _ (from most : ℕ) (ends : List ℕ) (i : ℕ) (h : i < length ends) where
  pub ends_next : ends_within from most (drop i ends) ≡ true → EndAt from most (get_or ends i 0) (drop (i + 1) ends)
  ends_next t = rw add-one (ends_split from most (get_or ends i 0) (drop (suc i) ends) (rw (drop-cons ends i 0 h) at t))

  pub falls : get_or ends i 0 < from → ends_within from most (drop i ends) ≡ false
  falls k = rw (drop-cons ends i 0, lt-leb from (get_or ends i 0) k)

  module _ (least : from ≤ get_or ends i 0) where
    pub passes_most : most < get_or ends i 0 → ends_within from most (drop i ends) ≡ false
    passes_most k = rw (drop-cons ends i 0, le-leb from (get_or ends i 0) least, lt-leb (get_or ends i 0) most k)

    pub stays_within : get_or ends i 0 ≤ most → ends_within from most (drop i ends) ≡ ends_within (get_or ends i 0) most (drop (i + 1) ends)
    stays_within k = rw (add-one, drop-cons ends i 0, le-leb from (get_or ends i 0) least, le-leb (get_or ends i 0) most k)

pub cut_next : (from : ℕ) (ends bytes : List ℕ) (i : ℕ) → i < length ends → cut_from from (drop i ends) bytes ≡ window bytes from (get_or ends i 0 - from) ∷ cut_from (get_or ends i 0) (drop (i + 1) ends) bytes
cut_next from ends bytes i h = rw (add-one, drop-cons ends i 0)

pub length-window : (xs : List ℕ) (start n : ℕ) → start + n ≤ length xs → length (window xs start n) ≡ n
length-window xs start n h = simp (length-take, length-drop) (omega arith)

-- ends within a bound are within a larger one
pub ends_weaken : (from most more : ℕ) (es : List ℕ) → most ≤ more → ends_within from most es ≡ true → ends_within from more es ≡ true
ends_weaken from most more [] h t = refl
ends_weaken from most more (e ∷ es) h t =
    let k = ends_split from most e es t in
    rw (le-leb from e k.0, le-leb e more (omega arith)) (ends_weaken e most more es h k.2)

-- the start of the i-th sequence: the end before its own
abbrev pub start_of : ℕ → List ℕ → ℕ → ℕ
start_of from es i = get_or (from ∷ es) i 0

-- the end before the i-th, where i is not 0
pub start_before : (from : ℕ) (es : List ℕ) (i : ℕ) → (i ≡ 0 → ⊥) → get_or es (i - 1) 0 ≡ start_of from es i
start_before from es zero ne = absurd (ne refl)
start_before from es (suc i) ne = ap (λ n. get_or es n 0) (omega arith)

pub cut_at : (from : ℕ) (es bytes : List ℕ) (i : ℕ) → i < length es → get_or (cut_from from es bytes) i [] ≡ window bytes (start_of from es i) (get_or es i 0 - start_of from es i)
cut_at from [] bytes i h = absurd (omega arith)
cut_at from (e ∷ es) bytes zero h = refl
cut_at from (e ∷ es) bytes (suc i) h = cut_at e es bytes i (omega arith)

pub ends_at : (from most : ℕ) (es : List ℕ) → ends_within from most es ≡ true → (i : ℕ) → i < length es → (start_of from es i ≤ get_or es i 0) × (get_or es i 0 ≤ most)
ends_at from most [] t i h = absurd (omega arith)
ends_at from most (e ∷ es) t zero h = let k = ends_split from most e es t in (k.0, k.1)
ends_at from most (e ∷ es) t (suc i) h = ends_at e most es (ends_split from most e es t).2 i (omega arith)

pub length_cut : (from : ℕ) (es bytes : List ℕ) → length (cut_from from es bytes) ≡ length es
length_cut from [] bytes = refl
length_cut from (e ∷ es) bytes = ap suc (length_cut e es bytes)

-- a loop over all sequences, at place i: the answer for those from i on is the answer for all
pub record EveryFrom (p : List ℕ → Bool) (ends bytes : List ℕ) (from i : ℕ) : Type 0 where
  pub inside : i ≤ length ends
  pub same : every p (cut ends bytes) ≡ every p (cut_from from (drop i ends) bytes)
  pub right : ends_within from (length bytes) (drop i ends) ≡ true

module _ (p : List ℕ → Bool) (ends bytes : List ℕ) where
  pub every_start : ends_within 0 (length bytes) ends ≡ true → EveryFrom p ends bytes 0 0
  every_start t = record { inside = omega arith; same = refl; right = t }

  pub every_done : (from i : ℕ) → EveryFrom p ends bytes from i → length ends ≤ i → true ≡ every p (cut ends bytes)
  every_done from i s h = sym (s.same ∙ ap (λ es. every p (cut_from from es bytes)) (drop_of_length-le ends h))

  module _ (from i : ℕ) (s : EveryFrom p ends bytes from i) (h : i < length ends) where
    pub ends_here : EndAt from (length bytes) (get_or ends i 0) (drop (i + 1) ends)
    ends_here = ends_next from (length bytes) ends i h s.right

    pub length_here : length (window bytes from (get_or ends i 0 - from)) ≡ get_or ends i 0 - from
    length_here = let e = ends_here in length-window bytes from (get_or ends i 0 - from) (omega arith)

    pub every_stop : p (window bytes from (get_or ends i 0 - from)) ≡ false → false ≡ every p (cut ends bytes)
    every_stop e = sym (s.same ∙ rw (cut_next from ends bytes i h, e))

    pub every_go : p (window bytes from (get_or ends i 0 - from)) ≡ true → EveryFrom p ends bytes (get_or ends i 0) (i + 1)
    every_go e = record { inside = omega arith; same = s.same ∙ rw (cut_next from ends bytes i h, e); right = ends_here.2 }
