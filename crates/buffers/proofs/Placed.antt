-- A buffer with a list in the place of what stood there: what is before, at and behind it.
use mathlib.Core.Path.{◌≡◌, refl, sym, ap, ap₂, ◌∙◌}
use mathlib.Core.List.{List, ◌++◌, append_assoc}
use Prim.Native.Nat.{ℕ, ◌+◌, ◌-◌, ◌≤◌}
use native.Mathlib.Omega.{arith}
use lib.ListN.{length, take, drop, length-append, take-append-drop}
use lib.Seq.{length-take-le, take_at, drop_at, drop-drop, take-take, take-append-add}
use Rattle.lists.specs.Cut.{window}
use Rattle.lists.proofs.Cut.{length-window}
use Rattle.lists.proofs.Places.{drop-take}
use Rattle.buffers.specs.Placed.{placed}

-- a window is told by what stands before its end
pub window-before : (b b' : List ℕ) (start n k : ℕ) → start + n ≤ k → take k b ≡ take k b' → window b start n ≡ window b' start n
window-before b b' start n k h e = part b ∙ ap (drop start) (first b ∙ ap (take (start + n)) e ∙ sym (first b')) ∙ sym (part b')
  where
    part : (l : List ℕ) → window l start n ≡ drop start (take (start + n) l)
    part l = let m : n ≡ start + n - start = omega arith in ap (λ k. take k (drop start l)) m ∙ sym (drop-take start (start + n) l)

    first : (l : List ℕ) → take (start + n) l ≡ take (start + n) (take k l)
    first l = sym (take-take (start + n) k l h)

module _ (at : ℕ) (xs b : List ℕ) where
  -- what stands before it stays
  pub placed_front : at ≤ length b → take at (placed at xs b) ≡ take at b
  placed_front h = ap (take at) (append_assoc (take at b) xs (drop (at + length xs) b)) ∙ take_at (take at b) (xs ++ drop (at + length xs) b) at (length-take-le at b h)

  -- a window before it
  pub placed-before : at ≤ length b → (start n : ℕ) → start + n ≤ at → window (placed at xs b) start n ≡ window b start n
  placed-before h start n k = window-before (placed at xs b) b start n at k (placed_front h)

  -- it stands there, and then comes what lies behind it
  pub placed-from : at ≤ length b → drop at (placed at xs b) ≡ xs ++ drop (at + length xs) b
  placed-from h = ap (drop at) (append_assoc (take at b) xs (drop (at + length xs) b)) ∙ drop_at (take at b) (xs ++ drop (at + length xs) b) at (length-take-le at b h)

  -- the list itself
  pub placed_there : at ≤ length b → window (placed at xs b) at (length xs) ≡ xs
  placed_there h = ap (take (length xs)) (placed-from h) ∙ take_at xs (drop (at + length xs) b) (length xs) refl

  module _ (width : ℕ) (short : length xs ≤ width) (room : at + width ≤ length b) where
    -- a part of the buffer that is as long or longer holds it at the front
    pub placed_part : window (placed at xs b) at width ≡ placed 0 xs (window b at width)
    placed_part =
        let w : width ≡ length xs + (width - length xs) = omega arith in
        ap₂ take w (placed-from (omega arith)) ∙ take-append-add xs (drop (at + length xs) b) (width - length xs)
        ∙ ap (λ l. xs ++ take (width - length xs) l) (sym (drop-drop (length xs) at b)) ∙ ap (λ l. xs ++ l) (sym (drop-take (length xs) width (drop at b)))
        ∙ ap (λ n. xs ++ drop n (window b at width)) z
      where
        z : length xs ≡ 0 + length xs
        z = omega arith

    -- what lies behind such a part stays
    pub placed-behind : drop (at + width) (placed at xs b) ≡ drop (at + width) b
    placed-behind =
        let e : at + width ≡ at + length xs + (width - length xs) = omega arith in
        let f : length (take at b ++ xs) ≡ at + length xs = length-append (take at b) xs ∙ ap (λ n. n + length xs) (length-take-le at b (omega arith)) in
        ap (λ n. drop n (placed at xs b)) e ∙ sym (drop-drop (width - length xs) (at + length xs) (placed at xs b))
        ∙ ap (drop (width - length xs)) (drop_at (take at b ++ xs) (drop (at + length xs) b) (at + length xs) f)
        ∙ drop-drop (width - length xs) (at + length xs) b ∙ ap (λ n. drop n b) (sym e)

-- a part put where it was
pub placed_self : (from width : ℕ) (b : List ℕ) → from + width ≤ length b → placed from (window b from width) b ≡ b
placed_self from width b h =
    ap (λ n. (take from b ++ window b from width) ++ drop (from + n) b) (length-window b from width h)
    ∙ append_assoc (take from b) (window b from width) (drop (from + width) b)
    ∙ ap (λ l. take from b ++ (window b from width ++ l)) (sym (drop-drop width from b))
    ∙ ap (λ l. take from b ++ l) (take-append-drop width (drop from b))
    ∙ take-append-drop from b
