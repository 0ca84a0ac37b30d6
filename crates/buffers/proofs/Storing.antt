-- Lists placed in a buffer, one after the other.
use mathlib.Core.Path.{◌≡◌, sym, ap, ap₂, ◌∙◌}
use mathlib.Core.List.{List, [], ◌∷◌, ◌++◌, append_assoc, append-nil}
use Prim.Native.Nat.{ℕ, suc, ◌+◌, ◌<◌, ◌≤◌}
use native.Mathlib.Omega.{arith}
use native.Mathlib.Nat.{add-zero}
use lib.ListN.{length, get_or, take, drop, set, length-append, length-drop, take-append-drop}
use lib.Seq.{drop-cons, set_at, append_snoc, length-take-le, take_at, drop_at, drop-drop}
use Rattle.buffers.specs.Placed.{placed}

module _ (at : ℕ) where
  pub placed_none : (b : List ℕ) → b ≡ placed at [] b
  placed_none b = rw (append-nil, add-zero) (sym (take-append-drop at b))

  module _ (xs b : List ℕ) where
    front : at + length xs ≤ length b → length (take at b ++ xs) ≡ at + length xs
    front h = length-append (take at b) xs ∙ ap (λ n. n + length xs) (length-take-le at b (omega arith))

    pub length-placed : at + length xs ≤ length b → length (placed at xs b) ≡ length b
    length-placed h =
        let e = length-append (take at b ++ xs) (drop (at + length xs) b) in
        let d = length-drop (at + length xs) b in
        omega (arith, front h)

    -- one number more
    pub placed_snoc : (v : ℕ) → at + length xs < length b → set (placed at xs b) (at + length xs) v ≡ placed at (xs ++ (v ∷ [])) b
    placed_snoc v h =
        let n : suc (at + length xs) ≡ at + length (xs ++ (v ∷ [])) = omega (arith, length-append xs (v ∷ [])) in
        ap (λ l. set (take at b ++ xs ++ l) (at + length xs) v) (drop-cons b (at + length xs) 0 h)
        ∙ set_at (take at b ++ xs) (get_or b (at + length xs) 0) (drop (suc (at + length xs)) b) v (at + length xs) (front (omega arith))
        ∙ sym (append_snoc (take at b ++ xs) v (drop (suc (at + length xs)) b))
        ∙ ap₂ (λ l n. l ++ drop n b) (append_assoc (take at b) xs (v ∷ [])) n

    -- the same of a buffer c that holds them, at a place i that is told
    pub placed_next : (c : List ℕ) (v i : ℕ) → i ≡ at + length xs → c ≡ placed at xs b → i < length b → set c i v ≡ placed at (xs ++ (v ∷ [])) b
    placed_next c v i k e h = ap₂ (λ l n. set l n v) e k ∙ placed_snoc v (omega arith)

    -- a second list behind the first
    pub placed-placed : (ys : List ℕ) → at + length xs + length ys ≤ length b → placed (at + length xs) ys (placed at xs b) ≡ placed at (xs ++ ys) b
    placed-placed ys h =
        let p : List ℕ = take at b ++ xs in
        let t : take (at + length xs) (placed at xs b) ≡ p = take_at p (drop (at + length xs) b) (at + length xs) (front (omega arith)) in
        let d : drop (at + length xs + length ys) (placed at xs b) ≡ drop (at + length xs + length ys) b =
        sym (drop-drop (length ys) (at + length xs) (placed at xs b)) ∙ ap (drop (length ys)) (drop_at p (drop (at + length xs) b) (at + length xs) (front (omega arith))) ∙ drop-drop (length ys) (at + length xs) b in
        let n : at + length xs + length ys ≡ at + length (xs ++ ys) = omega (arith, length-append xs ys) in
        ap₂ (λ l r. l ++ ys ++ r) t d ∙ ap₂ (λ l m. l ++ drop m b) (append_assoc (take at b) xs ys) n

  -- a single number
  pub placed_one : (v : ℕ) (b : List ℕ) → at < length b → set b at v ≡ placed at (v ∷ []) b
  placed_one v b h = placed_next [] b b v at (omega arith) (placed_none b) h
