-- A list filtered in place: what a loop leaves at its front.
use mathlib.Core.Path.{◌≡◌, refl, sym, ap, ◌∙◌}
use mathlib.Core.Bool.{Bool, true, false, cond}
use mathlib.Core.List.{List, [], ◌∷◌, ◌++◌, append-nil}
use Prim.Native.Nat.{ℕ, ◌+◌, ◌<◌, ◌≤◌}
use native.Mathlib.Omega.{arith}
use native.Mathlib.Numerals.{add-one}
use lib.ListN.{length, get_or, take, drop, set, length-set, length-append}
use lib.Seq.{take-suc, take-suc-set, drop-set-lt, drop-drop, get_or-drop}
use lib.Dec.{ltb}
use borrow.Author.Tests.{ltb-true}
use Rattle.lists.specs.Filter.{filter, cons_if, every}
use Rattle.lists.proofs.Filter.{filter_append}
use Rattle.lists.proofs.Every.{every_at}
use Rattle.catalogue.specs.Ranking.{PlaceKept}

-- of the list `whole` the first i elements are filtered, and the first `kept` of the buffer are what passed
pub record Filtering (p : ℕ → Bool) (whole buffer : List ℕ) (kept i : ℕ) : Type 0 where
  pub inside : i ≤ length whole
  pub long : length buffer ≡ length whole
  pub fewer : kept ≤ i
  pub count : kept ≡ length (filter p (take i whole))
  pub front : take kept buffer ≡ filter p (take i whole)
  pub rest : drop i buffer ≡ drop i whole

module _ (p : ℕ → Bool) (whole buffer : List ℕ) (kept i : ℕ) (s : Filtering p whole buffer kept i) where
  -- the next element is still in its place
  pub element : get_or buffer i 0 ≡ get_or whole i 0
  element =
      ap (λ n. get_or buffer n 0) (omega arith) ∙ sym (get_or-drop i buffer 0 0) ∙ ap (λ l. get_or l 0 0) s.rest ∙ get_or-drop i whole 0 0 ∙ ap (λ n. get_or whole n 0) zero_more
    where
      zero_more : i + 0 ≡ i
      zero_more = omega arith

  filtering_step : i < length whole → (x : ℕ) → x ≡ get_or buffer i 0 → Filtering p whole (cond (p x) (set buffer kept x) buffer) (cond (p x) (kept + 1) kept) (i + 1)
  filtering_step h x e = go (p x) refl
    where
      taken : (b : Bool) → p x ≡ b → filter p (take (i + 1) whole) ≡ filter p (take i whole) ++ cons_if b x []
      taken b f =
          ap (λ n. filter p (take n whole)) (add-one i) ∙ ap (filter p) (take-suc whole i 0 h ∙ ap (λ y. take i whole ++ (y ∷ [])) (sym (e ∙ element)))
          ∙ filter_append p (take i whole) (x ∷ []) ∙ ap (λ t. filter p (take i whole) ++ cons_if t x []) f

      behind : drop (i + 1) buffer ≡ drop (i + 1) whole
      behind = sym (drop-drop 1 i buffer) ∙ ap (drop 1) s.rest ∙ drop-drop 1 i whole

      go : (b : Bool) → p x ≡ b → Filtering p whole (cond b (set buffer kept x) buffer) (cond b (kept + 1) kept) (i + 1)
      go true f =
          record {
            inside = omega arith;
            long = length-set buffer kept x ∙ s.long;
            fewer = omega (arith, s.fewer);
            count = omega (arith, s.count, length-append (filter p (take i whole)) (x ∷ []), ap length (taken true f));
            front = ap (λ n. take n (set buffer kept x)) (add-one kept) ∙ take-suc-set buffer kept x (omega (arith, s.fewer, s.long)) ∙ ap (λ l. l ++ (x ∷ [])) s.front ∙ sym (taken true f);
            rest = drop-set-lt (i + 1) buffer kept x (omega (arith, s.fewer)) ∙ behind;
          }
      go false f =
          record {
            inside = omega arith;
            long = s.long;
            fewer = omega (arith, s.fewer);
            count = s.count ∙ ap length (sym (append-nil (filter p (take i whole)))) ∙ ap length (sym (taken false f));
            front = s.front ∙ sym (append-nil (filter p (take i whole))) ∙ sym (taken false f);
            rest = behind;
          }

  pub filtering_next : i < length whole → {kept' : ℕ} {buffer' : List ℕ} → PlaceKept (p (get_or buffer i 0)) kept (get_or buffer i 0) buffer kept' buffer' → Filtering p whole buffer' kept' (i + 1)
  filtering_next h k = rw (k.count, k.places) (filtering_step h (get_or buffer i 0) refl)

  -- it is below what all are below
  pub element_below : (n : ℕ) → every (λ x. ltb x n) whole ≡ true → i < length whole → get_or buffer i 0 < n
  element_below n b h = ltb-true (get_or buffer i 0) n (ap (λ x. ltb x n) element ∙ every_at (λ x. ltb x n) 0 whole b i h)
