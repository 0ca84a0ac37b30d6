-- A comparison goes base by base.
use mathlib.Core.Path.{◌≡◌, refl, sym, ap, ◌∙◌}
use mathlib.Core.Bool.{Bool, true, false, ◌&&◌}
use mathlib.Core.List.{List}
use Prim.Native.Nat.{ℕ, zero, suc, ◌+◌, ◌<◌, ◌≤◌}
use native.Mathlib.Omega.{arith}
use native.Mathlib.Numerals.{add-one}
use lib.ListN.{length, get_or, drop, length-map, length-drop}
use lib.Seq.{take_all, get_or-drop}
use lib.Dec.{eqb}
use Rattle.lists.specs.Same.{same}
use Rattle.lists.specs.Cut.{window}
use Rattle.lists.proofs.Every.{every_at}
use Rattle.lists.proofs.Places.{get_or-map}
use Rattle.lists.proofs.Same.{same_next, differ_next}
use Rattle.bases.specs.Base.{is_capital, code_of, upper_of}
use Rattle.bases.specs.Read.{folded, capitals, letters, oriented}
use Rattle.bases.proofs.Bytes.{code_upper, codes_decide}
use Rattle.bases.proofs.Turning.{folded_turned, letters-turned, length-oriented}
use Rattle.map_places.specs.Place.{Laid, stands, stands_to}

-- ---- a folded read on a strand

pub oriented-folded : (s : ℕ) (read : List ℕ) → oriented s (folded read) ≡ folded (oriented s read)
oriented-folded zero read = refl
oriented-folded (suc s) read = sym (folded_turned read)

oriented-letters : (s : ℕ) (read : List ℕ) → letters read ≡ true → letters (oriented s read) ≡ true
oriented-letters zero read t = t
oriented-letters (suc s) read t = letters-turned read ∙ t

-- ---- the first bases of a read compared

neither : (b : Bool) → (b && false) ≡ false
neither true = refl
neither false = refl

module _ (s : List ℕ) (start : ℕ) (read : List ℕ) (strand : ℕ) where
  pub compared_differ : (i j : ℕ) → i ≤ j → stands_to i s start read strand ≡ false → stands_to j s start read strand ≡ false
  compared_differ i j h t = differ_next (drop start s) (oriented strand (folded read)) i j h t

  pub compared_all : stands_to (length read) s start read strand ≡ stands s start read strand
  compared_all = ap (same (window s start (length read))) (take_all (length read) (oriented strand (folded read)) (omega (arith, length-oriented strand (folded read), length-map read upper_of)))

  -- base i as well
  module _ (laid : Laid s start read) (i : ℕ) (h : i < length read) where
    x : ℕ
    x = get_or s (start + i) 0

    y : ℕ
    y = get_or (oriented strand read) i 0

    inside_s : i < length (drop start s)
    inside_s = omega (arith, length-drop start s, laid.fits)

    inside_o : i < length (oriented strand (folded read))
    inside_o = omega (arith, length-oriented strand (folded read), length-map read upper_of)

    at_o : get_or (oriented strand (folded read)) i 0 ≡ upper_of y
    unfolding y
    at_o = ap (λ l. get_or l i 0) (oriented-folded strand read) ∙ get_or-map upper_of 0 0 (oriented strand read) i (omega (arith, length-oriented strand read))

    base_s : is_capital x ≡ true
    unfolding x
    base_s = every_at is_capital 0 s laid.capitals (start + i) (omega (arith, laid.fits))

    base_o : is_capital (upper_of y) ≡ true
    base_o = ap is_capital (sym at_o) ∙ every_at is_capital 0 (oriented strand (folded read)) (ap capitals (oriented-folded strand read) ∙ oriented-letters strand read laid.letters) i inside_o

    pub compared_next : stands_to (i + 1) s start read strand ≡ (stands_to i s start read strand && eqb (code_of (get_or s (start + i) 0)) (code_of (get_or (oriented strand read) i 0)))
    unfolding x y
    compared_next =
        ap (λ n. stands_to n s start read strand) (add-one i)
        ∙ same_next (drop start s) (oriented strand (folded read)) i inside_s inside_o
        ∙ ap (λ b. stands_to i s start read strand && b) (ap (λ n. eqb n (get_or (oriented strand (folded read)) i 0)) (get_or-drop start s i 0) ∙ ap (eqb x) at_o ∙ codes_decide x (upper_of y) base_s base_o ∙ ap (eqb (code_of x)) (code_upper y))

    -- a base that differs is enough
    pub compared_differs : eqb (code_of (get_or s (start + i) 0)) (code_of (get_or (oriented strand read) i 0)) ≡ false → stands s start read strand ≡ false
    compared_differs e = sym compared_all ∙ compared_differ (i + 1) (length read) (omega arith) (compared_next ∙ ap (λ b. stands_to i s start read strand && b) e ∙ neither (stands_to i s start read strand))
