-- A read turned round: twice is the read itself; its bases by place, their codes and case; its verdict.
use mathlib.Core.Path.{◌≡◌, refl, sym, ap, ap₂, ◌∙◌}
use mathlib.Core.Bool.{Bool, true, false, cond, ◌&&◌, ◌||◌}
use mathlib.Core.Logic.{◌⊎◌, inl, inr}
use mathlib.Core.List.{List, [], ◌∷◌, map, reverse, reverse-reverse}
use Prim.Native.Nat.{ℕ, zero, suc, ◌+◌, ◌-◌, ◌%◌, ◌<◌, ◌≤◌}
use native.Mathlib.Omega.{arith}
use lib.ListN
use lib.ListN.{length, get_or, length-map, length-reverse, get_or-eq_default}
use lib.Dec.{eqb, leb, ltb}
use borrow.Author.Tests.{eq-eqb, ne_eqb}
use Rattle.lists.specs.Filter.{every}
use Rattle.lists.proofs.Cases.{clash}
use Rattle.lists.proofs.Every.{every_at}
use Rattle.lists.proofs.Places.{get_or-map}
use Rattle.lists.proofs.Reverse.{get_or-reverse, map-reverse, every_reverse}
use Rattle.bases.specs.Base.{code_of, complement_of, upper_of, is_capital, mark}
use Rattle.bases.specs.Read.{folded, capitals, letters, reverse_complement, oriented, LettersAt, Qualities, absent, given, Read, reversed, turned}
use Rattle.bases.specs.Eligibility.{Verdict, refused, ineligible, eligible, ◌then◌, empty_test, length_test, quality_test, qualities_test, bases_test, eligibility}
use Rattle.bases.proofs.Bytes.{bits_same, bits_paired, complement_twice, code_complement, upper_complement, case_kept, letter_complement}

-- ---- bases

map_twice : (bs : List ℕ) → map complement_of (map complement_of bs) ≡ bs
map_twice [] = refl
map_twice (b ∷ bs) = ap₂ {C = List ℕ} (λ x xs. x ∷ xs) (complement_twice b) (map_twice bs)

-- turning round twice is the identity
pub reverse_complement_twice : (bs : List ℕ) → reverse_complement (reverse_complement bs) ≡ bs
unfolding reverse_complement
reverse_complement_twice bs = ap reverse (map-reverse complement_of (map complement_of bs)) ∙ reverse-reverse (map complement_of (map complement_of bs)) ∙ map_twice bs

reversed_twice : (q : Qualities) → reversed (reversed q) ≡ q
reversed_twice absent = refl
reversed_twice (given qs) = ap given (reverse-reverse qs)

pub turned_twice : (r : Read) → turned (turned r) ≡ r
turned_twice r = λ i. record { bases = reverse_complement_twice r.bases i; qualities = reversed_twice r.qualities i }

pub length-reverse_complement : (bs : List ℕ) → length (reverse_complement bs) ≡ length bs
unfolding reverse_complement
length-reverse_complement bs = simp (length-reverse, length-map)

pub length-oriented : (s : ℕ) (bs : List ℕ) → length (oriented s bs) ≡ length bs
length-oriented zero bs = refl
length-oriented (suc s) bs = length-reverse_complement bs

-- base i of the turned read
module _ (bs : List ℕ) (i : ℕ) (h : i < length bs) where
  pub turned-at : get_or (reverse_complement bs) i 0 ≡ complement_of (get_or bs (length bs - suc i) 0)
  unfolding reverse_complement complement_of
  turned-at = get_or-reverse 0 (map complement_of bs) i (rw length-map h) ∙ ap (λ n. get_or (map complement_of bs) (n - suc i) 0) (length-map bs complement_of) ∙ ListN.get_or-map complement_of bs (length bs - suc i) 0

  -- its code
  pub turned-code : code_of (get_or (reverse_complement bs) i 0) ≡ cond (eqb (code_of (get_or bs (length bs - suc i) 0)) mark) mark (3 - code_of (get_or bs (length bs - suc i) 0))
  turned-code = ap code_of turned-at ∙ code_complement (get_or bs (length bs - suc i) 0)

  -- its case
  pub turned_case : eqb (upper_of (get_or (reverse_complement bs) i 0)) (get_or (reverse_complement bs) i 0) ≡ eqb (upper_of (get_or bs (length bs - suc i) 0)) (get_or bs (length bs - suc i) 0)
  turned_case = ap (λ b. eqb (upper_of b) b) turned-at ∙ case_kept (get_or bs (length bs - suc i) 0)

-- the folded read of a turned read is the folded read turned
pub folded_turned : (bs : List ℕ) → folded (reverse_complement bs) ≡ reverse_complement (folded bs)
unfolding reverse_complement
folded_turned bs = map-reverse upper_of (map complement_of bs) ∙ ap reverse (go bs)
  where
    go : (l : List ℕ) → map upper_of (map complement_of l) ≡ map complement_of (map upper_of l)
    go [] = refl
    go (b ∷ l) = ap₂ {C = List ℕ} (λ x xs. x ∷ xs) (upper_complement b) (go l)

-- ---- the code of base i on a strand

pub past_end : (s : ℕ) (bs : List ℕ) (i : ℕ) → length bs ≤ i → mark ≡ code_of (get_or (oriented s bs) i 0)
unfolding code_of
past_end zero bs i h = ap code_of (sym (get_or-eq_default bs 0 h))
past_end (suc s) bs i h = ap code_of (sym (get_or-eq_default (reverse_complement bs) 0 (rw length-reverse_complement h)))

pub on_plus : (s : ℕ) (bs : List ℕ) (i : ℕ) → s ≡ 0 → code_of (get_or bs i 0) ≡ code_of (get_or (oriented s bs) i 0)
on_plus s bs i e = rw e

pub on_minus : (s : ℕ) (bs : List ℕ) (i : ℕ) → (s ≡ 0 → ⊥) → i < length bs → code_of (complement_of (get_or bs (length bs - 1 - i) 0)) ≡ code_of (get_or (oriented s bs) i 0)
on_minus zero bs i ne h = absurd (ne refl)
on_minus (suc s) bs i ne h = ap code_of (ap (λ n. complement_of (get_or bs n 0)) (omega arith) ∙ sym (turned-at bs i h))

-- ---- a letter against base i on a strand

letters-at : (bs : List ℕ) → letters bs ≡ true → (i : ℕ) → i < length bs → is_capital (upper_of (get_or bs i 0)) ≡ true
letters-at bs t i h = ap is_capital (sym (get_or-map upper_of 0 0 bs i h)) ∙ every_at is_capital 0 (folded bs) t i (rw length-map h)

module _ (x s : ℕ) (bs : List ℕ) (i : ℕ) (a : LettersAt x bs i) where
  pub on_plus_agrees : s ≡ 0 → eqb (x % 32) (get_or bs i 0 % 32) ≡ eqb (code_of x) (code_of (get_or (oriented s bs) i 0))
  on_plus_agrees e = bits_same x (get_or bs i 0) a.letter_right (letters-at bs a.letters_right i a.inside) ∙ ap (eqb (code_of x)) (on_plus s bs i e)

  pub on_minus_agrees : (s ≡ 0 → ⊥) → (eqb (x % 32 + get_or bs (length bs - 1 - i) 0 % 32) 21 || eqb (x % 32 + get_or bs (length bs - 1 - i) 0 % 32) 10) ≡ eqb (code_of x) (code_of (get_or (oriented s bs) i 0))
  on_minus_agrees ne = bits_paired x (get_or bs (length bs - 1 - i) 0) a.letter_right (letters-at bs a.letters_right (length bs - 1 - i) (omega (arith, a.inside))) ∙ ap (eqb (code_of x)) (on_minus s bs i ne a.inside)

-- the first of two tests where it passes, the second where it does not
pub first_sum : (n : ℕ) → n ≡ 21 → eqb n 21 ≡ (eqb n 21 || eqb n 10)
first_sum n e = rw (eq-eqb n 21 e)

pub second_sum : (n : ℕ) → (n ≡ 21 → ⊥) → eqb n 10 ≡ (eqb n 21 || eqb n 10)
second_sum n ne = rw (ne_eqb n 21 ne)

-- ---- eligibility

-- the letters of a turned read are letters
pub letters-turned : (bs : List ℕ) → letters (reverse_complement bs) ≡ letters bs
unfolding reverse_complement
letters-turned bs = ap capitals (map-reverse upper_of (map complement_of bs)) ∙ every_reverse is_capital (folded (map complement_of bs)) ∙ go bs
  where
    go : (l : List ℕ) → letters (map complement_of l) ≡ letters l
    go [] = refl
    go (b ∷ l) = ap₂ {C = Bool} (λ x y. x && y) (letter_complement b) (go l)

empty_turned : (bs : List ℕ) → empty_test (reverse_complement bs) ≡ empty_test bs
empty_turned bs = by_length (reverse_complement bs) bs (length-reverse_complement bs)
  where
    by_length : (xs ys : List ℕ) → length xs ≡ length ys → empty_test xs ≡ empty_test ys
    by_length [] [] e = refl
    by_length [] (y ∷ ys) e = absurd (omega arith)
    by_length (x ∷ xs) [] e = absurd (omega arith)
    by_length (x ∷ xs) (y ∷ ys) e = refl

abbrev passes : Verdict → Bool
passes (refused n) = false
passes ineligible = false
passes eligible = true

module _ (floor offset : ℕ) where
  -- qualities pass where each of them does, in whatever order
  passes_each : (qs : List ℕ) → passes (qualities_test floor offset qs) ≡ every (λ q. passes (quality_test floor offset q)) qs
  passes_each [] = refl
  passes_each (q ∷ qs) = go (quality_test floor offset q) (passes_each qs)
    where
      go : (v : Verdict) → passes (qualities_test floor offset qs) ≡ every (λ q. passes (quality_test floor offset q)) qs → passes (v then qualities_test floor offset qs) ≡ (passes v && every (λ q. passes (quality_test floor offset q)) qs)
      go (refused n) ih = refl
      go ineligible ih = refl
      go eligible ih = ih

  passes_reversed : (qs : List ℕ) → passes (qualities_test floor offset (reverse qs)) ≡ passes (qualities_test floor offset qs)
  passes_reversed qs = passes_each (reverse qs) ∙ every_reverse (λ q. passes (quality_test floor offset q)) qs ∙ sym (passes_each qs)

  -- qualities are eligible, ineligible or refused 16
  abbrev OfQualities : Verdict → Type 0
  OfQualities v = (v ≡ eligible) ⊎ ((v ≡ ineligible) ⊎ (v ≡ refused 16))

  of_qualities : (qs : List ℕ) → OfQualities (qualities_test floor offset qs)
  of_qualities [] = inl refl
  of_qualities (q ∷ qs) = go (leb offset q && leb q 126) (ltb (q - offset) floor) (of_qualities qs)
    where
      go : (inside low : Bool) → OfQualities (qualities_test floor offset qs) → OfQualities (cond inside (cond low ineligible eligible) (refused 16) then qualities_test floor offset qs)
      go true true ih = inr (inl refl)
      go true false ih = ih
      go false low ih = inr (inr refl)

  -- two such verdicts that both pass or both fail are one, unless one of them is refused 16
  same_verdict : (v w : Verdict) → OfQualities v → OfQualities w → passes v ≡ passes w → (v ≡ refused 16 → ⊥) → (w ≡ refused 16 → ⊥) → v ≡ w
  same_verdict v w (inr (inr e)) f p nv nw = absurd (nv e)
  same_verdict v w (inl e) (inr (inr f)) p nv nw = absurd (nw f)
  same_verdict v w (inr (inl e)) (inr (inr f)) p nv nw = absurd (nw f)
  same_verdict v w (inl e) (inl f) p nv nw = e ∙ sym f
  same_verdict v w (inr (inl e)) (inr (inl f)) p nv nw = e ∙ sym f
  same_verdict v w (inl e) (inr (inl f)) p nv nw = clash (ap passes e) (p ∙ ap passes f)
  same_verdict v w (inr (inl e)) (inl f) p nv nw = clash (ap passes f) (sym p ∙ ap passes e)

  -- so a read's verdict does not depend on which of the two its qualities have
  both_ways : (x y v w b : Verdict) → OfQualities v → OfQualities w → passes v ≡ passes w → ((x then (y then v) then b) ≡ refused 16 → ⊥) → ((x then (y then w) then b) ≡ refused 16 → ⊥) → (x then (y then v) then b) ≡ (x then (y then w) then b)
  both_ways (refused n) y v w b f g p nv nw = refl
  both_ways ineligible y v w b f g p nv nw = refl
  both_ways eligible (refused n) v w b f g p nv nw = refl
  both_ways eligible ineligible v w b f g p nv nw = refl
  both_ways eligible eligible v w b f g p nv nw = ap (λ u. u then b) (same_verdict v w f g p (λ e. nv (ap (λ u. u then b) e)) (λ e. nw (ap (λ u. u then b) e)))

  -- eligibility does not depend on the read being turned, where neither way round is refused 16
  abbrev Unturned : Read → Type 0
  Unturned r = (eligibility floor offset (turned r) ≡ refused 16 → ⊥) → (eligibility floor offset r ≡ refused 16 → ⊥) → eligibility floor offset (turned r) ≡ eligibility floor offset r

  pub eligibility-turned : (r : Read) → Unturned r
  unfolding eligibility
  eligibility-turned r = go r.bases r.qualities
    where
      go : (bs : List ℕ) (q : Qualities) → Unturned (record { bases = bs; qualities = q })
      go bs absent = λ nv nw. rw (empty_turned, letters-turned)
      go bs (given qs) =
          rw (empty_turned, letters-turned, length-reverse_complement, length-reverse)
          (both_ways (empty_test bs) (length_test qs bs) (qualities_test floor offset (reverse qs)) (qualities_test floor offset qs) (bases_test bs) (of_qualities (reverse qs)) (of_qualities qs) (passes_reversed qs))
