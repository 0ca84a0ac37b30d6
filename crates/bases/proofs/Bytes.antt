-- Laws of single bytes, each by one computed test over all 256; above them a number is no letter, and stays itself.
use mathlib.Core.Path.{◌≡◌, refl, sym, ap, ◌∙◌}
use mathlib.Core.Bool.{Bool, true, false, cond, not, ◌||◌, beq}
use mathlib.Core.List.{List, [], ◌∷◌}
use Prim.Native.Nat.{ℕ, ◌+◌, ◌-◌, ◌*◌, ◌%◌, ◌<◌, ◌≤◌}
use native.Mathlib.Omega.{arith}
use lib.Dec.{ltb, leb, eqb}
use lib.ListN.{get_or}
use borrow.Author.Tests.{eqb-true, eqb-false, eq-eqb, ne_eqb, ltb-true, ltb-false, leb-true, le-leb, lt-leb}
use Rattle.lists.specs.Filter.{every}
use Rattle.lists.proofs.Cases.{by_test, clash, same_test, and-true, beq-true, eq_beq}
use Rattle.lists.proofs.Below.{passes_below, passes_at}
use Rattle.bases.specs.Base.{A, C, G, T, beside, codes, complements, code_of, complement_of, Table, upper_of, is_capital, mark}

-- ---- the table

-- the entry of a byte is its code times 256, plus its complement
abbrev entry_right : List ℕ → ℕ → Bool
entry_right table b = eqb (get_or table b 0) (code_of b * 256 + complement_of b)

-- a table that passes this test at each of the 256 bytes has the rule at each
pub table_right : (table : List ℕ) → passes_below (entry_right table) 256 ≡ true → Table table
table_right table t = record { holds = λ b h. eqb-true _ _ (passes_at (entry_right table) 256 t b h) }

pub complement_byte : (b : ℕ) → b < 256 → complement_of b < 256
unfolding complement_of
complement_byte b h = ltb-true (complement_of b) 256 (passes_at (λ b. ltb (complement_of b) 256) 256 refl b h)

-- ---- every number: the bytes by a test, those above by a reason

everywhere : (test : ℕ → Bool) → passes_below test 256 ≡ true → ((b : ℕ) → 256 ≤ b → test b ≡ true) → (b : ℕ) → test b ≡ true
everywhere test t above b = by_test (ltb b 256) (λ e. passes_at test 256 t b (ltb-true b 256 e)) (λ e. above b (ltb-false b 256 e))

beside_above : (pairs : List (ℕ × ℕ)) (other b : ℕ) → every (λ (p : ℕ × ℕ). ltb p.0 256) pairs ≡ true → 256 ≤ b → beside pairs other b ≡ other
beside_above [] other b t h = refl
beside_above (p ∷ ps) other b t h =
    let e = and-true (ltb p.0 256) (every (λ (p : ℕ × ℕ). ltb p.0 256) ps) t in
    let low = ltb-true p.0 256 e.0 in
    rw (ne_eqb b p.0 (λ k. omega arith)) (beside_above ps other b e.1 h)

complement_above : (b : ℕ) → 256 ≤ b → complement_of b ≡ b
unfolding complement_of
complement_above b h = beside_above complements b b refl h

code_above : (b : ℕ) → 256 ≤ b → code_of b ≡ mark
unfolding code_of
code_above b h = beside_above codes mark b refl h

upper_above : (b : ℕ) → 256 ≤ b → upper_of b ≡ b
unfolding upper_of
upper_above b h = rw (lt-leb b 122 (omega arith)) (by_test (leb 97 b) (λ e. rw e) (λ e. rw e))

base_above : (b : ℕ) → 256 ≤ b → is_capital b ≡ false
unfolding is_capital
base_above b h = simp (ne_eqb b 65 (λ e. omega arith), ne_eqb b 67 (λ e. omega arith), ne_eqb b 71 (λ e. omega arith), ne_eqb b 84 (λ e. omega arith))

-- ---- the laws

pub complement_twice : (b : ℕ) → complement_of (complement_of b) ≡ b
unfolding complement_of
complement_twice b =
    eqb-true (complement_of (complement_of b)) b
    (everywhere (λ b. eqb (complement_of (complement_of b)) b) refl (λ b h. eq-eqb (complement_of (complement_of b)) b (ap complement_of (complement_above b h) ∙ complement_above b h)) b)

-- a letter's complement has three less its code, and any other byte stays marked
pub code_complement : (b : ℕ) → code_of (complement_of b) ≡ cond (eqb (code_of b) mark) mark (3 - code_of b)
unfolding code_of complement_of
code_complement b =
    eqb-true _ _
    (everywhere (λ b. eqb (code_of (complement_of b)) (cond (eqb (code_of b) mark) mark (3 - code_of b))) refl
    (λ b h. eq-eqb _ _ (ap code_of (complement_above b h) ∙ code_above b h ∙ sym (ap (λ n. cond (eqb n mark) mark (3 - n)) (code_above b h)))) b)

-- a letter's code does not depend on its case
pub code_upper : (b : ℕ) → code_of (upper_of b) ≡ code_of b
unfolding code_of upper_of
code_upper b = eqb-true _ _ (everywhere (λ b. eqb (code_of (upper_of b)) (code_of b)) refl (λ b h. eq-eqb _ _ (ap code_of (upper_above b h))) b)

pub upper_complement : (b : ℕ) → upper_of (complement_of b) ≡ complement_of (upper_of b)
unfolding upper_of complement_of
upper_complement b =
    eqb-true _ _
    (everywhere (λ b. eqb (upper_of (complement_of b)) (complement_of (upper_of b))) refl
    (λ b h. eq-eqb _ _ (ap upper_of (complement_above b h) ∙ upper_above b h ∙ sym (ap complement_of (upper_above b h) ∙ complement_above b h))) b)

-- a byte is in upper case exactly if its complement is
pub case_kept : (b : ℕ) → eqb (upper_of (complement_of b)) (complement_of b) ≡ eqb (upper_of b) b
unfolding upper_of complement_of
case_kept b =
    beq-true _ _
    (everywhere (λ b. beq (eqb (upper_of (complement_of b)) (complement_of b)) (eqb (upper_of b) b)) refl
    (λ b h. eq_beq _ _ (ap (λ n. eqb (upper_of n) n) (complement_above b h))) b)

-- a byte is a letter of ACGT in either case exactly if its code is not the mark
pub letter_code : (b : ℕ) → is_capital (upper_of b) ≡ not (eqb (code_of b) mark)
unfolding is_capital upper_of code_of
letter_code b =
    beq-true _ _
    (everywhere (λ b. beq (is_capital (upper_of b)) (not (eqb (code_of b) mark))) refl
    (λ b h. eq_beq _ _ (ap is_capital (upper_above b h) ∙ base_above b h ∙ sym (ap (λ n. not (eqb n mark)) (code_above b h)))) b)

-- a capital is such a letter
pub letter_capital : (b : ℕ) → is_capital b ≡ true → is_capital (upper_of b) ≡ true
unfolding is_capital upper_of
letter_capital b t = rw t at (everywhere (λ b. not (is_capital b) || is_capital (upper_of b)) refl (λ b h. rw (base_above b h)) b)

-- and its complement is one exactly if it is
pub letter_complement : (b : ℕ) → is_capital (upper_of (complement_of b)) ≡ is_capital (upper_of b)
unfolding is_capital upper_of complement_of
letter_complement b =
    beq-true _ _
    (everywhere (λ b. beq (is_capital (upper_of (complement_of b))) (is_capital (upper_of b))) refl
    (λ b h. eq_beq _ _ (ap (λ n. is_capital (upper_of n)) (complement_above b h))) b)

-- a code is at most the mark
pub code_le : (b : ℕ) → code_of b ≤ mark
unfolding code_of
code_le b =
    leb-true (code_of b) mark (everywhere (λ b. leb (code_of b) mark) refl (λ b h. le-leb (code_of b) mark (omega (arith, code_above b h))) b)

-- ---- letters by their codes

-- the capital of a code
letter_of : ℕ → ℕ
letter_of n = beside ((0, A) ∷ (1, C) ∷ (2, G) ∷ (3, T) ∷ []) 0 n

capital_of : (b : ℕ) → is_capital b ≡ true → b ≡ letter_of (code_of b)
unfolding is_capital code_of letter_of
capital_of b t = eqb-true b (letter_of (code_of b)) (rw t at (everywhere (λ b. not (is_capital b) || eqb b (letter_of (code_of b))) refl (λ b h. rw (base_above b h)) b))

-- capitals are one letter exactly if they have one code
pub codes_decide : (x y : ℕ) → is_capital x ≡ true → is_capital y ≡ true → eqb x y ≡ eqb (code_of x) (code_of y)
codes_decide x y hx hy =
    same_test (λ e. eq-eqb _ _ (ap code_of (eqb-true x y e))) (λ e. eq-eqb x y (capital_of x hx ∙ ap letter_of (eqb-true _ _ e) ∙ sym (capital_of y hy)))

-- ---- letters by their last five bits

-- the last five bits of a letter, by its code
bits_of : ℕ → ℕ
bits_of n = beside ((0, 1) ∷ (1, 3) ∷ (2, 7) ∷ (3, 20) ∷ []) 0 n

bits_code : (b : ℕ) → is_capital (upper_of b) ≡ true → b % 32 ≡ bits_of (code_of b)
unfolding is_capital upper_of code_of bits_of
bits_code b t =
    eqb-true (b % 32) (bits_of (code_of b))
    (rw t at (everywhere (λ b. not (is_capital (upper_of b)) || eqb (b % 32) (bits_of (code_of b))) refl (λ b h. rw (upper_above b h, base_above b h)) b))

-- a letter's code is less than the mark
pub letter_low : (b : ℕ) → is_capital (upper_of b) ≡ true → code_of b < 4
letter_low b t = by_test (eqb (code_of b) mark) (λ e. clash t (letter_code b ∙ ap not e)) (λ e. omega (arith, code_le b, eqb-false (code_of b) mark e))

-- a test of two codes that passes at each pair of them
codes_pass : (test : ℕ → ℕ → Bool) → passes_below (λ m. passes_below (test m) 4) 4 ≡ true → (m n : ℕ) → m < 4 → n < 4 → test m n ≡ true
codes_pass test t m n hm hn = passes_at (test m) 4 (passes_at (λ m. passes_below (test m) 4) 4 t m hm) n hn

module _ (x y : ℕ) (hx : is_capital (upper_of x) ≡ true) (hy : is_capital (upper_of y) ≡ true) where
  -- letters with the same bits have one code
  pub bits_same : eqb (x % 32) (y % 32) ≡ eqb (code_of x) (code_of y)
  unfolding bits_of
  bits_same =
      ap (λ n. eqb n (y % 32)) (bits_code x hx) ∙ ap (eqb (bits_of (code_of x))) (bits_code y hy)
      ∙ beq-true _ _ (codes_pass (λ m n. beq (eqb (bits_of m) (bits_of n)) (eqb m n)) refl (code_of x) (code_of y) (letter_low x hx) (letter_low y hy))

  -- and those of complements have the sum 21 or 10
  pub bits_paired : (eqb (x % 32 + y % 32) 21 || eqb (x % 32 + y % 32) 10) ≡ eqb (code_of x) (code_of (complement_of y))
  unfolding bits_of
  bits_paired =
      ap (λ n. eqb n 21 || eqb n 10) (ap (λ n. n + y % 32) (bits_code x hx) ∙ ap (λ n. bits_of (code_of x) + n) (bits_code y hy))
      ∙ beq-true _ _ (codes_pass (λ m n. beq (eqb (bits_of m + bits_of n) 21 || eqb (bits_of m + bits_of n) 10) (eqb m (cond (eqb n mark) mark (3 - n)))) refl (code_of x) (code_of y) (letter_low x hx) (letter_low y hy))
      ∙ ap (eqb (code_of x)) (sym (code_complement y))
