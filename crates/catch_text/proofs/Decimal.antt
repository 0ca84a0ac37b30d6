-- Numbers in decimal: the last digit behind the others, and how many there are.
use mathlib.Core.Path.{◌≡◌, refl, ap, ◌∙◌}
use mathlib.Core.List.{List, [], ◌∷◌, ◌++◌}
use Prim.Native.Nat.{ℕ, zero, suc, ◌+◌, ◌*◌, ◌/◌, ◌%◌, ◌≤◌, ◌<◌}
use native.Mathlib.Omega.{arith}
use lib.ListN.{length, length-append}
use lib.Dec.{ltb}
use borrow.Author.Tests.{ltb-false, lt-ltb, le-ltb}
use Rattle.lists.proofs.Cases.{by_test}
use Rattle.catch_text.specs.Text.{digit, digits, decimal}

-- examples
zero_told : decimal 0 ≡ 48 ∷ []
unfolding digits
zero_told = refl

thousand_told : decimal 1907 ≡ 49 ∷ 57 ∷ 48 ∷ 55 ∷ []
unfolding digits
thousand_told = refl

-- leave for more digits changes nothing
digits_leave : (m k n : ℕ) → n < m → n < k → digits m n ≡ digits k n
unfolding digits
digits_leave zero k n h l = absurd (omega arith)
digits_leave (suc m) zero n h l = absurd (omega arith)
digits_leave (suc m) (suc k) n h l =
    by_test (ltb n 10)
    (λ e. rw e)
    (λ e. let f = ltb-false n 10 e in rw e (ap (λ (ds : List ℕ). ds ++ digit (n % 10) ∷ []) (digits_leave m k (n / 10) (omega arith) (omega arith))))

-- a digit alone
pub decimal_digit : (n : ℕ) → n < 10 → decimal n ≡ digit n ∷ []
unfolding digits
decimal_digit n h = rw (lt-ltb n 10 h)

-- the last digit of a number stands behind the digits of its tenth
pub decimal_tenth : (n : ℕ) → 10 ≤ n → decimal n ≡ decimal (n / 10) ++ digit (n % 10) ∷ []
unfolding digits
decimal_tenth n h = rw (le-ltb n 10 h) (ap (λ (ds : List ℕ). ds ++ digit (n % 10) ∷ []) (digits_leave n (suc (n / 10)) (n / 10) (omega arith) (omega arith)))

-- ---- how many

pub length_decimal_digit : (n : ℕ) → n < 10 → length (decimal n) ≡ 1
length_decimal_digit n h = ap length (decimal_digit n h)

pub length_decimal_tenth : (n : ℕ) → 10 ≤ n → length (decimal n) ≡ length (decimal (n / 10)) + 1
length_decimal_tenth n h = ap length (decimal_tenth n h) ∙ length-append (decimal (n / 10)) (digit (n % 10) ∷ [])

-- ten times ten, k times more
abbrev tens : ℕ → ℕ
tens zero = 10
tens (suc k) = 10 * tens k

digits_few : (m k n : ℕ) → n < tens k → length (digits m n) ≤ suc k
unfolding digits
digits_few zero k n h = omega arith
digits_few (suc m) k n h = by_test (ltb n 10) (λ e. rw e (omega arith)) (λ e. rw (e, length-append) (more k h (ltb-false n 10 e) (λ j. digits_few m j (n / 10))))
  where
    more : (k : ℕ) → n < tens k → 10 ≤ n → ((j : ℕ) → n / 10 < tens j → length (digits m (n / 10)) ≤ suc j) → length (digits m (n / 10)) + 1 ≤ suc k
    more zero h l ih = absurd (omega arith)
    more (suc k) h l ih = omega (arith, ih k (omega arith))

-- a number of 64 bits has no more than 20
pub decimal-room : (n : ℕ) → n < 18446744073709551616 → length (decimal n) ≤ 20
decimal-room n h = digits_few (suc n) 19 n (omega arith)
