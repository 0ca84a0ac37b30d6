-- Four capitals at once: their codes out of the bytes of a word, and the key that a product puts together.
use mathlib.Core.Path.{◌≡◌, refl, ap, ◌∙◌}
use mathlib.Core.Bool.{true}
use mathlib.Core.List.{List, [], ◌∷◌}
use Prim.Native.Nat.{ℕ, suc, ◌+◌, ◌*◌, ◌/◌, ◌%◌, ◌^◌, ◌<◌, ◌≤◌}
use native.Mathlib.Omega.{arith}
use native.Mathlib.Numerals.{add-one}
use lib.Seq.{drop-cons}
use lib.ListN.{length, get_or}
use lib.Dec.{eqb}
use lib.Pow.{high, low as low_part}
use lib.Bits.{bit_and, and_block}
use borrow.Author.Tests.{eqb-true}
use Rattle.lists.proofs.Cases.{by_test, clash}
use Rattle.lists.proofs.Cut.{length-window}
use Rattle.lists.proofs.Every.{every_at}
use Rattle.bases.specs.Base.{code_of, is_capital}
use Rattle.bases.specs.Read.{capitals}
use Rattle.index_seeds.specs.Key.{key_of, SeedIn, KeyBegun, FoursIn}
use Rattle.index_seeds.specs.Window.{window_of}
use Rattle.index_seeds.proofs.Keying.{seed_end, key_fits, key_more}

-- ---- one capital

-- what the bits of a capital tell
record Bits (b : ℕ) : Type 0 where
  small : b < 256
  low : code_of b < 4
  code : bit_and b 2 * 4 + bit_and b 4 * 2 + bit_and b 16 ≡ 8 * code_of b

bits_of : (b : ℕ) → is_capital b ≡ true → Bits b
unfolding is_capital code_of
bits_of b t =
    by_test (eqb b 65) (λ e. rw (eqb-true b 65 e) (record { small = omega arith; low = omega arith; code = refl })) (λ e.
    by_test (eqb b 67) (λ f. rw (eqb-true b 67 f) (record { small = omega arith; low = omega arith; code = refl })) (λ f.
    by_test (eqb b 71) (λ g. rw (eqb-true b 71 g) (record { small = omega arith; low = omega arith; code = refl })) (λ g.
    by_test (eqb b 84) (λ h. rw (eqb-true b 84 h) (record { small = omega arith; low = omega arith; code = refl })) (λ h.
    clash t (rw (e, f, g, h))))))

-- ---- four of them

-- a mask with one byte four times takes it from each byte of a word
mask : (m a b c d : ℕ) → m < 256 → a < 256 → b < 256 → c < 256
    → bit_and (((d * 256 + c) * 256 + b) * 256 + a) (((m * 256 + m) * 256 + m) * 256 + m) ≡ ((bit_and d m * 256 + bit_and c m) * 256 + bit_and b m) * 256 + bit_and a m
mask m a b c d hm ha hb hc =
    and_block 8 ((d * 256 + c) * 256 + b) ((m * 256 + m) * 256 + m) a m ha hm
    ∙ ap (λ x. x * 256 + bit_and a m) (and_block 8 (d * 256 + c) (m * 256 + m) b m hb hm ∙ ap (λ x. x * 256 + bit_and b m) (and_block 8 d m c m hc hm))

module _ (a b c d : ℕ) (t : capitals (a ∷ b ∷ c ∷ d ∷ []) ≡ true) where
  bits_at : (i : ℕ) → i < 4 → Bits (get_or (a ∷ b ∷ c ∷ d ∷ []) i 0)
  bits_at i h = bits_of (get_or (a ∷ b ∷ c ∷ d ∷ []) i 0) (every_at is_capital 0 (a ∷ b ∷ c ∷ d ∷ []) t i h)

  bits_a : Bits a
  bits_a = bits_at 0 (omega arith)

  bits_b : Bits b
  bits_b = bits_at 1 (omega arith)

  bits_c : Bits c
  bits_c = bits_at 2 (omega arith)

  bits_d : Bits d
  bits_d = bits_at 3 (omega arith)

  -- their word
  abbrev pub word : ℕ
  word = a + b * 256 + c * 65536 + d * 16777216

  pub word_small : word < 2 ^ 32
  word_small = omega (arith, bits_a.small, bits_b.small, bits_c.small, bits_d.small)

  masked : (m : ℕ) → m < 256 → bit_and word (((m * 256 + m) * 256 + m) * 256 + m) ≡ ((bit_and d m * 256 + bit_and c m) * 256 + bit_and b m) * 256 + bit_and a m
  masked m h =
      let e : word ≡ ((d * 256 + c) * 256 + b) * 256 + a = omega arith in
      ap (λ w. bit_and w (((m * 256 + m) * 256 + m) * 256 + m)) e ∙ mask m a b c d h bits_a.small bits_b.small bits_c.small

  -- eight times their codes, each in its byte
  abbrev pub codes : ℕ
  codes = bit_and word 33686018 * 4 + bit_and word 67372036 * 2 + bit_and word 269488144

  codes_are : codes ≡ 8 * (code_of a + code_of b * 256 + code_of c * 65536 + code_of d * 16777216)
  codes_are =
      omega (arith, masked 2 (omega arith), masked 4 (omega arith), masked 16 (omega arith), bits_a.code, bits_b.code, bits_c.code, bits_d.code)

  pub codes-small : codes < 2 ^ 29
  codes-small = omega (arith, codes_are, bits_a.low, bits_b.low, bits_c.low, bits_d.low)

  -- the product has the key from bit 27 on, and eight bits further digits that are no part of it
  pub joined : codes * 1074791425 / 134217728 % 256 ≡ key_of (a ∷ b ∷ c ∷ d ∷ [])
  unfolding key_of
  joined =
      let low = 8 * (code_of a + (code_of a * 4 + code_of b) * 256 + (code_of a * 16 + code_of b * 4 + code_of c) * 65536) in
      let key = code_of a * 64 + code_of b * 16 + code_of c * 4 + code_of d in
      let rest = code_of b * 64 + code_of c * 16 + code_of d * 4 + (code_of c * 64 + code_of d * 16) * 256 + code_of d * 4194304 in
      let product : codes * 1074791425 ≡ (rest * 256 + key) * 134217728 + low = omega (arith, codes_are) in
      let low_small : low < 134217728 = omega (arith, bits_a.low, bits_b.low, bits_c.low) in
      let key_small : key < 256 = omega (arith, bits_a.low, bits_b.low, bits_c.low, bits_d.low) in
      ap (λ n. n / 134217728 % 256) product ∙ ap (λ n. n % 256) (high (rest * 256 + key) 27 low_small) ∙ low_part rest 8 key_small ∙ omega arith

-- ---- four bases of a sequence

-- the first base of a window
window_first : (s : List ℕ) (at next n : ℕ) → at < length s → next ≡ at + 1 → window_of s at (suc n) ≡ get_or s at 0 ∷ window_of s next n
window_first s at next n h e = rw (e, drop-cons s at 0 h, add-one)

-- a window of four bases
pub window_four : (s : List ℕ) (at : ℕ) → at + 4 ≤ length s → window_of s at 4 ≡ get_or s at 0 ∷ get_or s (at + 1) 0 ∷ get_or s (at + 2) 0 ∷ get_or s (at + 3) 0 ∷ []
window_four s at h =
    window_first s at (at + 1) 3 (omega arith) (omega arith)
    ∙ ap (λ w. get_or s at 0 ∷ w) (window_first s (at + 1) (at + 2) 2 (omega arith) (omega arith)
    ∙ ap (λ w. get_or s (at + 1) 0 ∷ w) (window_first s (at + 2) (at + 3) 1 (omega arith) (omega arith)
    ∙ ap (λ w. get_or s (at + 2) 0 ∷ w) (window_first s (at + 3) (at + 4) 0 (omega arith) (omega arith))))

-- four bases more
pub key_fours : (s : List ℕ) (start i : ℕ) → start + i + 4 ≤ length s → key_of (window_of s start (i + 4)) ≡ key_of (window_of s start i) * 256 + key_of (window_of s (start + i) 4)
unfolding key_of
key_fours s start i h =
    let e : i + 1 + 1 + 1 + 1 ≡ i + 4 = omega arith in
    let f : start + (i + 1) ≡ start + i + 1 = omega arith in
    let g : start + (i + 1 + 1) ≡ start + i + 2 = omega arith in
    let k : start + (i + 1 + 1 + 1) ≡ start + i + 3 = omega arith in
    let m = rw e at (key_more s start (i + 1 + 1 + 1) (omega arith)) in
    omega (arith, m, key_more s start (i + 1 + 1) (omega arith), key_more s start (i + 1) (omega arith), key_more s start i (omega arith), ap (λ w. key_of w) (window_four s (start + i) h), ap (λ n. code_of (get_or s n 0)) f, ap (λ n. code_of (get_or s n 0)) g, ap (λ n. code_of (get_or s n 0)) k)

-- four bases more of a seed
module _ (s : List ℕ) (q start fours k key : ℕ) (i : SeedIn s q start) (f : FoursIn s q fours) (b : KeyBegun s q start (4 * k) key) (h : k < fours) where
  fours_fit : start + 4 * k + 4 ≤ length s
  fours_fit = omega (arith, seed_end s q start i, f.inside)

  fours_key : key * 256 + key_of (window_of s (start + 4 * k) 4) ≡ key_of (window_of s start (4 * (k + 1)))
  fours_key =
      let e : 4 * k + 4 ≡ 4 * (k + 1) = omega arith in
      omega (arith, b.digits, key_fours s start (4 * k) fours_fit, ap (λ n. key_of (window_of s start n)) e)

  pub fours_room : key * 256 + key_of (window_of s (start + 4 * k) 4) < 2 ^ 64
  fours_room =
      let n = length-window s start (4 * (k + 1)) (omega (arith, fours_fit)) in
      omega (arith, fours_key, key_fits (window_of s start (4 * (k + 1))) (omega (arith, n, f.inside, i.size.most)))

  pub fours_next : KeyBegun s q start (4 * (k + 1)) (key * 256 + key_of (window_of s (start + 4 * k) 4))
  fours_next = record { inside = omega (arith, f.inside); digits = fours_key }
