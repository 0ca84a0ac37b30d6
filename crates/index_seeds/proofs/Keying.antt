-- The laws of a seed's key: one base more at its end, how large it can be, and the step to the next start.
use mathlib.Core.Path.{◌≡◌, refl, ap}
use mathlib.Core.Bool.{true}
use mathlib.Core.List.{List, [], ◌∷◌, ◌++◌}
use Prim.Native.Nat.{ℕ, zero, suc, ◌+◌, ◌-◌, ◌*◌, ◌^◌, ◌<◌, ◌≤◌}
use native.Mathlib.Nat.{pow-suc, mul_assoc, mul-le-mul_right, pow-le-pow_right}
use native.Mathlib.Numerals.{add-one, sub-one}
use native.Mathlib.Omega.{arith}
use lib.ListN.{length, get_or, drop, length-append, length-drop}
use lib.Seq.{take-suc, drop-cons, get_or-drop}
use Rattle.index_seeds.specs.Window.{window_of}
use Rattle.lists.proofs.Cases.{and-true}
use Rattle.lists.proofs.Cut.{length-window}
use Rattle.bases.specs.Base.{code_of, upper_of, is_capital}
use Rattle.bases.specs.Read.{letters, oriented}
use Rattle.bases.proofs.Bytes.{code_le, letter_low}
use Rattle.bases.proofs.Turning.{length-oriented}
use Rattle.index_seeds.specs.Key.{key_of, SeedLength, SeedIn, KeyBegun, KeyHeld}
use Rattle.index_seeds.proofs.Windows.{fits_end, end_fits}

-- a seed within a sequence ends at most at the end
module _ (s : List ℕ) (q start : ℕ) where
  pub seed_in : SeedLength q → start + q ≤ length s → SeedIn s q start
  seed_in size h = record { size = size; inside = end_fits q s start h }

  pub seed_end : SeedIn s q start → start + q ≤ length s
  seed_end i = fits_end q s start i.inside

pub seed_oriented : (strand : ℕ) (bs : List ℕ) (q start : ℕ) → SeedIn bs q start → SeedIn (oriented strand bs) q start
seed_oriented strand bs q start s = record { size = s.size; inside = rw length-oriented s.inside }

-- ---- keys

key_snoc : (w : List ℕ) (b : ℕ) → key_of (w ++ (b ∷ [])) ≡ key_of w * 4 + code_of b
unfolding key_of
key_snoc [] b = omega arith
key_snoc (x ∷ w) b =
    let e : code_of x * 4 ^ length (w ++ (b ∷ [])) ≡ code_of x * 4 ^ length w * 4 = simp (length-append, add-one, pow-suc, mul_assoc) in
    omega (arith, e, key_snoc w b)

-- a key in terms of its length, marks included
key_loose : (w : List ℕ) → 3 * key_of w + 4 ≤ 4 * 4 ^ length w
unfolding key_of
key_loose [] = omega arith
key_loose (x ∷ w) = omega (arith, key_loose w, mul-le-mul_right (4 ^ length w) (code_le x), pow-suc 4 (length w))

-- the key of q letters is below 4 to the power q
pub key_below : (w : List ℕ) → letters w ≡ true → key_of w < 4 ^ length w
unfolding key_of
key_below [] h = omega arith
key_below (x ∷ w) h =
    let a = and-true (is_capital (upper_of x)) (letters w) h in
    let c : code_of x ≤ 3 = omega (arith, letter_low x a.0) in
    omega (arith, key_below w a.1, mul-le-mul_right (4 ^ length w) c, pow-suc 4 (length w))

-- behind at most 30 bases there is room for one more
key_room : (w : List ℕ) → length w ≤ 30 → key_of w * 4 + 4 < 2 ^ 64
key_room w h =
    let p : 4 ^ length w ≤ 4 ^ 30 = pow-le-pow_right (omega arith) h in
    omega (arith, key_loose w)

-- at most 31 bases have a key of 64 bits
pub key_fits : (w : List ℕ) → length w ≤ 31 → key_of w < 2 ^ 64
key_fits w h =
    let p : 4 ^ length w ≤ 4 ^ 31 = pow-le-pow_right (omega arith) h in
    omega (arith, key_loose w)

-- what the first of at most 31 digits counts
pub four_fits : (n : ℕ) → n < 31 → 4 ^ n < 2 ^ 64
four_fits n h =
    let m : n ≤ 30 = omega arith in
    let p : 4 ^ n ≤ 4 ^ 30 = pow-le-pow_right (omega arith) m in
    omega arith

-- one base more
pub key_more : (l : List ℕ) (start i : ℕ) → start + i < length l → key_of (window_of l start (i + 1)) ≡ key_of (window_of l start i) * 4 + code_of (get_or l (start + i) 0)
key_more l start i h =
    let r : i < length (drop start l) = rw length-drop (omega arith) in
    rw (add-one, take-suc (drop start l) i 0 r, get_or-drop) (key_snoc (window_of l start i) (get_or l (start + i) 0))

pub more_room : (l : List ℕ) (start i : ℕ) → start + i ≤ length l → i ≤ 30 → key_of (window_of l start i) * 4 + 4 < 2 ^ 64
more_room l start i h k = key_room (window_of l start i) (omega (arith, length-window l start i h))

-- the first digit
pub key_first : (l : List ℕ) (start p : ℕ) → start + suc p ≤ length l → key_of (window_of l start (suc p)) ≡ code_of (get_or l start 0) * 4 ^ p + key_of (window_of l (start + 1) p)
unfolding key_of
key_first l start p h =
    let e : window_of l start (suc p) ≡ get_or l start 0 ∷ window_of l (start + 1) p = rw (drop-cons l start 0 (omega arith), add-one) in
    let n : length (window_of l (start + 1) p) ≡ p = length-window l (start + 1) p (omega arith) in
    rw (e, n)

-- the step to the next start: the key without its first digit, and one digit more at its end
pub record Step (l : List ℕ) (start q high key first last : ℕ) : Type 0 where
  pub digit : first * high ≤ key
  pub fits : key < 2 ^ 64
  pub room : (key - first * high) * 4 + 4 < 2 ^ 64
  pub small : last ≤ 4
  pub next : (key - first * high) * 4 + last ≡ key_of (window_of l (start + 1) q)

step_by : (l : List ℕ) (start p : ℕ) → suc p ≤ 31 → start + 1 + suc p ≤ length l → Step l start (suc p) (4 ^ p) (key_of (window_of l start (suc p))) (code_of (get_or l start 0)) (code_of (get_or l (start + suc p) 0))
step_by l start p most h =
    let f = key_first l start p (omega arith) in
    let rest : key_of (window_of l start (suc p)) - code_of (get_or l start 0) * 4 ^ p ≡ key_of (window_of l (start + 1) p) = omega arith in
    let r = key_room (window_of l (start + 1) p) (omega (arith, length-window l (start + 1) p (omega arith))) in
    let e : start + 1 + p ≡ start + suc p = omega arith in
    record {
      digit = omega arith;
      fits = key_fits (window_of l start (suc p)) (omega (arith, length-window l start (suc p) (omega arith)));
      room = omega arith;
      small = code_le (get_or l (start + suc p) 0);
      next = omega (arith, rw add-one at (key_more l (start + 1) p (omega arith)), ap (λ n. code_of (get_or l n 0)) e);
    }

pub step : (l : List ℕ) (start q high key first last : ℕ) → SeedIn l q (start + 1) → KeyHeld l q start high key → first ≡ code_of (get_or l start 0) → last ≡ code_of (get_or l (start + q) 0) → Step l start q high key first last
step l start zero high key first last s k f g = absurd (omega (arith, s.size.some))
step l start (suc p) high key first last s k f g =
    rw (k.first_digit, k.key_is, f, g, sub-one) (step_by l start p s.size.most (omega (arith, seed_end l (suc p) (start + 1) s)))

-- ---- a key under way

pub digits_start : (l : List ℕ) (start q : ℕ) → KeyBegun l q start 0 0
unfolding key_of
digits_start l start q = record { inside = omega arith; digits = refl }

-- the digit of one base more
pub record Digit (l : List ℕ) (start q key i code : ℕ) : Type 0 where
  pub room : key * 4 + 4 < 2 ^ 64
  pub small : code ≤ 4
  pub next : KeyBegun l q start (i + 1) (key * 4 + code)

module _ (strand : ℕ) (bs : List ℕ) (start q key i : ℕ) (s : SeedIn bs q start) (d : KeyBegun (oriented strand bs) q start i key) where
  seed_fits : start + q ≤ length (oriented strand bs)
  seed_fits = seed_end (oriented strand bs) q start (seed_oriented strand bs q start s)

  pub digits_next : i < q → (code : ℕ) → code ≡ code_of (get_or (oriented strand bs) (start + i) 0) → Digit (oriented strand bs) start q key i code
  digits_next h code e =
      let f = seed_fits in
      record {
        room = rw d.digits (more_room (oriented strand bs) start i (omega arith) (omega (arith, s.size.most)));
        small = omega (arith, code_le (get_or (oriented strand bs) (start + i) 0));
        next = record { inside = omega arith; digits = omega (arith, key_more (oriented strand bs) start i (omega arith), d.digits) };
      }
