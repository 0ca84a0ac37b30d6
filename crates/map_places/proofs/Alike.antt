-- Bases that agree: parts of them, and the keys of their seeds.
use mathlib.Core.Path.{◌≡◌, refl, sym, ap, ap₂, ◌∙◌}
use mathlib.Core.Bool.{true}
use mathlib.Core.List.{List}
use Prim.Native.Nat.{ℕ, zero, suc, ◌+◌, ◌-◌, ◌*◌, ◌≤◌, ◌<◌}
use native.Mathlib.Omega.{arith}
use native.Mathlib.Numerals.{add-one}
use lib.ListN.{length, get_or}
use lib.Dec.{eqb, ltb}
use borrow.Author.Tests.{eqb-true, eq-eqb, ltb-true, ltb-false}
use mathlib.Core.Logic.{◌⊎◌, inl, inr}
use Rattle.lists.proofs.Cases.{by_test, and-true, compare}
use Rattle.lists.proofs.Every.{every_at}
use Rattle.bases.specs.Base.{code_of, is_capital}
use Rattle.bases.specs.Read.{LettersAt}
use Rattle.bases.proofs.Bytes.{letter_capital}
use Rattle.index_seeds.specs.Key.{key_of}
use Rattle.index_seeds.specs.Window.{window_of}
use Rattle.index_seeds.proofs.Keying.{key_more}
use Rattle.map_places.specs.Agreeing.{agreeing, Reach}

module _ (a : List ℕ) (i : ℕ) (b : List ℕ) (j : ℕ) where
  abbrev Same : ℕ → Type 0
  Same m = code_of (get_or a (i + m) 0) ≡ code_of (get_or b (j + m) 0)

  -- base for base
  pub agree_each : (n : ℕ) → agreeing n a i b j ≡ true → (m : ℕ) → m < n → Same m
  agree_each zero t m h = absurd (omega arith)
  agree_each (suc n) t m h =
      let p = and-true (agreeing n a i b j) (eqb (code_of (get_or a (i + n) 0)) (code_of (get_or b (j + n) 0))) t in
      last_or (λ l. agree_each n p.0 m l) (eqb-true (code_of (get_or a (i + n) 0)) (code_of (get_or b (j + n) 0)) p.1) (compare m n)
    where
      last_or : (m < n → Same m) → Same n → (m < n) ⊎ ((m ≡ n) ⊎ (n < m)) → Same m
      last_or f l (inl k) = f k
      last_or f l (inr (inl e)) = rw e l
      last_or f l (inr (inr g)) = absurd (omega arith)

  pub each_agree : (n : ℕ) → ((m : ℕ) → m < n → Same m) → agreeing n a i b j ≡ true
  each_agree zero f = refl
  each_agree (suc n) f = rw (each_agree n (λ m h. f m (omega arith)), eq-eqb (code_of (get_or a (i + n) 0)) (code_of (get_or b (j + n) 0)) (f n (omega arith)))

-- a stretch behind another one
pub agree_more : (a : List ℕ) (i : ℕ) (b : List ℕ) (j n k : ℕ) → agreeing n a i b j ≡ true → agreeing k a (i + n) b (j + n) ≡ true → agreeing (n + k) a i b j ≡ true
agree_more a i b j n k t u = each_agree a i b j (n + k) (λ m h. side m h (by_test (ltb m n) (λ e. inl (ltb-true m n e)) (λ e. inr (ltb-false m n e))))
  where
    side : (m : ℕ) → m < n + k → (m < n) ⊎ (n ≤ m) → code_of (get_or a (i + m) 0) ≡ code_of (get_or b (j + m) 0)
    side m h (inl l) = agree_each a i b j n t m l
    side m h (inr l) =
        let e : i + n + (m - n) ≡ i + m = omega arith in
        let f : j + n + (m - n) ≡ j + m = omega arith in
        ap (λ x. code_of (get_or a x 0)) (sym e) ∙ agree_each a (i + n) b (j + n) k u (m - n) (omega arith) ∙ ap (λ x. code_of (get_or b x 0)) f

-- a part of what agrees
pub agree_part : (a : List ℕ) (i : ℕ) (b : List ℕ) (j n e k : ℕ) → agreeing n a i b j ≡ true → e + k ≤ n → agreeing k a (i + e) b (j + e) ≡ true
agree_part a i b j n e k t h =
    each_agree a (i + e) b (j + e) k
    (λ m l. (let f : i + (e + m) ≡ i + e + m = omega arith in
    let g : j + (e + m) ≡ j + e + m = omega arith in
    ap (λ x. code_of (get_or a x 0)) (sym f) ∙ agree_each a i b j n t (e + m) (omega arith) ∙ ap (λ x. code_of (get_or b x 0)) g))

-- ---- keys

-- seeds that agree have one key
pub agree_key : (a : List ℕ) (i : ℕ) (b : List ℕ) (j q : ℕ) → i + q ≤ length a → j + q ≤ length b → agreeing q a i b j ≡ true → key_of (window_of a i q) ≡ key_of (window_of b j q)
agree_key a i b j zero h k t = refl
agree_key a i b j (suc q) h k t =
    let p = and-true (agreeing q a i b j) (eqb (code_of (get_or a (i + q) 0)) (code_of (get_or b (j + q) 0))) t in
    let r = agree_key a i b j q (omega arith) (omega arith) p.0 in
    let c = eqb-true (code_of (get_or a (i + q) 0)) (code_of (get_or b (j + q) 0)) p.1 in
    let m = key_more a i q (omega arith) in
    let n = key_more b j q (omega arith) in
    rw (← add-one q) (m ∙ ap₂ (λ x y. x * 4 + y) r c ∙ sym n)

-- and seeds of letters with one key agree
pub key_agree : (a : List ℕ) (i : ℕ) (b : List ℕ) (j q : ℕ) → i + q ≤ length a → j + q ≤ length b → ((m : ℕ) → m < q → code_of (get_or a (i + m) 0) < 4) → ((m : ℕ) → m < q → code_of (get_or b (j + m) 0) < 4)
    → key_of (window_of a i q) ≡ key_of (window_of b j q) → agreeing q a i b j ≡ true
key_agree a i b j zero h k f g e = refl
key_agree a i b j (suc q) h k f g e =
    let m = key_more a i q (omega arith) in
    let n = key_more b j q (omega arith) in
    let same : key_of (window_of a i (q + 1)) ≡ key_of (window_of b j (q + 1)) = rw (add-one q) e in
    let x = f q (omega arith) in
    let y = g q (omega arith) in
    let t = key_agree a i b j q (omega arith) (omega arith) (λ m l. f m (omega arith)) (λ m l. g m (omega arith)) (omega arith) in
    rw (t, eq-eqb (code_of (get_or a (i + q) 0)) (code_of (get_or b (j + q) 0)) (omega arith))

-- ---- what a comparison asks

-- base k of as many as are there
pub letters_there : (s : List ℕ) (at : ℕ) (read : List ℕ) (from n : ℕ) → Reach s at read from n → (k : ℕ) → k < n → LettersAt (get_or s (at + k) 0) read (from + k)
letters_there s at read from n r k h =
    record {
      inside = omega (arith, r.in_read);
      letter_right = letter_capital (get_or s (at + k) 0) (every_at is_capital 0 s r.sequence (at + k) (omega (arith, r.in_sequence)));
      letters_right = r.read_right;
    }
