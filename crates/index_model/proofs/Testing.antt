-- How the test of a lent index goes: one posting, a block of rows, all rows; and what the first and the last base of a row tell.
use mathlib.Core.Path.{◌≡◌, sym, ap, subst, ◌∙◌}
use mathlib.Core.Bool.{Bool, true, false, ◌&&◌}
use mathlib.Core.Logic.{◌⊎◌, inl, inr}
use mathlib.Core.List.{List, []}
use Prim.Native.Nat.{ℕ, zero, suc, ◌+◌, ◌-◌, ◌*◌, ◌%◌, ◌^◌, ◌<◌, ◌≤◌}
use native.Mathlib.Numerals.{sub-one}
use native.Mathlib.Nat.{mul-le-mul_right, pow-le-pow_right}
use native.Mathlib.Omega.{arith}
use lib.ListN.{length, get_or}
use lib.Dec.{ltb, eqb}
use borrow.Author.Tests.{lt-ltb, ltb-true, ltb-false, eqb-true, eq-eqb}
use Rattle.lists.specs.Cut.{window}
use Rattle.lists.specs.Filter.{every}
use Rattle.lists.proofs.Cases.{by_test, clash, compare, and-true}
use Rattle.lists.proofs.Every.{every_at}
use Rattle.bases.specs.Base.{code_of, is_capital}
use Rattle.bases.specs.Read.{capitals}
use Rattle.bases.proofs.Bytes.{code_le, letter_low, letter_capital}
use Rattle.index_columns.specs.Posting.{posting, earlier, row}
use Rattle.index_seeds.specs.Key.{key_of, SeedLength}
use Rattle.index_seeds.specs.Window.{starts}
use Rattle.index_seeds.proofs.Keying.{key_first, key_more}
use Rattle.index_model.specs.Index.{is_seed, Block, BlockRight, Climbs, Denies}

-- ---- one posting

-- the sequence of a rank has capitals
pub rank_capitals : (ss : List (List ℕ)) (rank : ℕ) → every capitals ss ≡ true → rank < length ss → (s : List ℕ) → s ≡ get_or ss rank [] → capitals s ≡ true
rank_capitals ss rank c h s e = rw e (every_at capitals [] ss c rank h)

pub some_rank : (q : ℕ) (ss : List (List ℕ)) (key rank position : ℕ) → rank < length ss → (s : List ℕ) → s ≡ get_or ss rank [] → (ltb position (starts q s) && eqb key (key_of (window s position q))) ≡ is_seed q ss (posting key rank position)
some_rank q ss key rank position h s e = rw (lt-ltb rank (length ss) h, e)

pub row_seed : (ks rs os : List ℕ) (q : ℕ) (ss : List (List ℕ)) (i key rank position : ℕ) (r : Bool) → key ≡ get_or ks i 0 → rank ≡ get_or rs i 0 → position ≡ get_or os i 0 → r ≡ is_seed q ss (posting key rank position) → is_seed q ss (row ks rs os i) ≡ r
row_seed ks rs os q ss i key rank position r e f g h = sym (h ∙ rw (e, f, g))

-- ---- a block of rows

-- a block under way: its rows up to i are right
pub record BlockTo (q : ℕ) (ss : List (List ℕ)) (ks rs os : List ℕ) (from end i : ℕ) : Type 0 where
  pub begun : from ≤ i
  pub inside : i ≤ end
  pub right : BlockRight q ss ks rs os from i

module _ (q : ℕ) (ss : List (List ℕ)) (ks rs os : List ℕ) (from end i : ℕ) (s : BlockTo q ss ks rs os from end i) (h : i < end) where
  pub block_more : (n : ℕ) → n ≡ i + 1 → is_seed q ss (row ks rs os i) ≡ true → Climbs ks rs os i → BlockTo q ss ks rs os from end n
  block_more n m e k =
      record {
        begun = omega (arith, s.begun);
        inside = omega arith;
        right = record { seeds = λ j l o. seed j l (compare j i) o; climb = λ j l o. climbs j l (compare j i) o };
      }
    where
      seed : (j : ℕ) → from ≤ j → (j < i) ⊎ ((j ≡ i) ⊎ (i < j)) → j < n → is_seed q ss (row ks rs os j) ≡ true
      seed j l (inl o) p = s.right.seeds j l o
      seed j l (inr (inl o)) p = ap (λ x. is_seed q ss (row ks rs os x)) o ∙ e
      seed j l (inr (inr o)) p = absurd (omega arith)

      climbs : (j : ℕ) → from ≤ j → (j < i) ⊎ ((j ≡ i) ⊎ (i < j)) → j < n → Climbs ks rs os j
      climbs j l (inl o) p = s.right.climb j l o
      climbs j l (inr (inl o)) p = subst (Climbs ks rs os) (sym o) k
      climbs j l (inr (inr o)) p = absurd (omega arith)

-- ---- all rows

-- the first i rows are right
pub record RowsTo (q : ℕ) (ss : List (List ℕ)) (ks rs os : List ℕ) (i : ℕ) : Type 0 where
  pub inside : i ≤ length ks
  pub seeds : (j : ℕ) → j < i → is_seed q ss (row ks rs os j) ≡ true
  pub climb : (j : ℕ) → suc j < i → earlier (row ks rs os j) (row ks rs os (suc j)) ≡ true

module _ (q : ℕ) (ss : List (List ℕ)) (ks rs os : List ℕ) (i : ℕ) (s : RowsTo q ss ks rs os i) where
  -- the first rows and the block behind them
  pub rows_more : (end n : ℕ) → n ≡ end → Block (length ks) i end → BlockRight q ss ks rs os i end → RowsTo q ss ks rs os n
  rows_more end n e b r =
      record {
        inside = omega (arith, b.inside);
        seeds = λ j l. by_test (ltb j i) (λ t. s.seeds j (ltb-true j i t)) (λ t. r.seeds j (ltb-false j i t) (omega arith));
        climb = λ j l. by_test (ltb (suc j) i) (λ t. s.climb j (ltb-true (suc j) i t)) (λ t. r.climb (suc j) (ltb-false (suc j) i t) (omega arith));
      }

-- ---- the ends of a row

-- the last digit of the key of a seed is its last base
last_digit : (s : List ℕ) (q start : ℕ) → capitals s ≡ true → 1 ≤ q → start + q ≤ length s → key_of (window s start q) % 4 ≡ code_of (get_or s (start + (q - 1)) 0)
last_digit s q start c some h =
    let e : q - 1 + 1 ≡ q = omega arith in
    let b = get_or s (start + (q - 1)) 0 in
    let low = letter_low b (letter_capital b (every_at is_capital 0 s c (start + (q - 1)) (omega arith))) in
    let k : key_of (window s start q) ≡ key_of (window s start (q - 1)) * 4 + code_of b = rw e at (key_more s start (q - 1) (omega arith)) in
    omega arith

-- the key of a seed is at least what its first base counts
first_digit : (s : List ℕ) (q start : ℕ) → 1 ≤ q → start + q ≤ length s → code_of (get_or s start 0) * 4 ^ (q - 1) ≤ key_of (window s start q)
first_digit s zero start some h = absurd (omega arith)
first_digit s (suc p) start some h = rw sub-one (omega (arith, key_first s start p h))

-- which fits 64 bits
pub first_fits : (q : ℕ) → SeedLength q → (b code high : ℕ) → code ≡ code_of b → high ≡ 4 ^ (q - 1) → code * high < 2 ^ 64
first_fits q size b code high e f =
    let few : q - 1 ≤ 30 = omega (arith, size.most) in
    let p : 4 ^ (q - 1) ≤ 4 ^ 30 = pow-le-pow_right (omega arith) few in
    let m = mul-le-mul_right (4 ^ (q - 1)) (code_le b) in
    rw (e, f) (omega (arith, m, p))

module _ (q : ℕ) (ss : List (List ℕ)) (key rank position : ℕ) (some : 1 ≤ q) (h : rank < length ss) (s : List ℕ) (e : s ≡ get_or ss rank []) (inside : position + q ≤ length s) where
  -- the key of a posting that is a seed
  its_key : is_seed q ss (posting key rank position) ≡ true → key ≡ key_of (window s position q)
  its_key k =
      let a = and-true (ltb position (starts q s)) (eqb key (key_of (window s position q))) (some_rank q ss key rank position h s e ∙ k) in
      eqb-true key (key_of (window s position q)) a.1

  -- a posting is no seed if its key is less than its first base counts
  pub by_first : (code high : ℕ) → code ≡ code_of (get_or s position 0) → high ≡ 4 ^ (q - 1) → key < code * high → Denies false (is_seed q ss (posting key rank position) ≡ true)
  by_first code high f g l = record { not_so = λ t k. absurd (omega (arith, its_key k, rw (sym f, sym g) at (first_digit s q position some inside))) }

  -- and if its last base is another
  pub by_last : every capitals ss ≡ true → (code at : ℕ) → code ≡ code_of (get_or s at 0) → at ≡ position + (q - 1) → Denies (eqb (key % 4) code) (is_seed q ss (posting key rank position) ≡ true)
  by_last c code at g f = record { not_so = λ t k. clash (same k) t }
    where
      same : is_seed q ss (posting key rank position) ≡ true → eqb (key % 4) code ≡ true
      same k =
          let d = last_digit s q position (rank_capitals ss rank c h s e) some inside in
          eq-eqb (key % 4) code (rw (its_key k) (d ∙ sym (g ∙ ap (λ n. code_of (get_or s n 0)) f)))
