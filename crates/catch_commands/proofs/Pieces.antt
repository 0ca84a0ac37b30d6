-- Bytes taken from a stream: where they are there, where they are not, and whatever follows.
use mathlib.Core.Path.{◌≡◌, sym, ap, ◌∙◌}
use mathlib.Core.Bool.{Bool, true, false}
use mathlib.Core.List.{List, [], ◌++◌, append-nil}
use Prim.Native.Nat.{ℕ, ◌+◌, ◌<◌, ◌≤◌}
use native.Mathlib.Omega.{arith}
use lib.ListN.{length, take, drop, length-append, length-drop}
use lib.Dec.{leb}
use lib.Seq.{take-append-le, drop-append-le, length-take-le, take-add, drop_at, drop-drop}
use borrow.Author.Tests.{leb-true, leb-false, le-leb, lt-leb}
use Rattle.lists.specs.Cut.{window}
use Rattle.lists.proofs.Cases.{by_test}
use Rattle.catch_commands.specs.Operands.{Parsed, parsed, wrong, short, ◌followed_by◌, bytes_in}
use Rattle.catch_commands.specs.Commands.{provided}

-- what holds whatever follows holds where nothing follows
pub here : {A : Type 0} (f g : List ℕ → A) (b d : List ℕ) → ((more : List ℕ) → f (b ++ more) ≡ g (d ++ more)) → f b ≡ g d
here f g b d h = ap f (sym (append-nil b)) ∙ h [] ∙ ap g (append-nil d)

pub not_wrong : {A C : Type 0} {a : A} {rest : List ℕ} → wrong ≡ parsed a rest → C
not_wrong e = let z : ◌≡◌ {A = ℕ} 0 1 = cc in absurd (omega arith)

pub not_short : {A C : Type 0} {a : A} {rest : List ℕ} → short ≡ parsed a rest → C
not_short e = let z : ◌≡◌ {A = ℕ} 0 1 = cc in absurd (omega arith)

-- k bytes behind m of the first m + k
pub drop-take : (m k : ℕ) (b : List ℕ) → m ≤ length b → drop m (take (m + k) b) ≡ window b m k
drop-take m k b h = ap (λ l. drop m l) (take-add m k b) ∙ drop_at (take m b) (take k (drop m b)) m (length-take-le m b h)

-- ---- a test

module _ {A : Type 0} (a : A) (rest : List ℕ) where
  pub granted : (t : Bool) → t ≡ true → provided t a rest ≡ parsed a rest
  granted t e = ap (λ b. provided b a rest) e

  pub denied : (t : Bool) → t ≡ false → provided t a rest ≡ wrong
  denied t e = ap (λ b. provided b a rest) e

-- ---- one piece

pub bytes_there : (n : ℕ) (b : List ℕ) → n ≤ length b → bytes_in n b ≡ parsed (take n b) (drop n b)
bytes_there n b h = rw (le-leb n (length b) h)

pub bytes_in_lem : (n : ℕ) (b more : List ℕ) → n ≤ length b → bytes_in n (b ++ more) ≡ parsed (take n b) (drop n b ++ more)
bytes_in_lem n b more h =
    bytes_there n (b ++ more) (simp length-append (omega arith)) ∙ ap (λ l. parsed l (drop n (b ++ more))) (take-append-le n b more h) ∙ ap (λ l. parsed (take n b) l) (drop-append-le n b more h)

pub bytes_lacking : (n : ℕ) (b : List ℕ) → length b < n → bytes_in n b ≡ short
bytes_lacking n b h = rw (lt-leb n (length b) h)

module _ {A B : Type 0} (p : Parsed A) (next : A → List ℕ → Parsed B) where
  pub behind_wrong : p ≡ wrong → (p followed_by next) ≡ wrong
  behind_wrong e = ap (λ q. q followed_by next) e

  pub behind_short : p ≡ short → (p followed_by next) ≡ short
  behind_short e = ap (λ q. q followed_by next) e

  pub behind_parsed : (a : A) (rest : List ℕ) → p ≡ parsed a rest → (p followed_by next) ≡ next a rest
  behind_parsed a rest e = ap (λ q. q followed_by next) e

-- where something was read behind bytes, these were there
pub bytes_were : {B : Type 0} (n : ℕ) (b : List ℕ) (next : List ℕ → List ℕ → Parsed B) (a : B) (rest : List ℕ) → (bytes_in n b followed_by next) ≡ parsed a rest → (n ≤ length b) × (next (take n b) (drop n b) ≡ parsed a rest)
bytes_were n b next a rest e =
    by_test (leb n (length b))
    (λ t. let h = leb-true n (length b) t in (h, sym (behind_parsed (bytes_in n b) next (take n b) (drop n b) (bytes_there n b h)) ∙ e))
    (λ t. not_short (sym (behind_short (bytes_in n b) next (bytes_lacking n b (leb-false n (length b) t))) ∙ e))

-- ---- two pieces, the one behind the other

abbrev pub two_in : {B : Type 0} → ℕ → ℕ → List ℕ → (List ℕ → List ℕ → List ℕ → Parsed B) → Parsed B
two_in n k bytes next = bytes_in n bytes followed_by λ x rest. bytes_in k rest followed_by λ y. next x y

module _ {B : Type 0} (next : List ℕ → List ℕ → List ℕ → Parsed B) where
  pub two_lacking : (n k : ℕ) (b : List ℕ) → length b < n + k → two_in n k b next ≡ short
  two_lacking n k b h =
      by_test (leb n (length b))
      (λ t. let l = leb-true n (length b) t in
      behind_parsed (bytes_in n b) (λ x rest. bytes_in k rest followed_by λ y. next x y) (take n b) (drop n b) (bytes_there n b l)
      ∙ behind_short (bytes_in k (drop n b)) (λ y. next (take n b) y) (bytes_lacking k (drop n b) (simp length-drop (omega arith))))
      (λ t. behind_short (bytes_in n b) (λ x rest. bytes_in k rest followed_by λ y. next x y) (bytes_lacking n b (leb-false n (length b) t)))

  -- from place s on
  pub two_in_lem : (b more : List ℕ) (s n k : ℕ) → s + n + k ≤ length b → two_in n k (drop s b ++ more) next ≡ next (window b s n) (window b (s + n) k) (drop (s + n + k) b ++ more)
  two_in_lem b more s n k h =
      behind_parsed (bytes_in n (drop s b ++ more)) (λ x rest. bytes_in k rest followed_by λ y. next x y) (window b s n) (drop n (drop s b) ++ more) (bytes_in_lem n (drop s b) more (simp length-drop (omega arith)))
      ∙ ap (λ l. bytes_in k (l ++ more) followed_by λ y. next (window b s n) y) (drop-drop n s b)
      ∙ behind_parsed (bytes_in k (drop (s + n) b ++ more)) (λ y. next (window b s n) y) (window b (s + n) k) (drop k (drop (s + n) b) ++ more) (bytes_in_lem k (drop (s + n) b) more (simp length-drop (omega arith)))
      ∙ ap (λ l. next (window b s n) (window b (s + n) k) (l ++ more)) (drop-drop k (s + n) b)
