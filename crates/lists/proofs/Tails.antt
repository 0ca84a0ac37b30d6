-- The end of a list, lent and put back: alone, or once the part before it is back.
use mathlib.Core.Path.{◌≡◌, ap, ◌∙◌}
use mathlib.Core.List.{List, ◌++◌, append-nil}
use Prim.Native.Nat.{ℕ, ◌-◌, ◌≤◌}
use native.Mathlib.Omega.{arith}
use lib.ListN.{length, take, drop, length-append, length-drop, drop_of_length-le}
use lib.Seq.{take_all, take_at, drop_at, length-take-le}
use borrow.Rule.Slice.PartMut.{put_mid}

module _ (i : ℕ) (xs : List ℕ) where
  no_longer : length (drop i xs) ≤ length xs - i
  no_longer = rw length-drop (omega arith)

  pub tail_lent : take (length xs - i) (drop i xs) ≡ drop i xs
  tail_lent = take_all (length xs - i) (drop i xs) no_longer

  pub tail_back : (g : List ℕ) → put_mid i (length xs - i) xs g ≡ take i xs ++ g
  tail_back g = rw (drop_of_length-le (drop i xs) no_longer, append-nil)

module _ (cut : ℕ) (xs : List ℕ) (inside : cut ≤ length xs) where
  pub length_first : length (take cut xs) ≡ cut
  length_first = length-take-le cut xs inside

  -- the part up to the cut is back as l
  module _ (l : List ℕ) (e : length l ≡ length (take cut xs)) where
    -- what is left for the second part
    pub rest : take (length (l ++ drop cut xs) - cut) (drop cut (l ++ drop cut xs)) ≡ drop cut xs
    rest = tail_lent cut (l ++ drop cut xs) ∙ drop_at l (drop cut xs) cut (e ∙ length_first)

    -- the whole once the second is back too
    pub whole : (g : List ℕ) → put_mid cut (length (l ++ drop cut xs) - cut) (l ++ drop cut xs) g ≡ l ++ g
    whole g = tail_back cut (l ++ drop cut xs) g ∙ ap (λ (k : List ℕ). k ++ g) (take_at l (drop cut xs) cut (e ∙ length_first))

    pub whole_length : (g : List ℕ) → length g ≡ length (take (length (l ++ drop cut xs) - cut) (drop cut (l ++ drop cut xs))) → length (put_mid cut (length (l ++ drop cut xs) - cut) (l ++ drop cut xs) g) ≡ length xs
    whole_length g f = ap length (whole g) ∙ length-append l g ∙ omega (arith, e, length_first, f ∙ ap length rest ∙ length-drop cut xs)
