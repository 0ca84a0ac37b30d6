-- Windows: where they fit.
use mathlib.Core.Path.{◌≡◌}
use mathlib.Core.Bool.{true}
use mathlib.Core.List.{List}
use Prim.Native.Nat.{ℕ, ◌+◌, ◌≤◌}
use lib.ListN.{length}
use borrow.Author.Tests.{leb-true, le-leb}
use Rattle.index_seeds.specs.Window.{fits_in}

module _ (n : ℕ) (s : List ℕ) (i : ℕ) where
  -- a window fits exactly if it ends at most at the end
  pub fits_end : fits_in n s i ≡ true → i + n ≤ length s
  fits_end t = leb-true (i + n) (length s) t

  pub end_fits : i + n ≤ length s → fits_in n s i ≡ true
  end_fits h = le-leb (i + n) (length s) h
