-- A catalogue within its bounds lends its names.
use mathlib.Core.Path.{◌≡◌}
use mathlib.Core.Bool.{true, ◌&&◌}
use mathlib.Core.List.{List, []}
use Prim.Native.Nat.{ℕ, ◌≤◌}
use native.Mathlib.Omega.{arith}
use lib.ListN.{length, get_or, get_or-eq_default}
use lib.Dec.{leb, ltb}
use borrow.Author.Tests.{leb-true, ltb-true, ltb-false}
use Rattle.lists.proofs.Cases.{by_test, and-true}
use Rattle.lists.proofs.Every.{every_at}
use Rattle.catalogue.specs.Catalogue.{Catalogue, names, max_identifier, counts_right, ends_right, values_right, lengths_within, marks_right, in_bounds}
use Rattle.catalogue.proofs.Checks.{bounded}
use Rattle.catch_sheet_lines.specs.Lent.{ShortNames}

-- a name at any place is within a bound that every name is within
short_at : (most : ℕ) (ns : List (List ℕ)) → lengths_within most ns ≡ true → (i : ℕ) → length (get_or ns i []) ≤ most
short_at most ns e i =
    by_test (ltb i (length ns))
    (λ f. leb-true (length (get_or ns i [])) most (every_at (λ (s : List ℕ). leb (length s) most) [] ns e i (ltb-true i (length ns) f)))
    (λ f. rw (get_or-eq_default ns [] (ltb-false i (length ns) f)) (omega arith))

module _ (c : Catalogue) (within : in_bounds c ≡ true) where
  pub names-lent : ShortNames c.identifiers c.identifier_ends
  unfolding in_bounds
  names-lent =
      let w = and-true (counts_right c && ends_right c) (values_right c) within in
      record { right = (bounded c within).named; short = short_at max_identifier (names c) (and-true (lengths_within max_identifier (names c)) (marks_right c.marks) w.1).0 }
