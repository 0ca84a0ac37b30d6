-- The refusals of a call to which an index is lent as records, in front of `map`'s own (REFERENCE.md, "Mapping").
use Rattle.std.specs.Prelude.{◌≡◌, List, ℕ, min, length, leb, Result, Ok}
use Rattle.promises.specs.declared.refusal.Refusal.{Refusal}
use Rattle.promises.specs.Refusal.{unless, ◌or_else◌, test_number}
use Rattle.catalogue.specs.Catalogue.{Catalogue}
use Rattle.index_model.specs.Index.{plan_refusal}

-- entries of the shortest column
abbrev pub room : List ℕ → List ℕ → List ℕ → ℕ
room ks rs os = min (length ks) (min (length rs) (length os))

-- 5: fewer entries than records
abbrev pub index_room : ℕ → ℕ → ℕ
index_room records entries = unless (leb records entries) 5

-- 1 to 5, in front of `map`'s own
abbrev pub copy_refusal : ℕ → Catalogue → ℕ → ℕ → ℕ
copy_refusal q c records entries = plan_refusal q c or_else index_room records entries

-- ---- the check

-- its refusal, or how many records are copied: every one
pub record CheckedAs (q : ℕ) (c : Catalogue) (records entries : ℕ) (r : Result ℕ Refusal) : Type 0 where
  pub refusal_is : test_number r ≡ copy_refusal q c records entries
  pub rows_are : (n : ℕ) → r ≡ Ok n → n ≡ records
