-- Targets stored behind each other, as a catalogue (REFERENCE.md, "Stream").
use Rattle.std.specs.Prelude.{List, ℕ, ◌+◌, ◌≤◌, ◌<◌, length, take}
use Rattle.catalogue.specs.Catalogue.{Catalogue}
use Rattle.catch_targets.specs.declared.Supply.{Supply}

-- the catalogue at the front of five lists
abbrev pub supplied_in : Supply → List ℕ → List ℕ → List ℕ → List ℕ → List ℕ → Catalogue
supplied_in s is ies bs bes ms =
    record { identifiers = take s.names is; identifier_ends = take s.targets ies; bases = take s.bases bs; base_ends = take s.targets bes; marks = take s.targets ms }

-- that which the slices of a call hold when it is made
abbrev pub lent_supply : Supply → List ℕ → List ℕ → List ℕ → List ℕ → List ℕ → Catalogue
lent_supply s is ies bs bes ms = supplied_in s is ies bs bes ms

-- and when it returns
abbrev pub left_supply : Supply → List ℕ → List ℕ → List ℕ → List ℕ → List ℕ → Catalogue
left_supply s is ies bs bes ms = supplied_in s is ies bs bes ms

-- one target more, with so many bytes and bases
abbrev pub more_supply : Supply → ℕ → ℕ → Supply
more_supply s name count = record { targets = s.targets + 1; names = s.names + name; bases = s.bases + count }

-- there is room for one target more
pub record SupplyRoom (s : Supply) (name sequence is ies bs bes ms : List ℕ) : Type 0 where
  pub identifiers : s.names + length name ≤ length is
  pub bases : s.bases + length sequence ≤ length bs
  pub identifier_ends : s.targets < length ies
  pub base_ends : s.targets < length bes
  pub marks : s.targets < length ms
