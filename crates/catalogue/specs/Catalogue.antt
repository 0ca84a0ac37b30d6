-- A catalogue of targets: as it is lent, the targets that it stands for, its refusals, and the targets that are mapped
-- (REFERENCE.md, "Catalogues").
use Rattle.std.specs.Prelude.{◌≡◌, Bool, true, ◌&&◌, List, [], ◌∷◌, map, ℕ, suc, min, length, leb, eqb, ltb}
use Rattle.lists.specs.Filter.{filter, every}
use Rattle.lists.specs.Sort.{sort}
use Rattle.lists.specs.Cut.{cut, ends_within}
use Rattle.bases.specs.Read.{capitals}
use Rattle.promises.specs.Refusal.{unless, ◌or_else◌}
use Rattle.catalogue.specs.declared.lent.LentCatalogue.{LentCatalogue}
use Rattle.identifiers.specs.Name.{name_before, distinct_names}

-- a catalogue as it is lent: identifier bytes with ends, base bytes with ends, a topology mark for each target
pub record Catalogue : Type 0 where
  pub identifiers : List ℕ
  pub identifier_ends : List ℕ
  pub bases : List ℕ
  pub base_ends : List ℕ
  pub marks : List ℕ

-- the catalogue that the slices of a call hold
abbrev pub lent_catalogue : List ℕ → List ℕ → List ℕ → List ℕ → List ℕ → Catalogue
lent_catalogue is ies bs bes ms = record { identifiers = is; identifier_ends = ies; bases = bs; base_ends = bes; marks = ms }

-- the catalogue that a lent one holds
abbrev pub catalogue_in : LentCatalogue → Catalogue
catalogue_in c = lent_catalogue c.identifiers.now c.identifier_ends.now c.bases.now c.base_ends.now c.marks.now

-- a target, with its place in the order of supply
pub record Target : Type 0 where
  pub place : ℕ
  pub identifier : List ℕ
  pub mark : ℕ
  pub bases : List ℕ

abbrev pub names : Catalogue → List (List ℕ)
names c = cut c.identifier_ends c.identifiers

abbrev pub sequences : Catalogue → List (List ℕ)
sequences c = cut c.base_ends c.bases

-- targets made of names, sequences and marks, the first at place k
abbrev pub targets_from : ℕ → List (List ℕ) → List (List ℕ) → List ℕ → List Target
targets_from k [] ss ms = []
targets_from k (n ∷ ns) [] ms = []
targets_from k (n ∷ ns) (s ∷ ss) [] = []
targets_from k (n ∷ ns) (s ∷ ss) (m ∷ ms) = record { place = k; identifier = n; mark = m; bases = s } ∷ targets_from (suc k) ns ss ms

-- the targets of a catalogue, as supplied
abbrev pub targets : Catalogue → List Target
targets c = targets_from 0 (names c) (sequences c) c.marks

-- ---- refusals

abbrev pub max_targets : ℕ
max_targets = 4096

abbrev pub max_identifier : ℕ
max_identifier = 255

abbrev pub max_bases : ℕ
max_bases = 16777216

-- one name, one sequence and one mark for each target, and no more targets than the bound
abbrev pub counts_right : Catalogue → Bool
counts_right c =
    leb (length c.identifier_ends) max_targets && eqb (length c.base_ends) (length c.identifier_ends) && eqb (length c.marks) (length c.identifier_ends)

-- ends neither fall nor pass the bytes, and bases in all are within the bound
abbrev pub ends_right : Catalogue → Bool
ends_right c = ends_within 0 (length c.identifiers) c.identifier_ends && ends_within 0 (min (length c.bases) max_bases) c.base_ends

-- no sequence is longer than a bound
abbrev pub lengths_within : ℕ → List (List ℕ) → Bool
lengths_within most ss = every (λ (s : List ℕ). leb (length s) most) ss

-- a mark is 0 for linear or 1 for closed
abbrev pub marks_right : List ℕ → Bool
marks_right marks = every (λ m. leb m 1) marks

-- identifiers are within the bound, and marks are right
abbrev pub values_right : Catalogue → Bool
values_right c = lengths_within max_identifier (names c) && marks_right c.marks

-- 2 where this fails
unfoldable pub in_bounds : Catalogue → Bool
in_bounds c = counts_right c && ends_right c && values_right c

-- 3 where some target fails: it is not empty, and all its bases are capitals of ACGT
abbrev pub proper_sequence : List ℕ → Bool
proper_sequence s = ltb 0 (length s) && capitals s

-- the first of 2, 3 and 4 that holds, each over all targets; 4 is for two equal identifiers
unfoldable pub catalogue_refusal : Catalogue → ℕ
catalogue_refusal c = unless (in_bounds c) 2 or_else unless (every proper_sequence (sequences c)) 3 or_else unless (distinct_names (names c)) 4

-- a catalogue that is not refused
pub record Valid (c : Catalogue) : Type 0 where
  pub bounds : in_bounds c ≡ true
  pub letters : every proper_sequence (sequences c) ≡ true
  pub distinct : distinct_names (names c) ≡ true

-- ---- the targets that are mapped

abbrev pub is_mapped : Target → Bool
is_mapped t = eqb t.mark 0

abbrev pub by_name : Target → Target → Bool
by_name t u = name_before t.identifier u.identifier

-- the mapped targets by name: a target's rank is its place in this list, counted from 0
unfoldable pub mapped : Catalogue → List Target
mapped c = sort by_name (filter is_mapped (targets c))

-- the supplied place of each rank
abbrev pub supplied_places : Catalogue → List ℕ
supplied_places c = map (λ (t : Target). t.place) (mapped c)
