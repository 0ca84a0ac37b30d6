-- What `catch` writes of a fragment and of a finished run (REFERENCE.md, "Lines").
use Rattle.std.specs.Prelude.{List, [], ◌∷◌, ◌++◌, ℕ, ◌+◌, length, get_or}
use Rattle.lists.specs.Triple.{Triple}
use Rattle.catalogue.specs.Catalogue.{Catalogue, Target, targets, names, supplied_places}
use Rattle.index_model.specs.Index.{mapped_sequences}
use Rattle.map_places.specs.Place.{Place}
use Rattle.map_by_index.specs.Work.{Way}
use Rattle.audit_ledger.specs.Booking.{Counters}
use Rattle.audit_model.specs.declared.settings.Settings.{Settings}
use Rattle.audit_model.specs.declared.sheet.Sheet.{Sheet}
use Rattle.audit_model.specs.Settings.{Held, role_number}
use Rattle.audit_model.specs.Observing.{MateRead, observe, observed_listed, observed_row}
use Rattle.audit_model.specs.Sheet.{sheet_of, counts_shown, target_shown}
use Rattle.catch_lines.specs.Lines.{read_line, group_line, count_line, target_line, run_line}

-- ---- an accepted fragment

-- G for each group of a read of n bases; `ranked` holds the supplied place of each rank
abbrev pub group_lines : List (List ℕ) → List ℕ → ℕ → List Place → List ℕ
group_lines ns ranked n [] = []
group_lines ns ranked n (p ∷ ps) = group_line (get_or ns (get_or ranked p.rank 0) []) p.start (p.start + n) p.strand ++ group_lines ns ranked n ps

-- a fragment with this ordinal, its reads searched in some way
module _ (offset : ℕ) (c : Catalogue) (s : Settings) (way : Way) (ordinal : ℕ) where
  -- a read: R, and G for each of its listed groups
  abbrev pub read_lines : MateRead → List ℕ
  read_lines m =
      read_line ordinal (role_number m.role) (observed_row s (mapped_sequences c) way (observe offset s m))
      ++ group_lines (names c) (supplied_places c) (length m.read.bases) (observed_listed s (mapped_sequences c) (observe offset s m))

  -- one read after the other
  abbrev pub fragment_lines : List MateRead → List ℕ
  fragment_lines [] = []
  fragment_lines (m ∷ ms) = read_lines m ++ fragment_lines ms

-- ---- a finished run

-- S for each count that is shown, by role, then state
abbrev pub count_lines : List Triple → List ℕ
count_lines [] = []
count_lines (x ∷ xs) = count_line x.0 x.1 x.2 ++ count_lines xs

-- T for each target, as supplied
abbrev pub target_lines : Sheet → Counters → List Target → List ℕ
target_lines sheet k [] = []
target_lines sheet k (t ∷ ts) = target_line t.identifier (target_shown sheet k t) ++ target_lines sheet k ts

-- S, T and A
abbrev pub sheet_lines : Catalogue → Held → List ℕ
sheet_lines c h = count_lines (counts_shown (sheet_of h)) ++ target_lines (sheet_of h) h.counters (targets c) ++ run_line (sheet_of h).run
