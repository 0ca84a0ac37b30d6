-- The state of an audit as numbers (REFERENCE.md, "Exports").
use Rattle.std.specs.Prelude.{Bool, ◌&&◌, ◌||◌, List, [], ◌∷◌, ◌++◌, ℕ, zero, suc, length, get_or, eqb, leb, Option, Some, None}
use Rattle.lists.specs.Cut.{window}
use Rattle.audit_ledger.specs.declared.Ledger.{Ledger}
use Rattle.audit_model.specs.declared.settings.AuditState.{AuditState}
use Rattle.audit_codes.specs.Codes.{mode_of, is_mark, is_set, flag_number, mode_number}

-- the number that names this layout
abbrev pub state_layout : ℕ
state_layout = 1

abbrev pub state_length : ℕ
state_length = 32

-- ---- written

-- whether a fragment was accepted, and its ordinal
abbrev pub last_numbers : Option ℕ → List ℕ
last_numbers None = 0 ∷ 0 ∷ []
last_numbers (Some n) = 1 ∷ n ∷ []

-- counts by role and state, reads by role, three totals, whether a read was indeterminate
abbrev pub ledger_numbers : Ledger → List ℕ
ledger_numbers l = l.table ++ l.reads ++ (l.placements ∷ l.singles ∷ l.multi ∷ flag_number l.indeterminate ∷ [])

-- layout, mode, remap, floor, limit, the last ordinal, the ledger
abbrev pub state_numbers : AuditState → List ℕ
state_numbers s =
    state_layout ∷ mode_number s.settings.mode ∷ flag_number s.settings.remap ∷ s.settings.floor ∷ s.settings.limit
    ∷ (last_numbers s.last ++ ledger_numbers s.ledger)

-- ---- read back

abbrev pub last_of : ℕ → ℕ → Option ℕ
last_of zero n = None
last_of (suc m) n = Some n

abbrev pub state_in : List ℕ → AuditState
state_in ns =
    record {
      settings = record { mode = mode_of (get_or ns 1 0); remap = is_set (get_or ns 2 0); floor = get_or ns 3 0; limit = get_or ns 4 0 };
      last = last_of (get_or ns 5 0) (get_or ns 6 0);
      ledger =
          record {
            table = window ns 7 18;
            reads = window ns 25 3;
            placements = get_or ns 28 0;
            singles = get_or ns 29 0;
            multi = get_or ns 30 0;
            indeterminate = is_set (get_or ns 31 0);
          };
    }

-- 26 where this fails: the numbers are those of some state, whose floor has 8 bits, and whose last ordinal is 0 where there is none
unfoldable pub is_state : List ℕ → Bool
is_state ns =
    eqb (length ns) state_length && eqb (get_or ns 0 0) state_layout && is_mark (get_or ns 1 0) && is_mark (get_or ns 2 0) && leb (get_or ns 3 0) 255
    && is_mark (get_or ns 5 0) && (is_set (get_or ns 5 0) || eqb (get_or ns 6 0) 0) && is_mark (get_or ns 31 0)
