-- The sheet of a finished audit (REFERENCE.md, "Finish").
use Rattle.std.specs.Prelude.{Bool, cond, List, [], ◌∷◌, ◌++◌, map, ℕ, get_or, Some, None}
use Prim.Native.String.{String}
use Rattle.lists.specs.Triple.{Triple}
use Rattle.promises.specs.Refusal.{unless, ◌or_else◌, Outcome, outcome}
use Rattle.catalogue.specs.Catalogue.{Catalogue, Target, targets, is_mapped}
use Rattle.audit_ledger.specs.Booking.{Counters}
use Rattle.audit_ledger.specs.Balance.{count_of, balanced}
use Rattle.audit_model.specs.declared.sheet.Status.{Status}
use Rattle.audit_model.specs.declared.sheet.Status.TheVariants as statuses
use Rattle.audit_model.specs.declared.sheet.PlacementTotals.{PlacementTotals}
use Rattle.audit_model.specs.declared.sheet.Shown.{Shown}
use Rattle.audit_model.specs.declared.sheet.Sheet.{Sheet}
use Rattle.audit_model.specs.Settings.{Held, held_books, roles_of, states_shown}
use Rattle.audit_model.specs.Opening.{IndexLent, opening_refusal}

-- ---- statuses

-- the number of a status
abbrev pub status_number : Status → ℕ
status_number statuses.Complete = 0
status_number statuses.CandidateLimit = 1
status_number statuses.RemapDisabled = 2
status_number statuses.ClosedUnsupported = 3

-- its word
abbrev pub status_word : Status → String
status_word statuses.Complete = "placement_enumeration_complete"
status_word statuses.CandidateLimit = "indeterminate_candidate_limit"
status_word statuses.RemapDisabled = "unavailable_remap_disabled"
status_word statuses.ClosedUnsupported = "unavailable_closed_walk_audit_unsupported"

-- totals are shown where every read was listed whole
abbrev pub shown : Status → PlacementTotals → Shown
shown statuses.Complete t = record { status = statuses.Complete; totals = Some t }
shown statuses.CandidateLimit t = record { status = statuses.CandidateLimit; totals = None }
shown statuses.RemapDisabled t = record { status = statuses.RemapDisabled; totals = None }
shown statuses.ClosedUnsupported t = record { status = statuses.ClosedUnsupported; totals = None }

abbrev pub totals_of : ℕ → ℕ → ℕ → PlacementTotals
totals_of placements singles multi = record { placements = placements; singles = singles; multi = multi }

-- the status of a run
abbrev pub run_status : Bool → Bool → Status
run_status remap indeterminate = cond remap (cond indeterminate statuses.CandidateLimit statuses.Complete) statuses.RemapDisabled

-- ---- the sheet

abbrev pub sheet_of : Held → Sheet
sheet_of h =
    record {
      mode = h.state.settings.mode;
      remap = h.state.settings.remap;
      table = h.state.ledger.table;
      run =
          shown (run_status h.state.settings.remap h.state.ledger.indeterminate)
          (totals_of h.state.ledger.placements h.state.ledger.singles h.state.ledger.multi);
    }

-- the counts of a role that it shows: role, state, count
abbrev pub role_shown : Sheet → ℕ → List Triple
role_shown sheet role = map (λ state. (role, state, count_of sheet.table role state)) (states_shown sheet.remap)

-- those of some roles
abbrev pub roles_shown : Sheet → List ℕ → List Triple
roles_shown sheet [] = []
roles_shown sheet (role ∷ roles) = role_shown sheet role ++ roles_shown sheet roles

-- every state count that it shows, by role, then state
abbrev pub counts_shown : Sheet → List Triple
counts_shown sheet = roles_shown sheet (roles_of sheet.mode)

-- what is shown where a run has a status: a mapped target has that status, a closed walk its own
abbrev pub row_shown : Status → Bool → PlacementTotals → Shown
row_shown status mapped t = shown (cond mapped status statuses.ClosedUnsupported) t

-- what is shown of a target
abbrev pub target_shown : Sheet → Counters → Target → Shown
target_shown sheet k t =
    row_shown sheet.run.status (is_mapped t) (totals_of (get_or k.placements t.place 0) (get_or k.singles t.place 0) (get_or k.multi t.place 0))

-- and of all, as supplied
abbrev pub targets_shown : Sheet → Counters → Catalogue → List Shown
targets_shown sheet k c = map (target_shown sheet k) (targets c)

-- ---- the call

-- 18, where the books do not agree with themselves
abbrev pub books_refusal : Held → ℕ
books_refusal h = unless (balanced (roles_of h.state.settings.mode) (states_shown h.state.settings.remap) (held_books h)) 18

module _ (q offset : ℕ) (c : Catalogue) (lent : IndexLent) (h : Held) where
  -- the opening's checks, then 18
  unfoldable pub finish_refusal : ℕ
  finish_refusal = opening_refusal q offset c lent h.state.settings h.counters or_else books_refusal h

  abbrev pub finish_answer : Outcome Sheet
  finish_answer = outcome finish_refusal (sheet_of h)
