-- The settings and the state of an audit (REFERENCE.md, "Audit").
use Rattle.std.specs.Prelude.{Bool, false, cond, List, [], ◌∷◌, ℕ, ◌-◌, leb, None}
use Rattle.bases.specs.Eligibility.{last_quality}
use Rattle.audit_ledger.specs.Booking.{Counters, Books, empty_ledger}
use Rattle.audit_model.specs.declared.settings.AuditInputMode.{AuditInputMode}
use Rattle.audit_model.specs.declared.settings.AuditInputMode.TheVariants as modes
use Rattle.audit_model.specs.declared.settings.MateRole.{MateRole}
use Rattle.audit_model.specs.declared.settings.MateRole.TheVariants as roles
use Rattle.audit_model.specs.declared.settings.Settings.{Settings}
use Rattle.audit_model.specs.declared.settings.AuditState.{AuditState}

-- ---- what is the same for every audit

-- the length of a seed
abbrev pub audit_seed : ℕ
audit_seed = 15

-- the quality byte that stands for 0
abbrev pub audit_offset : ℕ
audit_offset = 33

-- 11 where this fails: the floor is no more than the greatest byte less the offset, which is 93
abbrev pub floor_right : ℕ → ℕ → Bool
floor_right offset floor = leb floor (last_quality - offset)

-- ---- roles and states

-- the number of a role
abbrev pub role_number : MateRole → ℕ
role_number roles.S = 0
role_number roles.R1 = 1
role_number roles.R2 = 2

-- the roles of a fragment's reads, in order: S, or R1 and R2
abbrev pub roles_of : AuditInputMode → List ℕ
roles_of modes.SingleEnd = 0 ∷ []
roles_of modes.PairedEnd = 1 ∷ 2 ∷ []

-- the states that a sheet shows: 1 to 5 with remap on, else 0 alone
abbrev pub states_shown : Bool → List ℕ
states_shown remap = cond remap (1 ∷ 2 ∷ 3 ∷ 4 ∷ 5 ∷ []) (0 ∷ [])

-- ---- states of an audit

-- a run with these settings, nothing booked
abbrev pub fresh_state : Settings → AuditState
fresh_state s = record { settings = s; last = None; ledger = empty_ledger }

-- every number zero
abbrev pub zero_state : AuditState
zero_state = fresh_state (record { mode = modes.SingleEnd; remap = false; floor = 0; limit = 0 })

-- what passes from one call to the next
pub record Held : Type 0 where
  pub state : AuditState
  pub counters : Counters

-- the books that are held
abbrev pub held_books : Held → Books
held_books h = record { ledger = h.state.ledger; counters = h.counters }
