-- One read of a fragment observed (REFERENCE.md, "Observing").
use Rattle.std.specs.Prelude.{Bool, true, false, cond, ◌&&◌, List, [], ℕ, length}
use Rattle.promises.specs.Refusal.{unless, ◌or_else◌}
use Rattle.bases.specs.Read.{Read}
use Rattle.bases.specs.Eligibility.{Verdict, refused, ineligible, eligible, eligibility}
use Rattle.map_places.specs.Place.{Place, groups}
use Rattle.map_every_start.specs.Entries.{entries_of}
use Rattle.map_by_index.specs.Work.{Way, work_of, work_by}
use Rattle.map_answers.specs.Bounds.{length_right}
use Rattle.map_answers.specs.Answer.{Row, row, listed, room_refusal, mapped_state}
use Rattle.map_by_index.specs.declared.work.MappingWork.{MappingWork}
use Rattle.audit_ledger.specs.Booking.{Booked}
use Rattle.audit_model.specs.declared.settings.MateRole.{MateRole}
use Rattle.audit_model.specs.declared.settings.Settings.{Settings}
use Rattle.audit_model.specs.Settings.{role_number}

-- a read with its role
pub record MateRead : Type 0 where
  pub role : MateRole
  pub read : Read

-- the refusal of a verdict
abbrev pub verdict_refusal : Verdict → ℕ
verdict_refusal (refused n) = n
verdict_refusal ineligible = 0
verdict_refusal eligible = 0

abbrev pub is_eligible : Verdict → Bool
is_eligible (refused n) = false
is_eligible ineligible = false
is_eligible eligible = true

-- no work
abbrev pub no_work : MappingWork
no_work = work_of 0 0 0 (record { comparisons = 0; seen = 0 })

-- ---- its checks, under settings, with qualities from an offset on

module _ (offset : ℕ) (s : Settings) where
  -- 7, and with remap on 14 to 16
  abbrev pub mate_refusal : MateRead → ℕ
  mate_refusal r = unless (length_right r.read.bases) 7 or_else cond s.remap (verdict_refusal (eligibility s.floor offset r.read)) 0

  -- a read is searched where remap is on and it is eligible
  abbrev pub is_searched : MateRead → Bool
  is_searched r = s.remap && is_eligible (eligibility s.floor offset r.read)

-- ---- a read that passed them

-- whether it is searched, and its bases
pub record Observed : Type 0 where
  pub searched : Bool
  pub bases : List ℕ

abbrev pub observe : ℕ → Settings → MateRead → Observed
observe offset s r = record { searched = is_searched offset s r; bases = r.read.bases }

-- a read in sequences by rank; of all this, only its work depends on the way of searching
module _ (s : Settings) (ss : List (List ℕ)) where
  -- its groups; a read that is not searched has none
  abbrev pub observed_groups : Observed → List Place
  observed_groups r = cond r.searched (groups ss r.bases) []

  -- 10, where it has so many entries
  abbrev pub observed_room : ℕ → Observed → ℕ
  observed_room entries r = room_refusal entries s.limit (length (observed_groups r))

  -- its listed groups
  abbrev pub observed_listed : Observed → List Place
  observed_listed r = listed s.limit (observed_groups r)

  -- the entries of its listed groups; `ranked` holds the supplied place of each rank
  abbrev pub observed_entries : List ℕ → Observed → List ℕ
  observed_entries ranked r = entries_of ranked (length r.bases) (observed_listed r)

  -- its state, by its groups; not searched it is Ineligible with remap on, else NotRequested
  abbrev pub observed_state : Observed → ℕ
  observed_state r = cond r.searched (mapped_state s.limit (length (groups ss r.bases))) (cond s.remap 1 0)

  -- what is booked of it, with the number of its role
  abbrev pub observed_booked : ℕ → Observed → Booked
  observed_booked role r = record { role = role; state = observed_state r; groups = observed_listed r }

  -- the work of its search
  abbrev pub observed_work : Way → Observed → MappingWork
  observed_work way r = cond r.searched (work_by way ss r.bases s.limit) no_work

  -- its row: its state, the number of its listed groups, and its work
  abbrev pub observed_row : Way → Observed → Row
  observed_row way r = row (observed_state r) (length (observed_listed r)) (observed_work way r)

-- what is booked of a read with its role
abbrev pub mate_booked : ℕ → Settings → List (List ℕ) → MateRead → Booked
mate_booked offset s ss r = observed_booked s ss (role_number r.role) (observe offset s r)
