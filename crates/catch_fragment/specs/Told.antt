-- A fragment in a catalogue that was tested, audited and written (REFERENCE.md, "Stream").
use Rattle.std.specs.Prelude.{◌≡◌, true, List, ℕ, ◌+◌, ◌*◌, ◌≤◌, length}
use Rattle.map_by_index.specs.Work.{by_index}
use Rattle.audit_ledger.specs.Booking.{Counters}
use Rattle.audit_model.specs.declared.settings.Settings.{Settings}
use Rattle.audit_model.specs.Settings.{Held, audit_seed, audit_offset, role_number}
use Rattle.audit_model.specs.Fragment.{Fragment, share_of}
use Rattle.audit_model.specs.Calls.{fragment_of}
use Rattle.audit_tested.specs.Tested.{Tested, TestedAudited}
use Rattle.catch_text.specs.Writing.{AddsAtMost}
use Rattle.catch_sheet_lines.specs.Lent.{ShortNames}
use Rattle.catch_fragment_lines.specs.Answer.{answer_lines}
use Rattle.catch_fragments.specs.declared.FragmentHead.{FragmentHead}
use Rattle.catch_fragments.specs.Telling.{mate_at, Placed}
use Rattle.catch_model.specs.Job.{stream_entries}
use Rattle.catch_advance.specs.Advancing.{step_room}
use Rattle.catch_fragment.specs.declared.ToldFragment.{ToldFragment}

-- a fragment whose reads stand in bytes
abbrev pub fragment_at : List ℕ → FragmentHead → Fragment
fragment_at bytes head = fragment_of head.ordinal head.count (mate_at bytes head.first) (mate_at bytes head.second)

-- what it is lent: a tested catalogue with its index, a name for each target, its reads, the entries of a stream, and room for its lines
pub record TellLent (bases base_ends ranked ks rs os identifiers identifier_ends bytes : List ℕ) (head : FragmentHead) (s : Settings) (k : Counters) (entries out : List ℕ) (at : ℕ) : Type 0 where
  pub tested : Tested true audit_seed bases base_ends ranked ks rs os s k
  pub named : ShortNames identifiers identifier_ends
  pub each : length k.placements ≡ length identifier_ends
  pub first : Placed bytes head.first
  pub second : Placed bytes head.second
  pub whole : length entries ≡ 4 * stream_entries
  pub room : at + step_room ≤ length out

-- it is audited, and the lines of its answer are written
pub record TellsFragment (ss : List (List ℕ)) (ranked : List ℕ) (names : List (List ℕ)) (h : Held) (bytes : List ℕ) (head : FragmentHead) (r : ToldFragment) (k' : Counters) (entries entries' out : List ℕ) (at : ℕ)
    (out' : List ℕ) : Type 0 where
  pub audited : TestedAudited audit_offset ss (by_index audit_seed) ranked h (fragment_at bytes head) r.audit k' entries entries'
  pub adds :
      AddsAtMost step_room
      (answer_lines names head.ordinal (role_number head.first.role) (role_number head.second.role) (4 * share_of h.state.settings.mode stream_entries) r.audit.answer entries') out at
      out' r.end
