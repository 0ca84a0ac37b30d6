-- A run as the calls of the code make it, each with its promise.
use Rattle.std.specs.Prelude.{◌≡◌, List, [], ◌∷◌, map, ℕ}
use Rattle.promises.specs.Refusal.{Outcome, outcome, if_passed}
use Rattle.catalogue.specs.Catalogue.{Catalogue}
use Rattle.audit_ledger.specs.Booking.{Counters}
use Rattle.audit_model.specs.declared.calls.Opening.{Opening}
use Rattle.audit_model.specs.declared.calls.FragmentAudit.{FragmentAudit}
use Rattle.audit_model.specs.declared.calls.Finish.{Finish}
use Rattle.audit_model.specs.declared.settings.Settings.{Settings}
use Rattle.audit_model.specs.declared.sheet.Sheet.{Sheet}
use Rattle.audit_model.specs.Settings.{Held}
use Rattle.audit_model.specs.Opening.{IndexLent, opening_refusal, opening_held}
use Rattle.audit_model.specs.Fragment.{Fragment}
use Rattle.audit_model.specs.Sheet.{finish_refusal, finish_answer, sheet_of}
use Rattle.audit_model.specs.Run.{Call, Answer, answers, after}
use Rattle.audit_model.specs.Calls.{call_outcome, fragment_outcome, finish_outcome, Opens, Audits, Finishes, zero_sheet}

-- a fragment call: what it was lent, what it answered, and the counters and entries that it left
pub record MadeCall : Type 0 where
  pub lent : IndexLent
  pub fragment : Fragment
  pub entries : List ℕ
  pub result : FragmentAudit
  pub counters : Counters
  pub left : List ℕ

abbrev pub made_call : MadeCall → Call
made_call x = record { lent = x.lent; fragment = x.fragment; entries = x.entries }

abbrev pub made_answer : MadeCall → Answer
made_answer x = record { rows = fragment_outcome x.result.answer; entries = x.left }

abbrev pub made_held : MadeCall → Held
made_held x = record { state = x.result.state; counters = x.counters }

-- each call keeps its promise, and is lent state and counters as the one before it left them
abbrev pub AllKept : ℕ → ℕ → Catalogue → Held → List MadeCall → Type 0
AllKept q offset c h [] = Unit {0}
AllKept q offset c h (x ∷ xs) = Audits q offset c x.lent h x.fragment x.entries x.result x.counters x.left × AllKept q offset c (made_held x) xs

-- what is held behind them
abbrev pub held_behind : Held → List MadeCall → Held
held_behind h [] = h
held_behind h (x ∷ xs) = held_behind (made_held x) xs

-- a run: the opening with what it was given and the counters before and behind it, fragment calls, and `finish` with what it was lent
pub record MadeRun : Type 0 where
  pub settings : Settings
  pub lent : IndexLent
  pub before : Counters
  pub opening : Opening
  pub counters : Counters
  pub calls : List MadeCall
  pub lent_at_end : IndexLent
  pub finish : Finish

-- what is held behind its opening, and at its end
abbrev pub start_of : MadeRun → Held
start_of r = record { state = r.opening.state; counters = r.counters }

abbrev pub end_of : MadeRun → Held
end_of r = held_behind (start_of r) r.calls

-- what its calls were lent, what they answered, and what `finish` did
abbrev pub made_calls : MadeRun → List Call
made_calls r = map made_call r.calls

abbrev pub answers_of : MadeRun → List Answer
answers_of r = map made_answer r.calls

abbrev pub finish_of : MadeRun → Outcome Sheet
finish_of r = finish_outcome r.finish

module _ (q offset : ℕ) (c : Catalogue) (r : MadeRun) where
  -- an opening, fragment calls and `finish`, each as it promises
  pub record RunMade : Type 0 where
    pub opens : Opens q offset c r.lent r.settings r.before r.opening r.counters
    pub calls : AllKept q offset c (start_of r) r.calls
    pub finishes : Finishes q offset c r.lent_at_end (end_of r) r.finish

  -- then the run is that of the definitions: what it starts from, its answers, what is held at its end, and what `finish` answers
  pub record RunIsPaper : Type 0 where
    pub opened : call_outcome r.opening.answer ≡ outcome (opening_refusal q offset c r.lent r.settings r.before) tt
    pub start : start_of r ≡ opening_held q offset c r.lent r.settings r.before
    pub answered : answers_of r ≡ answers q offset c (start_of r) (made_calls r)
    pub held : end_of r ≡ after q offset c (start_of r) (made_calls r)
    pub finished : finish_of r ≡ finish_answer q offset c r.lent_at_end (end_of r)
    pub sheet : r.finish.sheet ≡ if_passed (finish_refusal q offset c r.lent_at_end (end_of r)) (sheet_of (end_of r)) zero_sheet
