-- A run: an opening, fragments one after the other, `finish` last (REFERENCE.md, "Runs").
use Rattle.std.specs.Prelude.{List, [], ◌∷◌, ◌++◌, ℕ}
use Rattle.promises.specs.Refusal.{Outcome, if_passed}
use Rattle.catalogue.specs.Catalogue.{Catalogue}
use Rattle.map_every_start.specs.Entries.{entry_count}
use Rattle.map_answers.specs.Answer.{Row}
use Rattle.audit_ledger.specs.Booking.{Booked}
use Rattle.audit_model.specs.Settings.{Held}
use Rattle.audit_model.specs.Opening.{IndexLent}
use Rattle.audit_model.specs.Fragment.{Fragment, fragment_refusal, fragment_answer, fragment_held, fragment_entries, fragment_booked}

-- a fragment call, with what is lent at it
pub record Call : Type 0 where
  pub lent : IndexLent
  pub fragment : Fragment
  pub entries : List ℕ

-- what a call answers, and the entries that it leaves
pub record Answer : Type 0 where
  pub rows : Outcome (List Row)
  pub entries : List ℕ

module _ (q offset : ℕ) (c : Catalogue) where
  -- ---- one call

  abbrev pub answer_to : Held → Call → Answer
  answer_to h x =
      record {
        rows = fragment_answer q offset c x.lent h x.fragment (entry_count x.entries);
        entries = fragment_entries q offset c x.lent h x.fragment x.entries;
      }

  abbrev pub next : Held → Call → Held
  next h x = fragment_held q offset c x.lent h x.fragment (entry_count x.entries)

  -- the reads that it books; refused, none
  abbrev pub books : Held → Call → List Booked
  books h x = if_passed (fragment_refusal q offset c x.lent h x.fragment (entry_count x.entries)) (fragment_booked offset c h x.fragment) []

  -- ---- calls one after the other, each with the opening's targets and with state and counters as the one before left them

  abbrev pub answers : Held → List Call → List Answer
  answers h [] = []
  answers h (x ∷ xs) = answer_to h x ∷ answers (next h x) xs

  abbrev pub after : Held → List Call → Held
  after h [] = h
  after h (x ∷ xs) = after (next h x) xs

  -- the reads of accepted calls, in order of booking
  abbrev pub history : Held → List Call → List Booked
  history h [] = []
  history h (x ∷ xs) = books h x ++ history (next h x) xs
