-- What is owed of whole runs, each as one theorem about the audit as it is: seeds of 15 bases, qualities from 33 on.
use mathlib.Core.Path.{◌≡◌, ap}
use mathlib.Core.Bool.{true, false}
use mathlib.Core.List.{List, map}
use Prim.Native.Nat.{ℕ}
use native.Mathlib.Omega.{arith}
use Rattle.promises.specs.Refusal.{if_passed, is_refused}
use Rattle.catalogue.specs.Catalogue.{Catalogue}
use Rattle.audit_ledger.specs.Booking.{Counters}
use Rattle.catch_model.specs.Job.{catch}
use Rattle.catch_model.specs.Feeding.{joined}
use Rattle.catch_state.specs.Jobs.{new_job}
use Rattle.audit_model.specs.declared.settings.Settings.{Settings}
use Rattle.audit_model.specs.Settings.{Held, audit_seed, audit_offset}
use Rattle.audit_model.specs.Opening.{IndexLent, columns, none, opening_refusal, opening_held, unopened, started}
use Rattle.audit_model.specs.Sheet.{finish_answer}
use Rattle.audit_model.specs.Run.{Call, answer_to, answers, after}
use Rattle.audit_model.proofs.Opening.{opening_passed}
use Rattle.audit_theorems.specs.Meaning.{RunMeans, Reconciled, CanBeLeftOut}
use Rattle.audit_theorems.specs.Twins.{TwinCall, indexed_call, plain_call, RefusedTogether, RunsAgree}
use Rattle.audit_theorems.specs.Made.{MadeRun, start_of, end_of, made_calls, answers_of, finish_of, RunMade, RunIsPaper}
use Rattle.audit_theorems.specs.Promised.{Opened, TwinRuns}
use Rattle.audit_theorems.specs.Turns.{Loop, Turns}
use Rattle.audit_theorems.proofs.Turns.{turns_catch}
use Rattle.audit_theorems.proofs.Made.{made_is_paper}
use Rattle.audit_theorems.proofs.Running.{spare_call}
use Rattle.audit_theorems.proofs.Sheets.{finish_accepted, never_apart, role_shown_lem}
use Rattle.audit_theorems.proofs.Agreeing.{runs_agree}
use Rattle.audit_theorems.proofs.Promised.{run_means, made_means, made_agree}

-- ---- runs of the definitions

module _ (c : Catalogue) (lent : IndexLent) (s : Settings) (k : Counters) (begun : opening_refusal audit_seed audit_offset c lent s k ≡ 0) (xs : List Call) where
  abbrev start : Held
  start = opening_held audit_seed audit_offset c lent s k

  abbrev end : Held
  end = after audit_seed audit_offset c start xs

  -- Demand 2: a complete answer lists each matching (linear target, start, strand) once, ascending; an accepted read is indeterminate exactly
  -- if it has more matches than the limit; state counts and available target totals equal counts over the accepted fragments. And a fragment
  -- is accepted exactly where no condition of the table of refusals holds.
  pub demand_two : (lent' : IndexLent) → RunMeans audit_seed audit_offset c s start xs (answers audit_seed audit_offset c start xs) end (finish_answer audit_seed audit_offset c lent' end)
  demand_two = run_means audit_seed audit_offset c lent s k begun xs

  -- Refusal 18 meets no run whose state and counters nobody else wrote: `finish` is accepted exactly where the opening's checks pass, and the
  -- sheet shows as many reads of a role, over its states, as were accepted.
  pub reconciled : Reconciled audit_seed audit_offset c s start xs
  reconciled =
      record {
        together = never_apart audit_seed audit_offset c lent s k begun xs;
        accepted_when = finish_accepted audit_seed audit_offset c lent s k begun xs;
        shown = role_shown_lem audit_seed audit_offset c lent s k begun xs;
      }

-- Demand 3: the audit by the index and the plain one agree, whichever reads the second gets turned round, and the index never makes more full
-- comparisons, for each read that is not turned. The same targets and settings, neither opening refused; any list of fragment calls, refused
-- ones included, `finish` last; no call refused by one audit alone. Placements are what stands in the entries that each is lent.
pub demand_three : (c : Catalogue) (s : Settings) (k k' : Counters) (ks rs os : List ℕ)
    → opening_refusal audit_seed audit_offset c (columns ks rs os) s k ≡ 0 → opening_refusal audit_seed audit_offset c none s k' ≡ 0
    → (xs : List TwinCall) (lent : IndexLent)
    → RefusedTogether (answers audit_seed audit_offset c (opening_held audit_seed audit_offset c (columns ks rs os) s k) (map indexed_call xs))
    (answers audit_seed audit_offset c (opening_held audit_seed audit_offset c none s k') (map plain_call xs))
    → RunsAgree s c xs (answers audit_seed audit_offset c (opening_held audit_seed audit_offset c (columns ks rs os) s k) (map indexed_call xs))
    (answers audit_seed audit_offset c (opening_held audit_seed audit_offset c none s k') (map plain_call xs))
    (after audit_seed audit_offset c (opening_held audit_seed audit_offset c (columns ks rs os) s k) (map indexed_call xs))
    (after audit_seed audit_offset c (opening_held audit_seed audit_offset c none s k') (map plain_call xs))
    (finish_answer audit_seed audit_offset c lent (after audit_seed audit_offset c (opening_held audit_seed audit_offset c (columns ks rs os) s k) (map indexed_call xs)))
    (finish_answer audit_seed audit_offset c none (after audit_seed audit_offset c (opening_held audit_seed audit_offset c none s k') (map plain_call xs)))
demand_three c s k k' ks rs os z z' =
    runs_agree audit_seed audit_offset (omega arith) c (opening_passed audit_seed audit_offset c none s k' z').catalogue s _ _ (ap (λ n. if_passed n (started c s) (unopened k)) z) (ap (λ n. if_passed n (started c s) (unopened k')) z')

-- No upload can spoil a run: a refused call can be left out of a list or put in without a change in what the others answer.
pub nothing_spoils : (c : Catalogue) (h : Held) (xs : List Call) (x : Call) (ys : List Call)
    → is_refused (answer_to audit_seed audit_offset c (after audit_seed audit_offset c h xs) x).rows ≡ true → CanBeLeftOut audit_seed audit_offset c h xs x ys
nothing_spoils c = spare_call audit_seed audit_offset c

-- ---- runs of the calls, of each of which no more is known than its promise

module _ (c : Catalogue) where
  -- An opening, fragment calls each lent what the one before it left, and `finish` answer and leave what is answered and left on paper.
  pub as_promised : (r : MadeRun) → RunMade audit_seed audit_offset c r → RunIsPaper audit_seed audit_offset c r
  as_promised = made_is_paper audit_seed audit_offset c

  -- Demand 2 of what the calls answer.
  pub demand_two_promised : (r : MadeRun) → RunMade audit_seed audit_offset c r → Opened r
      → RunMeans audit_seed audit_offset c r.settings (start_of r) (made_calls r) (answers_of r) (end_of r) (finish_of r)
  demand_two_promised = made_means audit_seed audit_offset c

  -- Demand 3 of what the calls of both audits answer.
  pub demand_three_promised : (r r' : MadeRun) (xs : List TwinCall) → RunMade audit_seed audit_offset c r → RunMade audit_seed audit_offset c r' → Opened r → Opened r' → TwinRuns r r' xs
      → RefusedTogether (answers_of r) (answers_of r') → RunsAgree r.settings c xs (answers_of r) (answers_of r') (end_of r) (end_of r') (finish_of r) (finish_of r')
  demand_three_promised = made_agree audit_seed audit_offset c (omega arith)

-- What `catch` writes: whatever pieces its input comes in, what its turns hand to `write` is what the definition gives for the whole.
pub catch_promised : (l : Loop) (pieces : List (List ℕ)) (written : List ℕ) → l.job ≡ new_job → l.from ≡ l.end → l.at ≡ 0 → l.ended ≡ false → Turns l pieces written → written ≡ catch (joined pieces)
catch_promised = turns_catch
