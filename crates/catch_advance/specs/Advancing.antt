-- What a step of a job leaves (REFERENCE.md, "Stream").
use Rattle.std.specs.Prelude.{◌≡◌, Bool, true, false, List, [], ℕ, ◌≤◌, length, drop}
use Rattle.catch_text.specs.Writing.{AddsAtMost}
use Rattle.catch_lines.specs.Lines.{line_room, refusal_line}
use Rattle.catch_fragments.specs.Telling.{longest_fragment}
use Rattle.catch_model.specs.Job.{Stage, still}
use Rattle.catch_model.specs.Feeding.{Goes, Ends, Further, MustWait}
use Rattle.catch_progress.specs.declared.Progress.{Progress}
use Rattle.catch_progress.specs.declared.Progress.TheVariants as progress
use Rattle.catch_advance.specs.declared.Advance.{Advance}

-- no step writes more: the lines of two reads, and of 256 groups
abbrev pub step_room : ℕ
step_room = 98304

-- a step went on: it is further, and whatever follows the bytes that are there, a text is written and the run goes on behind n of them
pub record WentOn (before : Stage) (bytes : List ℕ) (n : ℕ) (text : List ℕ) (after : Stage) : Type 0 where
  pub within : n ≤ length bytes
  pub further : Further before n after
  pub goes : Goes before bytes text after (drop n bytes)

-- a step must wait: nothing is written, nothing changes, and there are fewer bytes than a code and a fragment can have
pub record Waited (before : Stage) (bytes text : List ℕ) (after : Stage) : Type 0 where
  pub must : MustWait before bytes
  pub silent : text ≡ []
  pub same : before ≡ after
  pub few : length bytes ≤ longest_fragment

-- a step is done: a text is written, and that is all, whatever follows, or where the stream ends with these bytes
abbrev pub IsDone : Bool → Stage → List ℕ → List ℕ → Type 0
IsDone true before bytes text = still before bytes ≡ text
IsDone false before bytes text = Ends before bytes text

-- what each progress tells; at the end of the stream none waits
abbrev pub Tells : Bool → Stage → List ℕ → Progress → List ℕ → Stage → Type 0
Tells ended before bytes (progress.Went n) text after = WentOn before bytes n text after
Tells ended before bytes progress.Ended text after = IsDone ended before bytes text
Tells true before bytes progress.More text after = ⊥
Tells false before bytes progress.More text after = Waited before bytes text after

-- a step from one stage to another: the text that it writes, and what that tells
pub record Advances (ended : Bool) (before : Stage) (bytes out : List ℕ) (at : ℕ) (out' : List ℕ) (r : Advance) (after : Stage) : Type 0 where
  pub text : List ℕ
  pub adds : AddsAtMost step_room text out at out' r.at
  pub told : Tells ended before bytes r.progress text after

-- ---- what steps are made of

-- E and a number, and that is all
pub record Refuses (number : ℕ) (out : List ℕ) (at : ℕ) (out' : List ℕ) (r : Advance) : Type 0 where
  pub adds : AddsAtMost line_room (refusal_line number) out at out' r.at
  pub last : r.progress ≡ progress.Ended

-- nothing is written
pub record Waits (at : ℕ) (r : Advance) : Type 0 where
  pub same : r.at ≡ at
  pub more : r.progress ≡ progress.More

-- a command that is not whole: 20 at the end of the stream
abbrev pub Stays : Bool → List ℕ → ℕ → List ℕ → Advance → Type 0
Stays true out at out' r = Refuses 20 out at out' r
Stays false out at out' r = Waits at r × (out' ≡ out)
