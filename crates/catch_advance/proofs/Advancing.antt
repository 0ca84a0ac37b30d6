-- A refusal, a wait and a command that writes nothing are steps.
use mathlib.Core.Path.{◌≡◌, refl, sym, ap, subst, ◌∙◌}
use mathlib.Core.Bool.{Bool, true, false}
use mathlib.Core.List.{List, [], append-nil}
use Prim.Native.Nat.{ℕ, suc, ◌+◌, ◌-◌, ◌≤◌}
use native.Mathlib.Omega.{arith}
use lib.ListN.{length, take, drop, length-drop}
use Rattle.catch_text.specs.Writing.{AddsAtMost}
use Rattle.catch_lines.specs.Lines.{line_room, refusal_line}
use Rattle.catch_fragments.specs.Telling.{longest_fragment}
use Rattle.catch_model.specs.Job as catching
use Rattle.catch_model.specs.Job.{Stage, command, still}
use Rattle.catch_model.specs.Feeding.{Goes, Ends, Further, by_bytes, by_opening, MustWait, reached}
use Rattle.catch_model.proofs.Shrinking.{still_ends}
use Rattle.catch_progress.specs.declared.Progress.TheVariants as progress
use Rattle.catch_advance.specs.declared.Advance.{Advance}
use Rattle.catch_advance.specs.Advancing.{step_room, WentOn, Tells, Advances, Refuses, Waits, Stays}

-- fewer bytes than a room fit a larger one
pub roomier : (most more : ℕ) (text out : List ℕ) (at : ℕ) (out' : List ℕ) (r : ℕ) → most ≤ more → AddsAtMost most text out at out' r → AddsAtMost more text out at out' r
roomier most more text out at out' r h a = record { adds = a.adds; room = omega (arith, a.room) }

-- nothing is added where nothing changes
pub nothing_added : (out : List ℕ) (at : ℕ) → AddsAtMost step_room [] out at out at
nothing_added out at = record { adds = record { written = sym (append-nil (take at out)); end = omega arith }; room = omega arith }

-- what ends the run whatever follows ends it at the end of the stream too
pub ends_told : (before after : Stage) (bytes : List ℕ) (ended : Bool) (text : List ℕ) → Ends before bytes text → Tells ended before bytes progress.Ended text after
ends_told before after bytes true text e = ap (still before) (sym (append-nil bytes)) ∙ e []
ends_told before after bytes false text e = e

module _ (before after : Stage) (bytes out : List ℕ) (at : ℕ) (out' : List ℕ) (r : Advance) where
  -- a last step
  pub last_step : (ended : Bool) (most : ℕ) (text : List ℕ) → most ≤ step_room → AddsAtMost most text out at out' r.at → r.progress ≡ progress.Ended → Tells ended before bytes progress.Ended text after → Advances ended before bytes out at out' r after
  last_step ended most text h adds last told =
      record { text = text; adds = roomier most step_room text out at out' r.at h adds; told = subst (λ p. Tells ended before bytes p text after) (sym last) told }

  -- a refusal
  pub refuses : (ended : Bool) (number : ℕ) → Refuses number out at out' r → Ends before bytes (refusal_line number) → Advances ended before bytes out at out' r after
  refuses ended number f e = last_step ended line_room (refusal_line number) (omega arith) f.adds f.last (ends_told before after bytes ended (refusal_line number) e)

-- a command that is not whole, at the end of the stream and before it
pub stays_ended : (ended : Bool) (out : List ℕ) (at : ℕ) (out' : List ℕ) (r : Advance) → ended ≡ true → Refuses 20 out at out' r → Stays ended out at out' r
stays_ended ended out at out' r e f = subst (λ b. Stays b out at out' r) (sym e) f

pub stays_open : (ended : Bool) (out : List ℕ) (at : ℕ) (r : Advance) → ended ≡ false → Waits at r → Stays ended out at out r
stays_open ended out at r e w = subst (λ b. Stays b out at out r) (sym e) (w, refl)

-- a step that changes nothing
module _ (stage : Stage) (bytes out : List ℕ) (at : ℕ) (out' : List ℕ) (r : Advance) (few : length bytes ≤ longest_fragment) where
  pub waits : MustWait stage bytes → Waits at r → out' ≡ out → Advances false stage bytes out at out' r stage
  waits must w e =
      record {
        text = [];
        adds = subst (λ l. AddsAtMost step_room [] out at l r.at) (sym e) (subst (AddsAtMost step_room [] out at out) (sym w.same) (nothing_added out at));
        told = subst (λ p. Tells false stage bytes p [] stage) (sym w.more) (record { must = must; silent = refl; same = refl; few = few });
      }

  -- a command that is not whole, and which 20 answers at the end of the stream
  pub stays : (ended : Bool) → Stays ended out at out' r → MustWait stage bytes → command stage bytes ≡ catching.refuses 20 → Advances ended stage bytes out at out' r stage
  stays true f must e = last_step stage stage bytes out at out' r true line_room (refusal_line 20) (omega arith) f.adds f.last (still_ends stage bytes (refusal_line 20) e)
  stays false f must e = waits must f.0 f.1

-- a step that writes nothing and goes n bytes
pub goes_on : (before after : Stage) (bytes out : List ℕ) (at : ℕ) (out' : List ℕ) (ended : Bool) (n : ℕ) → out' ≡ out → n ≤ length bytes → Further before n after → Goes before bytes [] after (drop n bytes)
    → Advances ended before bytes out at out' (record { at = at; progress = progress.Went n }) after
goes_on before after bytes out at out' ended n e h f g =
    record {
      text = [];
      adds = subst (λ l. AddsAtMost step_room [] out at l at) (sym e) (nothing_added out at);
      told = record { within = h; further = f; goes = g };
    }

-- ---- a stream that has ended

-- steps that went on, one after the other, and how many
pub data Going : Stage → List ℕ → ℕ → Type 0 where
  stopped : (stage : Stage) (bytes : List ℕ) → Going stage bytes 0
  went : (before after : Stage) (bytes text : List ℕ) (n k : ℕ) → WentOn before bytes n text after → Going after (drop n bytes) k → Going before bytes (suc k)

-- each takes a byte, but for one opening: so the step behind them is the last at the latest, and a stream that has ended ends within as many
-- steps as it has bytes, and two
pub going_few : (stage : Stage) (bytes : List ℕ) (k : ℕ) → Going stage bytes k → k ≤ length bytes + 1
going_few stage bytes k g = omega (arith, few stage bytes k g)
  where
    -- an opening is still to come, or not
    few : (stage : Stage) (bytes : List ℕ) (k : ℕ) → Going stage bytes k → k ≤ length bytes + (1 - (reached stage - 1))
    few stage bytes _ (stopped _ _) = omega arith
    few _ bytes _ (went before after _ text n k w g) = ahead before after n w.further w.within (few after (drop n bytes) k g)
      where
        ahead : (before after : Stage) (n : ℕ) → Further before n after → n ≤ length bytes → k ≤ length (drop n bytes) + (1 - (reached after - 1)) → suc k ≤ length bytes + (1 - (reached before - 1))
        ahead before after n (by_bytes _ _ _ some back) h f = omega (arith, length-drop n bytes)
        ahead _ _ _ (by_opening s c d held) h f = omega (arith, length-drop 0 bytes)
