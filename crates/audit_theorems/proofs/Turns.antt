-- Whatever pieces the input comes in, what turns hand to `write` is what `catch` writes for the whole.
use mathlib.Core.Path.{◌≡◌, refl, sym, ap, ap₂, subst, ◌∙◌}
use mathlib.Core.Bool.{Bool, true, false}
use mathlib.Core.List.{List, [], ◌∷◌, ◌++◌, append-nil, append_assoc}
use Prim.Native.Nat.{ℕ, ◌-◌}
use native.Mathlib.Omega.{arith}
use lib.ListN.{length, take, drop, length-drop}
use lib.Seq.{length-take-le, take-length}
use lib.Dec.{eqb}
use borrow.Author.Tests.{eqb-true}
use Rattle.lists.proofs.Cases.{clash}
use Rattle.catch_model.specs.Job.{Stage, beginning, still, catch}
use Rattle.catch_model.specs.Feeding.{joined}
use Rattle.catch_progress.specs.declared.Progress.TheVariants as progress
use Rattle.catch_advance.specs.Advancing.{WentOn, Waited, IsDone, Tells}
use Rattle.catch_state.specs.declared.Advanced.{Advanced}
use Rattle.catch_state.specs.Jobs.{new_job, Buffers, stage_of}
use Rattle.catch_turns.specs.declared.Turn.{Turn}
use Rattle.catch_turns.specs.Turns.{Output, kept_back, handed_on, TurnedOn, TurnedMore, TurnedLast, TurnedBy}
use Rattle.audit_theorems.specs.Turns.{Loop, hand_in, MadeTurn, behind, Turns, goes_on, takes, reads_none, is_last}

-- ---- what a progress tells

told_went : (ended : Bool) (before after : Stage) (bytes text : List ℕ) (n : ℕ) → Tells ended before bytes (progress.Went n) text after → WentOn before bytes n text after
told_went true before after bytes text n t = t
told_went false before after bytes text n t = t

told_more : (ended : Bool) (before after : Stage) (bytes text : List ℕ) → Tells ended before bytes progress.More text after → (ended ≡ false) × Waited before bytes text after
told_more true before after bytes text t = absurd t
told_more false before after bytes text t = (refl, t)

told_last : (ended : Bool) (before after : Stage) (bytes text : List ℕ) → Tells ended before bytes progress.Ended text after → IsDone ended before bytes text
told_last true before after bytes text t = t
told_last false before after bytes text t = t

-- a run that is done, with pieces to come only where the stream has not ended
done_writes : (ended : Bool) (before : Stage) (bytes text : List ℕ) (pieces : List (List ℕ)) → IsDone ended before bytes text → (ended ≡ true → pieces ≡ []) → still before (bytes ++ joined pieces) ≡ text
done_writes true before bytes text pieces d none = ap (λ ps. still before (bytes ++ joined ps)) (none refl) ∙ ap (still before) (append-nil bytes) ∙ d
done_writes false before bytes text pieces d none = d (joined pieces)

-- ---- one turn

module _ (l : Loop) (r : Advanced) (out' : List ℕ) (b' : Buffers) (input' : List ℕ) (t : Turn) (m : MadeTurn l r out' b' input' t) where
  abbrev before : Stage
  before = stage_of l.job l.buffers

  abbrev after : Stage
  after = stage_of r.job b'

  abbrev text : List ℕ
  text = m.step.advances.text

  -- the output up to its end behind the step
  output_is : take r.advance.at out' ≡ take l.at l.out ++ text
  output_is = m.step.advances.adds.adds.written

  all_written : (rest : List ℕ) → take r.advance.at out' ++ rest ≡ take l.at l.out ++ (text ++ rest)
  all_written rest = ap (λ x. x ++ rest) output_is ∙ append_assoc (take l.at l.out) text rest

  -- what is handed on, and what is kept back for later
  handed_all : Output r.advance.at t → (rest : List ℕ) → take t.wrote out' ++ (take t.at out' ++ rest) ≡ take l.at l.out ++ (text ++ rest)
  handed_all (kept_back w a d) rest = ap₂ (λ k i. take k out' ++ (take i out' ++ rest)) w a ∙ all_written rest
  handed_all (handed_on w a) rest = ap₂ (λ k i. take k out' ++ (take i out' ++ rest)) w a ∙ all_written rest

  -- it goes on
  on_writes : (n : ℕ) → r.advance.progress ≡ progress.Went n → (more rest : List ℕ) → rest ≡ take t.at out' ++ still after (hand_in (behind r out' b' input' t) ++ more)
      → take t.wrote out' ++ rest ≡ take l.at l.out ++ still before (hand_in l ++ more)
  on_writes n e more rest ih =
      let w : WentOn before (hand_in l) n text after = told_went l.ended before after (hand_in l) text n (subst (λ p. Tells l.ended before (hand_in l) p text after) e m.step.advances.told) in
      let o : TurnedOn l.input l.from l.end n r.advance.at l.ended input' t = subst (λ p. TurnedBy l.input p l.from l.end r.advance.at l.ended input' t) e m.turn.by in
      ap (λ x. take t.wrote out' ++ x) ih ∙ handed_all o.output (still after (hand_in (behind r out' b' input' t) ++ more))
      ∙ ap (λ x. take l.at l.out ++ (text ++ still after (x ++ more))) o.left ∙ ap (λ x. take l.at l.out ++ x) (sym (w.goes more))

  on_ended : (n : ℕ) → r.advance.progress ≡ progress.Went n → t.ended ≡ l.ended
  on_ended n e = let o : TurnedOn l.input l.from l.end n r.advance.at l.ended input' t = subst (λ p. TurnedBy l.input p l.from l.end r.advance.at l.ended input' t) e m.turn.by in o.ended_as

  module _ (e : r.advance.progress ≡ progress.More) (fine : t.done ≡ false) where
    waited : (l.ended ≡ false) × Waited before (hand_in l) text after
    waited = told_more l.ended before after (hand_in l) text (subst (λ p. Tells l.ended before (hand_in l) p text after) e m.step.advances.told)

    turned : TurnedMore l.input l.from l.end r.advance.at input' t
    turned = (subst (λ p. TurnedBy l.input p l.from l.end r.advance.at l.ended input' t) e m.turn.by) fine

    -- it waits, and nothing changes
    wait_writes : (bytes rest : List ℕ) → rest ≡ take t.at out' ++ still after bytes → take t.wrote out' ++ rest ≡ take l.at l.out ++ still before bytes
    wait_writes bytes rest ih =
        ap (λ x. take t.wrote out' ++ x) ih ∙ handed_all (handed_on turned.wrote turned.empty) (still after bytes)
        ∙ ap (λ x. take l.at l.out ++ (x ++ still after bytes)) waited.1.silent ∙ ap (λ x. take l.at l.out ++ still x bytes) (sym waited.1.same)

    -- no byte was read
    same_hand : t.ended ≡ true → hand_in (behind r out' b' input' t) ≡ hand_in l
    same_hand over =
        let size : t.end - t.from ≡ l.end - l.from = eqb-true _ _ (sym turned.ended_as ∙ over) in
        let long : length (hand_in (behind r out' b' input' t)) ≡ t.end - t.from = length-take-le (t.end - t.from) (drop t.from input') (simp length-drop (omega (arith, m.turn.hand.within, m.turn.hand.ordered))) in
        sym (take-length (hand_in (behind r out' b' input' t))) ∙ ap (λ k. take k (hand_in (behind r out' b' input' t))) (long ∙ size) ∙ turned.front

  -- it is the last
  last_writes : r.advance.progress ≡ progress.Ended → (pieces : List (List ℕ)) → (l.ended ≡ true → pieces ≡ []) → take t.wrote out' ≡ take l.at l.out ++ still before (hand_in l ++ joined pieces)
  last_writes e pieces none =
      let d : IsDone l.ended before (hand_in l) text = told_last l.ended before after (hand_in l) text (subst (λ p. Tells l.ended before (hand_in l) p text after) e m.step.advances.told) in
      let o : TurnedLast r.advance.at t = subst (λ p. TurnedBy l.input p l.from l.end r.advance.at l.ended input' t) e m.turn.by in
      ap (λ k. take k out') o.wrote ∙ output_is ∙ ap (λ x. take l.at l.out ++ x) (sym (done_writes l.ended before (hand_in l) text pieces d none))

-- ---- turns

-- what is handed on is the output that is kept back, and then what is still to be written
turns_write : (l : Loop) (pieces : List (List ℕ)) (written : List ℕ) → Turns l pieces written → (l.ended ≡ true → pieces ≡ []) → written ≡ take l.at l.out ++ still (stage_of l.job l.buffers) (hand_in l ++ joined pieces)
turns_write l pieces _ (goes_on _ r out' b' input' t n _ rest m e ts) none =
    on_writes l r out' b' input' t m n e (joined pieces) rest (turns_write (behind r out' b' input' t) pieces rest ts (λ f. none (sym (on_ended l r out' b' input' t m n e) ∙ f)))
turns_write l _ _ (takes _ r out' b' input' t piece pieces rest m e fine unended grown ts) none =
    wait_writes l r out' b' input' t m e fine (hand_in l ++ joined (piece ∷ pieces)) rest
    (turns_write (behind r out' b' input' t) pieces rest ts (λ f. clash f unended) ∙ ap (λ x. take t.at out' ++ still (stage_of r.job b') x) (ap (λ x. x ++ joined pieces) grown ∙ append_assoc (hand_in l) piece (joined pieces)))
turns_write l _ _ (reads_none _ r out' b' input' t rest m e fine over ts) none =
    wait_writes l r out' b' input' t m e fine (hand_in l ++ []) rest
    (turns_write (behind r out' b' input' t) [] rest ts (λ f. refl) ∙ ap (λ x. take t.at out' ++ still (stage_of r.job b') (x ++ [])) (same_hand l r out' b' input' t m e fine over))
turns_write l pieces _ (is_last _ r out' b' input' t _ m e) none = last_writes l r out' b' input' t m e pieces none

-- from the start
pub turns_catch : (l : Loop) (pieces : List (List ℕ)) (written : List ℕ) → l.job ≡ new_job → l.from ≡ l.end → l.at ≡ 0 → l.ended ≡ false → Turns l pieces written → written ≡ catch (joined pieces)
turns_catch l pieces written new none first unended ts =
    let z : l.end - l.from ≡ 0 = omega arith in
    let empty : hand_in l ≡ [] = ap (λ k. take k (drop l.from l.input)) z in
    turns_write l pieces written ts (λ f. clash f unended) ∙ ap₂ (λ k j. take k l.out ++ still (stage_of j l.buffers) (hand_in l ++ joined pieces)) first new
    ∙ ap (λ x. still beginning (x ++ joined pieces)) empty
