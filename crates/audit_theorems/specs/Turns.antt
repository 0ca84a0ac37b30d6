-- Turns of `catch`: steps, each as `advance` promises, and what is done between them, as `follow` promises (REFERENCE.md, "Stream").
use Rattle.std.specs.Prelude.{◌≡◌, Bool, true, false, List, [], ◌∷◌, ◌++◌, ℕ, take}
use Rattle.catch_progress.specs.declared.Progress.TheVariants as progress
use Rattle.catch_state.specs.declared.Job.{Job}
use Rattle.catch_state.specs.declared.Advanced.{Advanced}
use Rattle.catch_state.specs.Jobs.{Buffers, JobAdvances}
use Rattle.catch_turns.specs.declared.Turn.{Turn}
use Rattle.catch_turns.specs.Turns.{handed, Turned}

-- what the loop holds: the job and its buffers; bytes that were read, of which those between two places are at hand; whether the stream has
-- ended; and an output up to its end
pub record Loop : Type 0 where
  pub job : Job
  pub buffers : Buffers
  pub input : List ℕ
  pub from : ℕ
  pub end : ℕ
  pub ended : Bool
  pub out : List ℕ
  pub at : ℕ

abbrev pub hand_in : Loop → List ℕ
hand_in l = handed l.input l.from l.end

-- a step and what follows it, each as it is promised
pub record MadeTurn (l : Loop) (r : Advanced) (out' : List ℕ) (b' : Buffers) (input' : List ℕ) (t : Turn) : Type 0 where
  pub step : JobAdvances l.ended l.job l.buffers (hand_in l) l.out l.at out' r b'
  pub turn : Turned l.input r.advance.progress l.from l.end r.advance.at l.ended input' t

-- what the loop holds then
abbrev pub behind : Advanced → List ℕ → Buffers → List ℕ → Turn → Loop
behind r out' b' input' t = record { job = r.job; buffers = b'; input = input'; from = t.from; end = t.end; ended = t.ended; out = out'; at = t.at }

-- turns one after the other, with the pieces that are still to be read and what is handed to `write`: a step goes on; it waits, and the bytes that are
-- read are the next piece; it waits, and no byte is read, since no piece is left; or it is the last
pub data Turns : Loop → List (List ℕ) → List ℕ → Type 0 where
  goes_on : (l : Loop) (r : Advanced) (out' : List ℕ) (b' : Buffers) (input' : List ℕ) (t : Turn) (n : ℕ) (pieces : List (List ℕ)) (rest : List ℕ)
      → MadeTurn l r out' b' input' t → r.advance.progress ≡ progress.Went n → Turns (behind r out' b' input' t) pieces rest → Turns l pieces (take t.wrote out' ++ rest)
  takes : (l : Loop) (r : Advanced) (out' : List ℕ) (b' : Buffers) (input' : List ℕ) (t : Turn) (piece : List ℕ) (pieces : List (List ℕ)) (rest : List ℕ)
      → MadeTurn l r out' b' input' t → r.advance.progress ≡ progress.More → t.done ≡ false → t.ended ≡ false → hand_in (behind r out' b' input' t) ≡ hand_in l ++ piece
      → Turns (behind r out' b' input' t) pieces rest → Turns l (piece ∷ pieces) (take t.wrote out' ++ rest)
  reads_none : (l : Loop) (r : Advanced) (out' : List ℕ) (b' : Buffers) (input' : List ℕ) (t : Turn) (rest : List ℕ)
      → MadeTurn l r out' b' input' t → r.advance.progress ≡ progress.More → t.done ≡ false → t.ended ≡ true → Turns (behind r out' b' input' t) [] rest → Turns l [] (take t.wrote out' ++ rest)
  is_last : (l : Loop) (r : Advanced) (out' : List ℕ) (b' : Buffers) (input' : List ℕ) (t : Turn) (pieces : List (List ℕ))
      → MadeTurn l r out' b' input' t → r.advance.progress ≡ progress.Ended → Turns l pieces (take t.wrote out')
