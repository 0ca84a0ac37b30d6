-- The bytes of a stream that are at hand in a buffer (REFERENCE.md, "Stream").
use Rattle.std.specs.Prelude.{◌≡◌, Bool, true, false, List, ℕ, ◌+◌, ◌-◌, ◌≤◌, ◌<◌, length, take, drop, eqb}
use Rattle.lists.specs.Cut.{window}
use Rattle.catch_progress.specs.declared.Progress.{Progress}
use Rattle.catch_progress.specs.declared.Progress.TheVariants as progress
use Rattle.catch_turns.specs.declared.Filled.{Filled}
use Rattle.catch_turns.specs.declared.Turn.{Turn}

-- they stand between two places
pub record AtHand (buffer : List ℕ) (from end : ℕ) : Type 0 where
  pub ordered : from ≤ end
  pub within : end ≤ length buffer

-- n of them are now at the front
abbrev pub Kept : List ℕ → ℕ → List ℕ → ℕ → Type 0
Kept buffer from buffer' n = take n buffer' ≡ window buffer from n

-- the bytes at hand
abbrev pub handed : List ℕ → ℕ → ℕ → List ℕ
handed buffer from end = window buffer from (end - from)

-- bytes were read behind those at hand: one at least was asked for; those at hand are at the front, and behind them stand as many as were told;
-- the input has ended exactly where none was
pub record Refilled (buffer : List ℕ) (from end : ℕ) (buffer' : List ℕ) (r : Filled) : Type 0 where
  pub asked : 1 ≤ r.asked
  pub kept : Kept buffer from buffer' (end - from)
  pub more : end - from ≤ r.end
  pub fits : r.end ≤ length buffer
  pub ended : r.ended ≡ eqb r.end (end - from)

-- a step went no further than what is at hand
abbrev pub Stepped : Progress → ℕ → ℕ → Type 0
Stepped (progress.Went n) from end = from + n ≤ end
Stepped progress.Ended from end = from ≤ end
Stepped progress.More from end = from ≤ end

-- a step, with the bytes that were at hand and the output up to its end; where more are needed there is room for one
pub record Steps (buffer out : List ℕ) (p : Progress) (from end at : ℕ) : Type 0 where
  pub hand : AtHand buffer from end
  pub went : Stepped p from end
  pub written : at ≤ length out
  pub room : p ≡ progress.More → end - from < length buffer

-- the most bytes of output that are kept back
abbrev pub kept_back_most : ℕ
kept_back_most = 32768

-- the output up to its end is kept back, or it is handed to `write`
pub data Output (at : ℕ) (t : Turn) : Type 0 where
  kept_back : t.wrote ≡ 0 → t.at ≡ at → t.done ≡ false → Output at t
  handed_on : t.wrote ≡ at → t.at ≡ 0 → Output at t

-- behind a step that went n bytes: what is at hand lost these, and the stream has ended if it had
pub record TurnedOn (buffer : List ℕ) (from end n at : ℕ) (ended : Bool) (buffer' : List ℕ) (t : Turn) : Type 0 where
  pub left : handed buffer' t.from t.end ≡ drop n (handed buffer from end)
  pub ended_as : t.ended ≡ ended
  pub output : Output at t

-- behind one that must wait, where nothing failed: the output was handed on, other bytes stand behind those at hand, and the stream has ended exactly
-- where there are none
pub record TurnedMore (buffer : List ℕ) (from end at : ℕ) (buffer' : List ℕ) (t : Turn) : Type 0 where
  pub wrote : t.wrote ≡ at
  pub empty : t.at ≡ 0
  pub front : take (end - from) (handed buffer' t.from t.end) ≡ handed buffer from end
  pub more : end - from ≤ t.end - t.from
  pub ended_as : t.ended ≡ eqb (t.end - t.from) (end - from)

-- behind the last one
pub record TurnedLast (at : ℕ) (t : Turn) : Type 0 where
  pub wrote : t.wrote ≡ at
  pub done : t.done ≡ true

-- by how far the step went
abbrev pub TurnedBy : List ℕ → Progress → ℕ → ℕ → ℕ → Bool → List ℕ → Turn → Type 0
TurnedBy buffer (progress.Went n) from end at ended buffer' t = TurnedOn buffer from end n at ended buffer' t
TurnedBy buffer progress.More from end at ended buffer' t = t.done ≡ false → TurnedMore buffer from end at buffer' t
TurnedBy buffer progress.Ended from end at ended buffer' t = TurnedLast at t

-- behind a step: what it comes to, bytes at hand, and room for the next
pub record Turned (buffer : List ℕ) (p : Progress) (from end at : ℕ) (ended : Bool) (buffer' : List ℕ) (t : Turn) : Type 0 where
  pub by : TurnedBy buffer p from end at ended buffer' t
  pub hand : AtHand buffer' t.from t.end
  pub room : t.at ≤ kept_back_most
