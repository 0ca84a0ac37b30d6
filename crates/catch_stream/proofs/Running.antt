-- Steps of a job, and what is at hand between them.
use mathlib.Core.Path.{◌≡◌, refl, subst}
use mathlib.Core.Bool.{Bool, true, false}
use mathlib.Core.List.{List}
use Prim.Native.Nat.{ℕ, ◌+◌, ◌*◌, ◌-◌, ◌≤◌}
use native.Mathlib.Omega.{arith}
use lib.ListN.{length, drop, replicate, length-drop}
use lib.Seq.{length-take-le}
use Rattle.lists.specs.Cut.{window}
use Rattle.catalogue.specs.Catalogue.{max_targets}
use Rattle.catch_commands.specs.Commands.{max_stream_targets, max_stream_bases}
use Rattle.catch_fragments.specs.Telling.{longest_fragment}
use Rattle.catch_model.specs.Job.{Stage, stream_entries}
use Rattle.catch_supply.specs.Supplying.{max_stream_names}
use Rattle.catch_progress.specs.declared.Progress.{Progress}
use Rattle.catch_progress.specs.declared.Progress.TheVariants as progress
use Rattle.catch_advance.specs.Advancing.{step_room, Tells}
use Rattle.catch_state.specs.declared.Job.{Job}
use Rattle.catch_state.specs.Jobs.{new_job, Buffers, buffers_of, stage_of, JobKept, JobAdvances}
use Rattle.catch_state.specs.declared.Advanced.{Advanced}
use Rattle.catch_turns.specs.Turns.{AtHand, Stepped, Steps, kept_back_most}

-- ---- between steps

pub record Runs (j : Job) (b : Buffers) (entries buffer out : List ℕ) (from end at : ℕ) : Type 0 where
  pub kept : JobKept j b
  pub places : length entries ≡ 4 * stream_entries
  pub hand : AtHand buffer from end
  pub input : length buffer ≡ 32768
  pub output : length out ≡ 131072
  pub room : at ≤ kept_back_most

-- at the start nothing is read
abbrev pub zeros : List ℕ
zeros = replicate max_stream_targets 0

pub new-kept : (is bs ranked ks rs os : List ℕ) → length is ≡ max_stream_names → length bs ≡ max_stream_bases → length ranked ≡ max_targets
    → length ks ≡ max_stream_bases → length rs ≡ max_stream_bases → length os ≡ max_stream_bases
    → JobKept new_job (buffers_of is zeros bs zeros zeros ranked ks rs os zeros zeros zeros)
new-kept is bs ranked ks rs os i b r k s o =
    record {
      supply = record { targets = omega arith; names = omega arith; bases = omega arith; identifiers = i; identifier_ends = refl; sequences = b; base_ends = refl; marks = refl };
      ranked = r;
      keys = k;
      ranks = s;
      positions = o;
      placements = refl;
      singles = refl;
      multi = refl;
      at_stage = (refl, refl);
    }

-- ---- from one to the next

-- it goes no further than what it was lent
told_within : (ended : Bool) (before after : Stage) (bytes text : List ℕ) (p : Progress) (from end : ℕ) → from ≤ end → length bytes ≡ end - from → Tells ended before bytes p text after → Stepped p from end
told_within true before after bytes text (progress.Went n) from end h e t = omega (arith, t.within)
told_within false before after bytes text (progress.Went n) from end h e t = omega (arith, t.within)
told_within ended before after bytes text progress.Ended from end h e t = h
told_within ended before after bytes text progress.More from end h e t = h

-- it waits only for a command that is not whole
told_few : (ended : Bool) (before after : Stage) (bytes text : List ℕ) (p : Progress) → Tells ended before bytes p text after → p ≡ progress.More → length bytes ≤ longest_fragment
told_few ended before after bytes text p t e = few ended (subst (λ x. Tells ended before bytes x text after) e t)
  where
    few : (b : Bool) → Tells b before bytes progress.More text after → length bytes ≤ longest_fragment
    few true u = absurd u
    few false u = u.few

module _ (j : Job) (b : Buffers) (entries buffer out : List ℕ) (from end at : ℕ) (runs : Runs j b entries buffer out from end at) where
  -- a step has room for its lines
  pub has_room : at + step_room ≤ length out
  has_room = omega (arith, runs.room, runs.output)

  -- what follows it has room for the bytes that were read
  pub steps : (ended : Bool) (out' : List ℕ) (r : Advanced) (b' : Buffers) → length out' ≡ 131072
      → JobAdvances ended j b (window buffer from (end - from)) out at out' r b' → Steps buffer out' r.advance.progress from end r.advance.at
  steps ended out' r b' e a =
      let size = length-take-le (end - from) (drop from buffer) (simp length-drop (omega (arith, runs.hand.within))) in
      record {
        hand = runs.hand;
        went = told_within ended (stage_of j b) (stage_of r.job b') (window buffer from (end - from)) a.advances.text r.advance.progress from end runs.hand.ordered
            size a.advances.told;
        written = omega (arith, a.advances.adds.room, runs.room);
        room = λ f.
            omega (arith, size, runs.input, told_few ended (stage_of j b) (stage_of r.job b') (window buffer from (end - from)) a.advances.text r.advance.progress a.advances.told f);
      }
