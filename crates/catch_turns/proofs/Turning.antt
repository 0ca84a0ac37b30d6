-- Steps, and what is at hand behind them.
use mathlib.Core.Path.{◌≡◌, refl, sym, ap, subst, ◌∙◌}
use mathlib.Core.Bool.{Bool, true, true≢false}
use mathlib.Core.List.{List}
use Prim.Native.Nat.{ℕ, ◌+◌, ◌-◌, ◌≤◌}
use native.Mathlib.Omega.{arith}
use lib.ListN.{length, take, drop}
use lib.Seq.{take-take, drop-drop}
use lib.Dec.{eqb}
use Rattle.lists.proofs.Places.{drop-take}
use Rattle.catch_progress.specs.declared.Progress.{Progress}
use Rattle.catch_progress.specs.declared.Progress.TheVariants as progress
use Rattle.catch_turns.specs.declared.Filled.{Filled}
use Rattle.catch_turns.specs.declared.Turn.{Turn}
use Rattle.catch_turns.specs.Turns.{AtHand, handed, Refilled, Stepped, kept_back_most, Output, TurnedBy, Turned}

pub went_within : (p : Progress) (n from end : ℕ) → p ≡ progress.Went n → Stepped p from end → from + n ≤ end
went_within p n from end e s = subst (λ x. Stepped x from end) e s

module _ (buffer : List ℕ) (p : Progress) (from end at : ℕ) (ended : Bool) (h : AtHand buffer from end) where
  -- a step that went n bytes
  pub turned_on : (n : ℕ) → p ≡ progress.Went n → Stepped p from end → (done : Bool) (at' wrote : ℕ) → at' ≤ kept_back_most
      → Output at (record { done = done; from = from + n; end = end; ended = ended; at = at'; wrote = wrote })
      → Turned buffer p from end at ended buffer (record { done = done; from = from + n; end = end; ended = ended; at = at'; wrote = wrote })
  turned_on n e s done at' wrote room out =
      let w = went_within p n from end e s in
      let size : end - from - n ≡ end - (from + n) = omega (arith, w) in
      let same : drop n (handed buffer from end) ≡ handed buffer (from + n) end =
      drop-take n (end - from) (drop from buffer) ∙ ap (take (end - from - n)) (drop-drop n from buffer) ∙ ap (λ m. take m (drop (from + n) buffer)) size in
      let t : Turn = record { done = done; from = from + n; end = end; ended = ended; at = at'; wrote = wrote } in
      record {
        by = subst (λ x. TurnedBy buffer x from end at ended buffer t) (sym e) (record { left = sym same; ended_as = refl; output = out });
        hand = record { ordered = w; within = h.within };
        room = room;
      }

  -- the last step
  pub turned_last : p ≡ progress.Ended → Turned buffer p from end at ended buffer (record { done = true; from = from; end = end; ended = ended; at = 0; wrote = at })
  turned_last e =
      let t : Turn = record { done = true; from = from; end = end; ended = ended; at = 0; wrote = at } in
      record { by = subst (λ x. TurnedBy buffer x from end at ended buffer t) (sym e) (record { wrote = refl; done = refl }); hand = h; room = omega arith }

  module _ (e : p ≡ progress.More) where
    -- what is written is not taken
    pub turned_off : Turned buffer p from end at ended buffer (record { done = true; from = from; end = end; ended = ended; at = 0; wrote = at })
    turned_off =
        let t : Turn = record { done = true; from = from; end = end; ended = ended; at = 0; wrote = at } in
        record { by = subst (λ x. TurnedBy buffer x from end at ended buffer t) (sym e) (λ f. absurd (true≢false f)); hand = h; room = omega arith }

    -- others are read behind those at hand
    pub turned_more : (buffer' : List ℕ) (r : Filled) (done : Bool) → length buffer' ≡ length buffer → Refilled buffer from end buffer' r
        → Turned buffer p from end at ended buffer' (record { done = done; from = 0; end = r.end; ended = r.ended; at = 0; wrote = at })
    turned_more buffer' r done long f =
        let t : Turn = record { done = done; from = 0; end = r.end; ended = r.ended; at = 0; wrote = at } in
        let all : r.end ≡ r.end - 0 = omega arith in
        record {
          by =
              subst (λ x. TurnedBy buffer x from end at ended buffer' t) (sym e) (λ _.
              record {
                wrote = refl;
                empty = refl;
                front = take-take (end - from) (r.end - 0) buffer' (omega (arith, f.more)) ∙ f.kept;
                more = omega (arith, f.more);
                ended_as = f.ended ∙ ap (λ m. eqb m (end - from)) all;
              });
          hand = record { ordered = omega arith; within = omega (arith, long, f.fits) };
          room = omega arith;
        }
