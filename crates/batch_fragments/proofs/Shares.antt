-- How long the rows and the share of a fragment are, and that settings and counters stay alike.
use mathlib.Core.Path.{◌≡◌, refl, sym, ap, subst, ◌∙◌}
use mathlib.Core.Bool.{Bool, true, false, cond, ◌&&◌, ◌||◌}
use mathlib.Core.List.{List, [], ◌∷◌, ◌++◌}
use Prim.Native.Nat.{ℕ, zero, suc, ◌+◌, ◌*◌, ◌≤◌}
use native.Mathlib.Omega.{arith}
use lib.ListN.{length, take, drop, length-append, length-map}
use lib.Dec.{eqb}
use lib.Seq.{take_at, drop_at, length-take-le}
use Rattle.audit_model.specs.Observing.{observe, observed_row, MateRead}
use Rattle.promises.specs.Refusal.{outcome, if_passed}
use Rattle.buffers.specs.Placed.{placed}
use Rattle.map_every_start.specs.Entries.{entry_count, cleared}
use Rattle.map_by_index.specs.Work.{Way}
use Rattle.map_answers.specs.Answer.{Row}
use Rattle.map_answers.proofs.Concluding.{length-cleared}
use Rattle.audit_ledger.proofs.Booking.{booked_lengths}
use Rattle.audit_model.specs.Settings.{Held, held_books}
use Rattle.audit_model.specs.Fragment.{entries_left, tested_booked, tested_refusal, tested_rows, tested_accepted, tested_written}
use Rattle.audit_model.specs.Run.{Call}
use Rattle.audit_model.proofs.Checking.{tested_checked}
use Rattle.audit_model.proofs.Parts.{length-written}
use Rattle.batch_lists.specs.Listed.{rows_in, refused_rows, outcome_rows}
use Rattle.batch_fragments.specs.Listed.{tested_answer, tested_next}

-- ---- rows

length-rows_in : (rs : List Row) → length (rows_in rs) ≡ 8 * length rs
length-rows_in [] = refl
length-rows_in (r ∷ rs) = omega (arith, length-rows_in rs)

length_refused : (number n : ℕ) → length (refused_rows number n) ≡ 8 * n
length_refused number zero = refl
length_refused number (suc n) = omega (arith, length_refused number n)

-- ---- what is left

length_left : (n : ℕ) (w b : List ℕ) → (n ≡ 0 → length w ≡ length b) → length (entries_left n w b) ≡ length b
length_left zero w b h = h refl
length_left (suc n) w b h = go (eqb (suc n) 10 || eqb (suc n) 17)
  where
    go : (t : Bool) → length (cond t (cleared b) b) ≡ length b
    go true = length-cleared b
    go false = refl

-- settings, and how many counters there are
pub record Alike (h h' : Held) : Type 0 where
  pub settings : h'.state.settings ≡ h.state.settings
  pub placements : length h'.counters.placements ≡ length h.counters.placements
  pub singles : length h'.counters.singles ≡ length h.counters.singles
  pub multi : length h'.counters.multi ≡ length h.counters.multi

held_alike : (n : ℕ) (booked h : Held) → Alike h booked → Alike h (if_passed n booked h)
held_alike zero booked h a = a
held_alike (suc n) booked h a = record { settings = refl; placements = refl; singles = refl; multi = refl }

module _ (offset : ℕ) (ss : List (List ℕ)) (way : Way) (ranked : List ℕ) (h : Held) (x : Call) where
  abbrev refusal : ℕ
  refusal = tested_refusal offset ss ranked h x.fragment (entry_count x.entries)

  -- eight numbers for each read
  pub length_told : length (outcome_rows (length x.fragment.reads) (tested_answer offset ss way ranked h x).rows) ≡ 8 * length x.fragment.reads
  length_told = go refusal
    where
      go : (n : ℕ) → length (outcome_rows (length x.fragment.reads) (outcome n (tested_rows offset ss ranked h x.fragment way))) ≡ 8 * length x.fragment.reads
      go zero = length-rows_in (tested_rows offset ss ranked h x.fragment way) ∙ ap (λ n. 8 * n) (length-map x.fragment.reads (λ (r : MateRead). observed_row h.state.settings ss way (observe offset h.state.settings r)))
      go (suc n) = length_refused (suc n) (length x.fragment.reads)

  -- the share stays as long as it is
  pub length_share : length (tested_answer offset ss way ranked h x).entries ≡ length x.entries
  length_share =
      length_left refusal (tested_written offset ss ranked h x.fragment x.entries) x.entries
      (λ z. let t = tested_checked offset ss way ranked h x.fragment (entry_count x.entries) z in
      length-written offset h.state.settings ss ranked x.fragment.reads x.entries t.roles t.rooms)

  pub next_alike : Alike h (tested_next offset ss way ranked h x)
  next_alike =
      let l = booked_lengths ranked (tested_booked offset ss ranked h x.fragment) (held_books h) in
      held_alike refusal (tested_accepted offset ss ranked h x.fragment) h (record { settings = refl; placements = l.placements; singles = l.singles; multi = l.multi })

-- ---- a list behind the front of a buffer

module _ (at : ℕ) (xs b : List ℕ) (k : ℕ) (h : at + length xs ≤ length b) (e : k ≡ at + length xs) where
  front : length (take at b ++ xs) ≡ k
  front = length-append (take at b) xs ∙ omega (arith, length-take-le at b (omega arith))

  pub take-placed : take k (placed at xs b) ≡ take at b ++ xs
  take-placed = take_at (take at b ++ xs) (drop (at + length xs) b) k front

  pub drop-placed : drop k (placed at xs b) ≡ drop k b
  drop-placed = drop_at (take at b ++ xs) (drop (at + length xs) b) k front ∙ ap (λ n. drop n b) (sym e)

-- ---- what a fragment is lent
