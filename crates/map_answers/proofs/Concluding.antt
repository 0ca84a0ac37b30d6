-- What a search answers by the matches that it saw: its state, and entries set to zero.
use Rattle.std.specs.Prelude.{Ok, Err}
use mathlib.Core.Path.{◌≡◌, refl, sym, ap, ◌∙◌}
use Rattle.promises.specs.declared.refusal.Refusal.TheVariants as refusals
use mathlib.Core.List.{List, ◌++◌}
use Prim.Native.Nat.{ℕ, ◌+◌, ◌-◌, ◌*◌, ◌/◌, ◌≤◌, ◌<◌}
use native.Mathlib.Omega.{arith}
use lib.ListN.{length, drop, replicate, length-replicate}
use lib.Seq.{drop_at, drop-drop}
use borrow.Author.Tests.{lt-ltb, le-ltb}
use Rattle.buffers.specs.Placed.{placed}
use Rattle.buffers.proofs.Storing.{length-placed}
use Rattle.map_every_start.specs.Entries.{entry_count, cleared}
use Rattle.map_answers.specs.Answer.{state_number, state_of, Concluded}
use Rattle.map_by_index.specs.declared.work.MappingWork.{MappingWork}
use Rattle.map_answers.specs.declared.answer.ReadState.{ReadState}
use Rattle.map_answers.specs.declared.answer.ReadState.TheVariants as states

-- ---- entries set to zero

-- a list that covers another
placed_over : (xs ys b : List ℕ) → length xs ≤ length ys → placed 0 ys (placed 0 xs b) ≡ placed 0 ys b
placed_over xs ys b h = ap (λ l. ys ++ l) behind
  where
    rest : ℕ
    rest = length ys - length xs

    split : 0 + length ys ≡ length xs + rest
    split = omega arith

    behind : drop (0 + length ys) (xs ++ drop (0 + length xs) b) ≡ drop (0 + length ys) b
    behind =
        let z : 0 + length xs ≡ length xs = omega arith in
        rw (split, z)
        (sym (drop-drop rest (length xs) (xs ++ drop (length xs) b)) ∙ ap (drop rest) (drop_at xs (drop (length xs) b) (length xs) refl) ∙ drop-drop rest (length xs) b)

module _ (b : List ℕ) where
  length_zeros : length (replicate {A = ℕ} (4 * entry_count b) 0) ≡ 4 * entry_count b
  length_zeros = length-replicate {A = ℕ} (4 * entry_count b) 0

  pub length-cleared : length (cleared b) ≡ length b
  length-cleared = length-placed 0 (replicate (4 * entry_count b) 0) b (omega (arith, length_zeros))

  module _ (rows : List ℕ) (h : length rows ≤ 4 * entry_count b) where
    pub length-listed : length (placed 0 rows (cleared b)) ≡ length b
    length-listed = length-placed 0 rows (cleared b) (omega (arith, length-cleared)) ∙ length-cleared

    -- rows that were written are gone
    pub cleared_again : cleared (placed 0 rows (cleared b)) ≡ cleared b
    cleared_again =
        ap (λ n. placed 0 (replicate (4 * (n / 4)) 0) (placed 0 rows (cleared b))) length-listed
        ∙ placed_over rows (replicate (4 * entry_count b) 0) (cleared b) (omega (arith, length_zeros))
        ∙ placed_over (replicate (4 * entry_count b) 0) (replicate (4 * entry_count b) 0) b (omega arith)

-- ---- the answer by the matches seen

module _ (limit bound : ℕ) (w : MappingWork) (b : List ℕ) where
  pub conclude_few : w.seen ≤ bound → (state : ReadState) → state_number state ≡ state_of w.seen → Concluded limit bound w (Ok (record { state = state; groups = w.seen; work = w })) b b
  conclude_few h state e = record { answer = rw (le-ltb bound w.seen h, e); entries = rw (le-ltb bound w.seen h) }

  module _ (h : bound < w.seen) (b' : List ℕ) (e : b' ≡ cleared b) where
    same-room : entry_count b' ≡ entry_count b
    same-room = ap (λ l. entry_count l) e ∙ ap (λ n. n / 4) (length-cleared b)

    pub conclude_short : entry_count b' < limit → Concluded limit bound w (Err refusals.PlacementRoom) b b'
    conclude_short k = record { answer = rw (lt-ltb bound w.seen h, lt-ltb (entry_count b) limit (omega (arith, same-room))); entries = rw (lt-ltb bound w.seen h) e }

    pub conclude_past : limit ≤ entry_count b' → Concluded limit bound w (Ok (record { state = states.Indeterminate; groups = 0; work = w })) b b'
    conclude_past k = record { answer = rw (lt-ltb bound w.seen h, le-ltb (entry_count b) limit (omega (arith, same-room))); entries = rw (lt-ltb bound w.seen h) e }
