-- What the calls of a search by index ask for.
use mathlib.Core.Path.{◌≡◌, refl, ap}
use mathlib.Core.List.{List}
use Prim.Native.Nat.{ℕ, zero, suc, ◌+◌, ◌*◌, ◌≤◌}
use native.Mathlib.Omega.{arith}
use lib.ListN.{length}
use lib.Dec.{eqb}
use Rattle.lists.proofs.Limit.{length_stopped}
use Rattle.bases.specs.Read.{oriented}
use Rattle.bases.proofs.Turning.{length-oriented}
use Rattle.lists.specs.Numbers.{numbers}
use Rattle.index_seeds.specs.Window.{starts}
use Rattle.index_model.specs.Index.{index_of, ranked_sequences, max_starts}
use Rattle.index_model.proofs.Sequencing.{ranked_many}
use Rattle.map_places.specs.Place.{max_read}
use Rattle.map_candidates.specs.Search.{offset_count, Rarest}
use Rattle.map_candidates.specs.Cursor.{CursorIn, CursorsIn}
use Rattle.map_rarest_seed.specs.declared.SeedChoice.{SeedChoice}
use Rattle.map_candidates.specs.declared.sides.Sides.{Sides}
use Rattle.map_by_index.specs.Steps.{IndexSearchable, Spans}
use Rattle.map_by_index.proofs.Seeking.{cursor_in, in_index, index_few}
use Rattle.map_by_index.proofs.Merging.{Chosen, Both}

length-numbers : (k n : ℕ) → length (numbers k n) ≡ n
length-numbers k zero = refl
length-numbers k (suc n) = ap suc (length-numbers (suc k) n)

module _ (q : ℕ) (bases ends ranked ks rs os read : List ℕ) (ready : IndexSearchable q bases ends ranked ks rs os read) (long : q ≤ length read) where
  abbrev ss : List (List ℕ)
  ss = ranked_sequences bases ends ranked

  ready_few : length (index_of q (ranked_sequences bases ends ranked)) ≤ max_starts
  ready_few = index_few q bases ends ranked ready.seed.some ready.searchable.lent

  pub ready_cursor : (next end : ℕ) → next ≤ end → end ≤ length ks → CursorIn rs os (length ranked) next end
  ready_cursor next end h k = rw (← ranked_many bases ends ranked) (cursor_in q (ranked_sequences bases ends ranked) ks rs os ready.indexed next end h k)

  module _ (plus minus : SeedChoice) (p : Rarest ks q (oriented 0 read) plus.offset plus.start plus.end plus.lookups) (m : Rarest ks q (oriented 1 read) minus.offset minus.start minus.end minus.lookups) where
    pub ready_chosen : (bound : ℕ) (buffer : List ℕ) → 4 * bound ≤ length buffer → Chosen q (ranked_sequences bases ends ranked) read ks rs os plus minus bound buffer
    ready_chosen bound buffer room = record { some = ready.seed.some; long = long; indexed = ready.indexed; plus_chosen = p; minus_chosen = m; room = room; few = ready_few }

    lookups_few : (strand : ℕ) (choice : SeedChoice) → Rarest ks q (oriented strand read) choice.offset choice.start choice.end choice.lookups → choice.lookups ≤ max_read + 1
    lookups_few strand choice r =
        omega (arith, r.lookups_are, length_stopped (λ o. eqb (offset_count ks q (oriented strand read) o) 0) (numbers 0 (starts q (oriented strand read))) 0, length-numbers 0 (starts q (oriented strand read)), length-oriented strand read, ready.searchable.short)

    module _ (bound : ℕ) (buffer : List ℕ) (sides : Sides) (c s : ℕ) (b : List ℕ) (at : Both q (ranked_sequences bases ends ranked) ranked read bound plus minus buffer sides c s b) where
      pub ready_spans : Spans plus sides.plus × Spans minus sides.minus
      ready_spans =
          let i = in_index q (ranked_sequences bases ends ranked) ks rs os ready.indexed in (
            record { from = at.plus_side.from; upto = at.plus_side.upto; most = omega (arith, p.range_is.inside, i, ready_few); lookups = lookups_few 0 plus p },
            record { from = at.minus_side.from; upto = at.minus_side.upto; most = omega (arith, m.range_is.inside, i, ready_few); lookups = lookups_few 1 minus m },
          )

      pub ready_cursors : CursorsIn rs os (length ranked) sides.plus.cursor sides.minus.cursor
      ready_cursors =
          record {
            plus_in = ready_cursor sides.plus.cursor.next sides.plus.cursor.end (omega (arith, at.plus_side.upto, at.plus_side.end_is)) (omega (arith, p.range_is.inside, at.plus_side.end_is));
            minus_in = ready_cursor sides.minus.cursor.next sides.minus.cursor.end (omega (arith, at.minus_side.upto, at.minus_side.end_is)) (omega (arith, m.range_is.inside, at.minus_side.end_is));
          }
