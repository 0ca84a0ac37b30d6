use mathlib.Core.Path.{sym, subst}
use native.Mathlib.Omega.{arith}
use Rattle.catch_state.specs.Jobs.{buffers_of, JobKept}
use Rattle.catch_stream.proofs.Running.{zeros, new-kept, has_room, steps}
use Rattle.catch_stream.proofs.run_stream.Goals as goal

pub turns-init : goal.turns-init
turns-init g c =
    let is = c.room-identifiers in
    let bs = c.room-bases in
    let ranked = c.room-ranked in
    let ks = c.room-keys in
    let rs = c.room-ranks in
    let os = c.room-positions in
    record {
      kept = subst (λ j. JobKept j (buffers_of is.result zeros bs.result zeros zeros ranked.result ks.result rs.result os.result zeros zeros zeros)) (sym c.new_job-job.ensures)
          (new-kept _ _ _ _ _ _ (sym is.ensures) (sym bs.ensures) (sym ranked.ensures) (sym ks.ensures) (sym rs.ensures) (sym os.ensures));
      places = sym c.room-entries.ensures;
      hand = record { ordered = omega arith; within = omega arith };
      input = sym c.room-buffer.ensures;
      output = sym c.room-out.ensures;
      room = omega arith;
    }

pub slice_bounds-advance-end : goal.slice_bounds-advance-end
slice_bounds-advance-end g c = sym c.turns.invariant.output

pub slice_bounds-advance-end-in-turns : goal.slice_bounds-advance-end-in-turns
slice_bounds-advance-end-in-turns g c = sym c.turns.invariant.kept.supply.identifiers

pub slice_bounds-advance-end-in-turns-2 : goal.slice_bounds-advance-end-in-turns-2
slice_bounds-advance-end-in-turns-2 g c = sym c.turns.invariant.kept.supply.identifier_ends

pub slice_bounds-advance-end-in-turns-3 : goal.slice_bounds-advance-end-in-turns-3
slice_bounds-advance-end-in-turns-3 g c = sym c.turns.invariant.kept.supply.sequences

pub slice_bounds-advance-end-in-turns-4 : goal.slice_bounds-advance-end-in-turns-4
slice_bounds-advance-end-in-turns-4 g c = sym c.turns.invariant.kept.supply.base_ends

pub slice_bounds-advance-end-in-turns-5 : goal.slice_bounds-advance-end-in-turns-5
slice_bounds-advance-end-in-turns-5 g c = sym c.turns.invariant.kept.supply.marks

pub slice_bounds-advance-end-in-turns-6 : goal.slice_bounds-advance-end-in-turns-6
slice_bounds-advance-end-in-turns-6 g c = sym c.turns.invariant.kept.ranked

pub slice_bounds-advance-end-in-turns-7 : goal.slice_bounds-advance-end-in-turns-7
slice_bounds-advance-end-in-turns-7 g c = sym c.turns.invariant.kept.keys

pub slice_bounds-advance-end-in-turns-8 : goal.slice_bounds-advance-end-in-turns-8
slice_bounds-advance-end-in-turns-8 g c = sym c.turns.invariant.kept.ranks

pub slice_bounds-advance-end-in-turns-9 : goal.slice_bounds-advance-end-in-turns-9
slice_bounds-advance-end-in-turns-9 g c = sym c.turns.invariant.kept.positions

pub slice_bounds-advance-end-in-turns-10 : goal.slice_bounds-advance-end-in-turns-10
slice_bounds-advance-end-in-turns-10 g c = sym c.turns.invariant.kept.placements

pub slice_bounds-advance-end-in-turns-11 : goal.slice_bounds-advance-end-in-turns-11
slice_bounds-advance-end-in-turns-11 g c = sym c.turns.invariant.kept.singles

pub slice_bounds-advance-end-in-turns-12 : goal.slice_bounds-advance-end-in-turns-12
slice_bounds-advance-end-in-turns-12 g c = sym c.turns.invariant.kept.multi

pub slice_bounds-advance-end-in-turns-13 : goal.slice_bounds-advance-end-in-turns-13
slice_bounds-advance-end-in-turns-13 g c = sym c.turns.invariant.places

pub advance-r-requires : goal.advance-r-requires
advance-r-requires g c = (c.turns.invariant.kept, c.turns.invariant.places, has_room _ _ _ _ _ _ _ _ c.turns.invariant)

pub slice_bounds-follow-end : goal.slice_bounds-follow-end
slice_bounds-follow-end g c = sym c.turns.invariant.input

pub slice_bounds-follow-end-in-turns : goal.slice_bounds-follow-end-in-turns
slice_bounds-follow-end-in-turns g c = sym c.out-in-turns-1.given

pub follow-turn-requires : goal.follow-turn-requires
follow-turn-requires g c = steps _ _ _ _ _ _ _ _ c.turns.invariant _ _ _ _ c.out-in-turns-1.given c.advance-r.ensures

pub turns-preserved : goal.turns-preserved
turns-preserved g c = let f = c.follow-turn.ensures in
    record {
      kept = c.advance-r.ensures.kept;
      places = omega arith;
      hand = record { ordered = omega (arith, f.hand.ordered); within = omega (arith, f.hand.within) };
      input = omega arith;
      output = omega arith;
      room = omega (arith, f.room);
    }
