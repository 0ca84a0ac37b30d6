-- `map_candidates::cursor::OrientationCursor::next_candidate` meets its contract. The invariant: no posting before i has room.
use Rattle.index_model.specs.Index.{ranked_sequences}
use Rattle.map_candidates.specs.Search.{lies}
use Rattle.map_candidates.specs.Cursor.{NoneFrom}
use Rattle.map_candidates.proofs.cursor.OrientationCursor.next_candidate.Given as goal

abbrev pub invariant-loop-i : goal.invariant-loop-i
invariant-loop-i l = NoneFrom (lies (ranked_sequences l.targets.bases.now l.targets.ends.now l.targets.ranked.now) l.n l.self.offset) l.ranks l.positions l.self.next l.i
