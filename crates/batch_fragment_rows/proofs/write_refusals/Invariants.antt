-- `batch_fragment_rows::write_refusals` meets its contract: row by row.
use mathlib.Core.Path.{◌≡◌}
use Prim.Native.Nat.{◌*◌}
use Rattle.buffers.specs.Placed.{placed}
use Rattle.batch_lists.specs.Listed.{refused_rows}
use Rattle.batch_fragment_rows.proofs.write_refusals.Given as goal

abbrev pub invariant-loop-i : goal.invariant-loop-i
invariant-loop-i g l = l.rows ≡ placed (8 * l.at) (refused_rows (g.E.Numbered.its_number l.refusal) l.i) l.initial.rows
