-- `catch_commands::little_endian` meets its contract. The loop's invariant: the number is that of the bytes from `i` on, and fits them.
use Rattle.catch_commands.proofs.Number.{Reading}
use Rattle.catch_commands.proofs.little_endian.Given as goal

abbrev pub invariant-loop-i : goal.invariant-loop-i
invariant-loop-i l = Reading l.bytes l.i l.number
