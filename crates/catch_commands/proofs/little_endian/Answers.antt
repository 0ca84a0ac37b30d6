use Rattle.std.proofs.Common.{◌-◌, arith}
use Rattle.catch_commands.proofs.Number.{room, step}
use Rattle.catch_commands.proofs.little_endian.Goals as goal

pub overflow_mul-number : goal.overflow_mul-number
overflow_mul-number c = omega (arith, room _ _ _ c.loop-i.invariant (omega arith) (omega arith) c.requires)

pub overflow_add-number : goal.overflow_add-number
overflow_add-number c = omega (arith, room _ _ _ c.loop-i.invariant (omega arith) (omega arith) c.requires, c.type_inv.bytes (c.loop-i.i - 1))

pub loop-i-preserved : goal.loop-i-preserved
loop-i-preserved c = step _ _ _ c.loop-i.invariant (omega arith) (omega arith) (omega (arith, c.type_inv.bytes (c.loop-i.i - 1)))
