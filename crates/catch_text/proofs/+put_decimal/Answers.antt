-- The digits of the tenth stand before the last.
use Rattle.std.proofs.Common.{arith}
use Rattle.catch_text.proofs.Adding.{adds_both, adds_byte}
use Rattle.catch_text.proofs.Decimal.{decimal_digit, decimal_tenth, length_decimal_digit, length_decimal_tenth}
use Rattle.catch_text.proofs.+put_decimal.Goals as goal

pub bounds-out-at : goal.bounds-out-at
bounds-out-at t c = omega (arith, length_decimal_digit c.args.number (omega arith))

pub returns-then-number-lt10 : goal.returns-then-number-lt10
returns-then-number-lt10 t c = rw (decimal_digit c.args.number (omega arith)) (adds_byte _ _ _ (bounds-out-at t c))

pub put_decimal-end-requires : goal.put_decimal-end-requires
put_decimal-end-requires t c = (omega arith, omega (arith, length_decimal_tenth c.args.number (omega arith)))

pub bounds-out-end : goal.bounds-out-end
bounds-out-end t c = omega (arith, length_decimal_tenth c.args.number (omega arith))

pub returns : goal.returns
returns t c = rw (decimal_tenth c.args.number (omega arith)) (adds_both c.put_decimal-end.ensures (adds_byte _ _ _ (bounds-out-end t c)))
