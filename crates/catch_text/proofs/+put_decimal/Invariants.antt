-- The measure of `put_decimal` is the number: the tenth is less than it.
use Rattle.catch_text.proofs.+put_decimal.Given as goal

abbrev pub decreases-put_decimal : goal.decreases-put_decimal
decreases-put_decimal l = l.number
