-- `index_seeds::fours::key_of_capitals` meets its contract: the numbers on the way fit, and the product has the key.
use native.Mathlib.Omega.{arith}
use Rattle.index_seeds.proofs.Capitals.{word_small, codes-small, joined}
use Rattle.index_seeds.proofs.fours.key_of_capitals.Goals as goal

pub overflow_mul-word : goal.overflow_mul-word
overflow_mul-word c = let a = c.args in record { fits = omega (arith, word_small a.a a.b a.c a.d c.requires) }

pub overflow_add-word : goal.overflow_add-word
overflow_add-word c = let a = c.args in record { fits = omega (arith, word_small a.a a.b a.c a.d c.requires) }

pub overflow_mul-word-2 : goal.overflow_mul-word-2
overflow_mul-word-2 c = let a = c.args in record { fits = omega (arith, word_small a.a a.b a.c a.d c.requires) }

pub overflow_add-word-2 : goal.overflow_add-word-2
overflow_add-word-2 c = let a = c.args in record { fits = omega (arith, word_small a.a a.b a.c a.d c.requires) }

pub overflow_mul-word-3 : goal.overflow_mul-word-3
overflow_mul-word-3 c = let a = c.args in record { fits = omega (arith, word_small a.a a.b a.c a.d c.requires) }

pub overflow_add-word-3 : goal.overflow_add-word-3
overflow_add-word-3 c = let a = c.args in record { fits = omega (arith, word_small a.a a.b a.c a.d c.requires) }

pub overflow_mul-codes : goal.overflow_mul-codes
overflow_mul-codes c = let a = c.args in record { fits = omega (arith, codes-small a.a a.b a.c a.d c.requires) }

pub overflow_mul-codes-2 : goal.overflow_mul-codes-2
overflow_mul-codes-2 c = let a = c.args in record { fits = omega (arith, codes-small a.a a.b a.c a.d c.requires) }

pub overflow_add-codes : goal.overflow_add-codes
overflow_add-codes c = let a = c.args in record { fits = omega (arith, codes-small a.a a.b a.c a.d c.requires) }

pub overflow_add-codes-2 : goal.overflow_add-codes-2
overflow_add-codes-2 c = let a = c.args in record { fits = omega (arith, codes-small a.a a.b a.c a.d c.requires) }

pub overflow_mul-result : goal.overflow_mul-result
overflow_mul-result c = let a = c.args in record { fits = omega (arith, codes-small a.a a.b a.c a.d c.requires) }

pub returns : goal.returns
returns c = let a = c.args in joined a.a a.b a.c a.d c.requires
