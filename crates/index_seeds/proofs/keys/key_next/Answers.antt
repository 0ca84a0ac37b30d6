-- `index_seeds::keys::key_next` meets its contract, by the step of a key.
use Rattle.std.proofs.Common.{◌≡◌, List, ℕ, ◌+◌, get_or, arith}
use Rattle.bases.specs.Base.{code_of}
use Rattle.bases.specs.Read.{oriented}
use Rattle.index_seeds.specs.Key.{SeedIn, KeyHeld}
use Rattle.index_seeds.proofs.Keying.{Step, step, seed_oriented}
use Rattle.index_seeds.proofs.keys.key_next.Goals as goal

-- the step from the key at the start to the next one
stepped : (strand : ℕ) (s : List ℕ) (start q high key first last : ℕ)
    → SeedIn s q (start + 1) → KeyHeld (oriented strand s) q start high key
    → first ≡ code_of (get_or (oriented strand s) start 0) → last ≡ code_of (get_or (oriented strand s) (start + q) 0)
    → Step (oriented strand s) start q high key first last
stepped strand s start q high key first last w k f l = step (oriented strand s) start q high key first last (seed_oriented strand s q (start + 1) w) k f l

pub overflow_mul-result : goal.overflow_mul-result
overflow_mul-result c = omega (arith, (stepped _ _ _ _ _ _ _ _ c.requires.seed_in c.requires.key_held c.oriented_code-first.ensures c.oriented_code-last.ensures).digit, c.ranges)

pub overflow_sub-result : goal.overflow_sub-result
overflow_sub-result c = (stepped _ _ _ _ _ _ _ _ c.requires.seed_in c.requires.key_held c.oriented_code-first.ensures c.oriented_code-last.ensures).digit

pub overflow_mul-result-2 : goal.overflow_mul-result-2
overflow_mul-result-2 c = omega (arith, (stepped _ _ _ _ _ _ _ _ c.requires.seed_in c.requires.key_held c.oriented_code-first.ensures c.oriented_code-last.ensures).room)

pub overflow_add-result : goal.overflow_add-result
overflow_add-result c =
    let s = stepped _ _ _ _ _ _ _ _ c.requires.seed_in c.requires.key_held c.oriented_code-first.ensures c.oriented_code-last.ensures in
    omega (arith, s.room, s.small)

pub returns : goal.returns
returns c = (stepped _ _ _ _ _ _ _ _ c.requires.seed_in c.requires.key_held c.oriented_code-first.ensures c.oriented_code-last.ensures).next
