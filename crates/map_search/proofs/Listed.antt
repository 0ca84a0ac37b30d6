-- The groups that an answer lists.
use mathlib.Core.Path.{◌≡◌}
use mathlib.Core.Bool.{Bool, true, false, cond}
use mathlib.Core.List.{List, []}
use Prim.Native.Nat.{ℕ}
use lib.ListN.{length}
use lib.Dec.{ltb}
use Rattle.lists.specs.Member.{◌∈◌}
use Rattle.lists.proofs.Cases.{by_test}
use Rattle.map_places.specs.Place.{Place}
use Rattle.map_answers.specs.Answer.{listed}

module _ (limit : ℕ) where
  pub none_listed : listed limit [] ≡ []
  none_listed = by_test (ltb limit 0) (λ t. rw t) (λ t. rw t)

  -- a listed group is a group of the read, which is searched where b holds
  pub listed_part : (p : Place) (b : Bool) (gs : List Place) → p ∈ listed limit (cond b gs []) → p ∈ gs
  listed_part p true gs = by_test (ltb limit (length gs)) (λ t. rw t (λ k. absurd k)) (λ t. rw t (λ k. k))
  listed_part p false gs = rw none_listed (λ k. absurd k)
