-- Chains of refusals, and the outcomes that they give.
use mathlib.Core.Path.{◌≡◌, refl, sym}
use mathlib.Core.Bool.{Bool, true, false}
use Prim.Native.Nat.{ℕ, zero, suc}
use native.Mathlib.Omega.{arith}
use Rattle.promises.specs.declared.refusal.Refusal.{Refusal}
use Rattle.promises.specs.declared.refusal.Refusal.TheVariants as refusals
use Rattle.promises.specs.Refusal.{refusal_number, unless, ◌or_else◌, refused, accepted, number_of, outcome}

-- a refusal stands in front of all that follow it
pub first_stands : (n m : ℕ) → (n ≡ 0 → ⊥) → n ≡ (n or_else m)
first_stands zero m ne = absurd (ne refl)
first_stands (suc n) m ne = refl

-- a refusal that is told stands
pub stands : (n m rest : ℕ) → (n ≡ 0 → ⊥) → m ≡ n → (m or_else rest) ≡ n
stands n m rest ne e = rw e (sym (first_stands n rest ne))

-- a chain grouped from its first two
pub grouped : (a b n : ℕ) → (a or_else b or_else n) ≡ ((a or_else b) or_else n)
grouped zero b n = refl
grouped (suc a) b n = refl

-- in a chain without a refusal there is none, first or second
pub none_first : (n m : ℕ) → (n or_else m) ≡ 0 → n ≡ 0
none_first zero m e = refl
none_first (suc n) m e = e

pub none_second : (n m : ℕ) → (n or_else m) ≡ 0 → m ≡ 0
none_second zero m e = e
none_second (suc n) m e = absurd (omega arith)

-- a chain with nothing behind it
pub or_none : (n : ℕ) → (n or_else 0) ≡ n
or_none zero = refl
or_none (suc n) = refl

-- a test that does not refuse has passed
pub passed : (t : Bool) (n : ℕ) → (n ≡ 0 → ⊥) → unless t n ≡ 0 → t ≡ true
passed true n ne e = refl
passed false n ne e = absurd (ne e)

module _ {A : Type 0} where
  -- the number of an outcome is its refusal
  pub number_is : (n : ℕ) (a : A) → number_of (outcome n a) ≡ n
  number_is zero a = refl
  number_is (suc n) a = refl

  -- a refusal is told by its number
  pub outcome_refused : (n : ℕ) (a : A) → (n ≡ 0 → ⊥) → refused n ≡ outcome n a
  outcome_refused zero a ne = absurd (ne refl)
  outcome_refused (suc n) a ne = refl

  -- an outcome is accepted exactly where there is no refusal, and then with its answer
  pub outcome_accepted : (n : ℕ) (a b : A) → outcome n a ≡ accepted b → (n ≡ 0) × (a ≡ b)
  outcome_accepted zero a b e = (refl, (cc))
  outcome_accepted (suc n) a b e = absurd (let z : ◌≡◌ {A = ℕ} 0 1 = cc in omega arith)

  -- and refused only by a number that is not 0
  pub outcome_number : (n m : ℕ) (a : A) → outcome n a ≡ refused m → (n ≡ m) × (m ≡ 0 → ⊥)
  outcome_number zero m a e = absurd (let z : ◌≡◌ {A = ℕ} 0 1 = cc in omega arith)
  outcome_number (suc n) m a e = let f : suc n ≡ m = cc in (f, λ z. omega arith)

-- the number of a refusal is not 0, which stands for none
pub numbered : (e : Refusal) → refusal_number e ≡ 0 → ⊥
numbered refusals.SeedLength z = omega arith
numbered refusals.Catalogue z = omega arith
numbered refusals.TargetBases z = omega arith
numbered refusals.DoubleName z = omega arith
numbered refusals.IndexRoom z = omega arith
numbered refusals.StaleIndex z = omega arith
numbered refusals.ReadLength z = omega arith
numbered refusals.ReadBases z = omega arith
numbered refusals.CandidateLimit z = omega arith
numbered refusals.PlacementRoom z = omega arith
numbered refusals.QualityFloor z = omega arith
numbered refusals.FragmentOrder z = omega arith
numbered refusals.MateRoles z = omega arith
numbered refusals.EmptyRead z = omega arith
numbered refusals.QualityLength z = omega arith
numbered refusals.PhredByte z = omega arith
numbered refusals.FullCounter z = omega arith
numbered refusals.BooksApart z = omega arith
numbered refusals.ChangedTargets z = omega arith
numbered refusals.JobStream z = omega arith
numbered refusals.ReadList z = omega arith
numbered refusals.AnswerRoom z = omega arith
