-- Refusals by number, where 0 stands for none, and the outcome of a call.
use Rattle.std.specs.Prelude.{Bool, true, false, ℕ, zero, suc, Result, Ok, Err}
use Rattle.promises.specs.declared.refusal.Refusal.{Refusal}
use Rattle.promises.specs.declared.refusal.Refusal.TheVariants as refusals

-- the number, unless the condition holds
abbrev pub unless : Bool → ℕ → ℕ
unless true n = 0
unless false n = n

infixr 25 ◌or_else◌
-- the first refusal stands
abbrev pub ◌or_else◌ : ℕ → ℕ → ℕ
zero or_else n = n
suc m or_else n = suc m

-- by a refusal: what follows where it is 0, and what stands where it is not
abbrev pub if_passed : {A : Type 0} → ℕ → A → A → A
if_passed zero follows stands = follows
if_passed (suc n) follows stands = stands

-- by a test of what is lent: the promise of the call, or that of one that leaves everything as it was
abbrev pub IfRight : Bool → Type 0 → Type 0 → Type 0
IfRight true call untouched = call
IfRight false call untouched = untouched

-- a call is refused by a number, or accepted with an answer
pub data Outcome (A : Type 0) : Type 0 where
  refused : ℕ → Outcome A
  accepted : A → Outcome A

abbrev pub is_refused : {A : Type 0} → Outcome A → Bool
is_refused (refused n) = true
is_refused (accepted a) = false

-- the number that stands for an outcome: its refusal, or 0
abbrev pub number_of : {A : Type 0} → Outcome A → ℕ
number_of (refused n) = n
number_of (accepted a) = 0

-- the outcome of a call with this refusal, which is 0 where it is accepted
abbrev pub outcome : {A : Type 0} → ℕ → A → Outcome A
outcome zero a = accepted a
outcome (suc n) a = refused (suc n)

-- ---- the answers of code

-- the number of a refusal
abbrev pub refusal_number : Refusal → ℕ
refusal_number refusals.SeedLength = 1
refusal_number refusals.Catalogue = 2
refusal_number refusals.TargetBases = 3
refusal_number refusals.DoubleName = 4
refusal_number refusals.IndexRoom = 5
refusal_number refusals.StaleIndex = 6
refusal_number refusals.ReadLength = 7
refusal_number refusals.ReadBases = 8
refusal_number refusals.CandidateLimit = 9
refusal_number refusals.PlacementRoom = 10
refusal_number refusals.QualityFloor = 11
refusal_number refusals.FragmentOrder = 12
refusal_number refusals.MateRoles = 13
refusal_number refusals.EmptyRead = 14
refusal_number refusals.QualityLength = 15
refusal_number refusals.PhredByte = 16
refusal_number refusals.FullCounter = 17
refusal_number refusals.BooksApart = 18
refusal_number refusals.ChangedTargets = 19
refusal_number refusals.JobStream = 20
refusal_number refusals.ReadList = 25
refusal_number refusals.AnswerRoom = 26

-- what an answer stands for: a refusal by its number, or what its value stands for
abbrev pub outcome_by : {E A B : Type 0} → (E → ℕ) → (A → B) → Result A E → Outcome B
outcome_by number told (Ok a) = accepted (told a)
outcome_by number told (Err e) = refused (number e)

-- the number of a test that answers nothing else: its refusal, or 0
abbrev pub test_number : {A : Type 0} → Result A Refusal → ℕ
test_number (Ok a) = 0
test_number (Err e) = refusal_number e
