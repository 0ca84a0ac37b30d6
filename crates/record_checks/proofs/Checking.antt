-- The refusals in front of `map`'s own, and how many records are copied.
use Rattle.std.specs.Prelude.{Result, Ok, Err}
use Rattle.promises.specs.declared.refusal.Refusal.{Refusal}
use Rattle.promises.specs.declared.refusal.Refusal.TheVariants as refusals
use mathlib.Core.Path.{◌≡◌, refl, sym, ap, ◌∙◌}
use Prim.Native.Nat.{ℕ, zero, suc, ◌<◌, ◌≤◌}
use native.Mathlib.Omega.{arith}
use lib.Dec.{leb}
use borrow.Author.Tests.{lt-leb, le-leb, leb-true}
use Rattle.promises.specs.Refusal.{refusal_number, number_of, if_passed}
use Rattle.promises.proofs.Refusing.{stands, none_second, passed, number_is, outcome_number}
use Rattle.catalogue.specs.Catalogue.{Catalogue}
use Rattle.index_model.specs.Index.{plan_refusal}
use Rattle.index_plan.specs.declared.Counts.{Counts}
use Rattle.index_plan.specs.Answers.{plan_outcome, planned}
use Rattle.record_checks.specs.Room.{index_room, copy_refusal, CheckedAs}

-- where a check refuses, what stands is taken
pub stays_so : {A : Type 0} (n : ℕ) (a b : A) → (n ≡ 0 → ⊥) → if_passed n a b ≡ b
stays_so zero a b ne = absurd (ne refl)
stays_so (suc n) a b ne = refl

module _ (q : ℕ) (c : Catalogue) (records entries : ℕ) (p : Result Counts Refusal) (told : plan_outcome p ≡ planned q c) where
  pub refused_before : (e : Refusal) → p ≡ Err e → CheckedAs q c records entries (Err e)
  refused_before e was =
      let known = outcome_number (plan_refusal q c) (refusal_number e) _ (sym told ∙ ap plan_outcome was) in
      record { refusal_is = sym (stands (refusal_number e) (plan_refusal q c) (index_room records entries) known.1 known.0); rows_are = λ n f. absurd (cc) }

  module _ (counts : Counts) (was : p ≡ Ok counts) where
    planned_so : plan_refusal q c ≡ 0
    planned_so = sym (number_is (plan_refusal q c) _) ∙ ap number_of (sym told ∙ ap plan_outcome was)

    pub no_room : entries < records → CheckedAs q c records entries (Err refusals.IndexRoom)
    no_room l = record { refusal_is = rw (planned_so, lt-leb records entries l) refl; rows_are = λ n f. absurd (cc) }

    pub with_room : records ≤ entries → CheckedAs q c records entries (Ok records)
    with_room l = record { refusal_is = rw (planned_so, le-leb records entries l) refl; rows_are = λ n f. cc }

-- a call that no test refuses has room
pub room_there : (q : ℕ) (c : Catalogue) (records entries : ℕ) → copy_refusal q c records entries ≡ 0 → records ≤ entries
room_there q c records entries z =
    leb-true records entries (passed (leb records entries) 5 (λ f. omega arith) (none_second (plan_refusal q c) (index_room records entries) z))
