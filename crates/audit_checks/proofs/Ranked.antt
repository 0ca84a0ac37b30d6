-- What an opening that ranked its targets has shown.
use Rattle.std.specs.Prelude.{Result, Ok}
use Rattle.promises.specs.declared.refusal.Refusal.{Refusal}
use mathlib.Core.Path.{◌≡◌, refl, sym, ap, ap₂, ◌∙◌}
use mathlib.Core.List.{List}
use Prim.Native.Nat.{ℕ}
use lib.ListN.{length}
use borrow.Author.Tests.{le-leb}
use Rattle.promises.specs.Refusal.{outcome}
use Rattle.promises.proofs.Refusing.{outcome_accepted}
use Rattle.catalogue.specs.Catalogue.{Catalogue, mapped}
use Rattle.catalogue.specs.Ranking.{ranking_outcome}
use Rattle.index_seeds.specs.Key.{SeedLength, max_seed}
use Rattle.index_model.specs.Index.{plan_refusal}
use Rattle.index_plan.specs.Answers.{PlanRanked}
use Rattle.audit_ledger.specs.Booking.{Counters}
use Rattle.audit_model.specs.declared.settings.Settings.{Settings}
use Rattle.audit_model.specs.Opening.{IndexLent, opening_refusal}
use Rattle.audit_model.proofs.Opening.{opening_passed}
use Rattle.audit_checks.specs.Opens.{OpeningRanked}

module _ (q offset : ℕ) (c : Catalogue) (lent : IndexLent) (s : Settings) (k : Counters) (r : Result ℕ Refusal) (buffer : List ℕ) (p : OpeningRanked q offset c lent s k r buffer) (n : ℕ) (told : r ≡ Ok n) where
  -- it does not refuse
  pub unrefused : opening_refusal q offset c lent s k ≡ 0
  unrefused = (outcome_accepted (opening_refusal q offset c lent s k) (length (mapped c)) n (sym p.answer ∙ ap ranking_outcome told)).0

  -- its targets are ranked as a plan ranks them
  pub planned : SeedLength q → PlanRanked q c r buffer
  unfolding plan_refusal
  planned seed = record { answer = p.answer ∙ ap₂ outcome (unrefused ∙ sym no_plan_refusal) refl; ranks = p.ranks }
    where
      no_plan_refusal : plan_refusal q c ≡ 0
      no_plan_refusal = rw (le-leb 1 q seed.some, le-leb q max_seed seed.most) (opening_passed q offset c lent s k unrefused).unrefused
