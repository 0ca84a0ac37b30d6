-- A run whose calls keep their promises is that of the definitions.
use mathlib.Core.Path.{◌≡◌, refl, ap, ap₂, ◌∙◌}
use mathlib.Core.List.{List, [], ◌∷◌, map}
use Prim.Native.Nat.{ℕ}
use Rattle.catalogue.specs.Catalogue.{Catalogue}
use Rattle.audit_model.specs.Settings.{Held}
use Rattle.audit_model.specs.Run.{Answer, answer_to, answers, after}
use Rattle.audit_model.specs.Calls.{Audits}
use Rattle.audit_model.proofs.Finishing.{finish_outcome_lem}
use Rattle.audit_theorems.specs.Made.{MadeCall, made_call, made_answer, made_held, AllKept, held_behind, MadeRun, start_of, end_of, RunMade, RunIsPaper}

module _ (q offset : ℕ) (c : Catalogue) where
  answer_kept : (h : Held) (x : MadeCall) → Audits q offset c x.lent h x.fragment x.entries x.result x.counters x.left → made_answer x ≡ answer_to q offset c h (made_call x)
  answer_kept h x p = ap₂ {C = Answer} (λ r b. record { rows = r; entries = b }) p.answer p.left

  answers_kept : (h : Held) (xs : List MadeCall) → AllKept q offset c h xs → map made_answer xs ≡ answers q offset c h (map made_call xs)
  answers_kept h [] p = refl
  answers_kept h (x ∷ xs) p =
      ap₂ {C = List Answer} (λ x rest. x ∷ rest) (answer_kept h x p.0) (answers_kept (made_held x) xs p.1 ∙ ap (λ z. answers q offset c z (map made_call xs)) p.0.held)

  held_kept : (h : Held) (xs : List MadeCall) → AllKept q offset c h xs → held_behind h xs ≡ after q offset c h (map made_call xs)
  held_kept h [] p = refl
  held_kept h (x ∷ xs) p = held_kept (made_held x) xs p.1 ∙ ap (λ z. after q offset c z (map made_call xs)) p.0.held

  pub made_is_paper : (r : MadeRun) → RunMade q offset c r → RunIsPaper q offset c r
  made_is_paper r m =
      record {
        opened = m.opens.answer;
        start = m.opens.held;
        answered = answers_kept (start_of r) r.calls m.calls;
        held = held_kept (start_of r) r.calls m.calls;
        finished = finish_outcome_lem q offset c r.lent_at_end (end_of r) r.finish m.finishes;
        sheet = m.finishes.sheet;
      }
