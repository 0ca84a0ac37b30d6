-- What is proved of runs of the definitions holds of runs whose calls keep their promises.
use mathlib.Core.Path.{◌≡◌, sym, ap, ap₂, subst, ◌∙◌}
use mathlib.Core.List.{List, map}
use Prim.Native.Nat.{ℕ, ◌≤◌}
use Rattle.promises.specs.Refusal.{Outcome, if_passed}
use Rattle.promises.proofs.Refusing.{outcome_accepted}
use Rattle.catalogue.specs.Catalogue.{Catalogue}
use Rattle.audit_model.specs.declared.settings.Settings.{Settings}
use Rattle.audit_model.specs.declared.sheet.Sheet.{Sheet}
use Rattle.audit_model.specs.Settings.{Held}
use Rattle.audit_model.specs.Opening.{opening_refusal, opening_held, started, unopened}
use Rattle.audit_model.specs.Sheet.{finish_answer}
use Rattle.audit_model.specs.Run.{Call, Answer, answers, after}
use Rattle.audit_model.proofs.Opening.{opening_passed}
use Rattle.audit_theorems.specs.Meaning.{RunMeans}
use Rattle.audit_theorems.specs.Twins.{TwinCall, indexed_call, plain_call, refusals, RefusedTogether, RunsAgree}
use Rattle.audit_theorems.specs.Made.{MadeRun, start_of, end_of, made_calls, answers_of, finish_of, RunMade}
use Rattle.audit_theorems.specs.Promised.{Opened, TwinRuns}
use Rattle.audit_theorems.proofs.Made.{made_is_paper}
use Rattle.audit_theorems.proofs.Sheets.{run-counts, sheet_means}
use Rattle.audit_theorems.proofs.Listing.{calls_mean}
use Rattle.audit_theorems.proofs.Agreeing.{runs_agree}

module _ (q offset : ℕ) (c : Catalogue) where
  -- ---- a run from an accepted opening

  pub run_means : (lent : _) (s : Settings) (k : _) → opening_refusal q offset c lent s k ≡ 0 → (xs : List Call) (lent' : _)
      → RunMeans q offset c s (opening_held q offset c lent s k) xs (answers q offset c (opening_held q offset c lent s k) xs) (after q offset c (opening_held q offset c lent s k) xs)
      (finish_answer q offset c lent' (after q offset c (opening_held q offset c lent s k) xs))
  run_means lent s k begun xs lent' =
      record {
        calls = calls_mean q offset c (opening_held q offset c lent s k) xs;
        counts = run-counts q offset c lent s k begun xs;
        sheet = sheet_means q offset c lent s k begun xs lent';
      }

  module _ (r : MadeRun) (made : RunMade q offset c r) (begins : Opened r) where
    begun : opening_refusal q offset c r.lent r.settings r.before ≡ 0
    begun = (outcome_accepted (opening_refusal q offset c r.lent r.settings r.before) tt tt (sym (made_is_paper q offset c r made).opened ∙ begins)).0

    start_is : start_of r ≡ started c r.settings
    start_is = (made_is_paper q offset c r made).start ∙ ap (λ n. if_passed n (started c r.settings) (unopened r.before)) begun

    pub made_means : RunMeans q offset c r.settings (start_of r) (made_calls r) (answers_of r) (end_of r) (finish_of r)
    made_means =
        let p = made_is_paper q offset c r made in
        let d : RunMeans q offset c r.settings (start_of r) (made_calls r) (answers q offset c (start_of r) (made_calls r)) (after q offset c (start_of r) (made_calls r)) (finish_answer q offset c r.lent_at_end (after q offset c (start_of r) (made_calls r))) =
        subst (λ (h : Held). RunMeans q offset c r.settings h (made_calls r) (answers q offset c h (made_calls r)) (after q offset c h (made_calls r)) (finish_answer q offset c r.lent_at_end (after q offset c h (made_calls r))))
        (sym p.start) (run_means r.lent r.settings r.before begun (made_calls r) r.lent_at_end) in
        let e : RunMeans q offset c r.settings (start_of r) (made_calls r) (answers q offset c (start_of r) (made_calls r)) (end_of r) (finish_answer q offset c r.lent_at_end (end_of r)) =
        subst (λ (h : Held). RunMeans q offset c r.settings (start_of r) (made_calls r) (answers q offset c (start_of r) (made_calls r)) h (finish_answer q offset c r.lent_at_end h)) (sym p.held) d in
        moved r.settings (start_of r) (made_calls r) (end_of r) p.answered p.finished e
      where
        moved : (s : Settings) (h : Held) (xs : List Call) (end : Held) {a a' : List Answer} {o o' : Outcome Sheet} → a ≡ a' → o ≡ o' → RunMeans q offset c s h xs a' end o' → RunMeans q offset c s h xs a end o
        moved s h xs end e f d = rw (e, f) d

  -- ---- two runs of one list of calls

  moved_twice : (s : Settings) (xs : List TwinCall) {a a' b b' : List Answer} {h h' g g' : Held} {o o' p p' : Outcome Sheet} → a ≡ a' → b ≡ b' → h ≡ h' → g ≡ g' → o ≡ o' → p ≡ p'
      → RunsAgree s c xs a' b' h' g' o' p' → RunsAgree s c xs a b h g o p
  moved_twice s xs e f i j k l d = rw (e, f, i, j, k, l) d

  pub made_agree : 1 ≤ q → (r r' : MadeRun) (xs : List TwinCall) → RunMade q offset c r → RunMade q offset c r' → Opened r → Opened r' → TwinRuns r r' xs → RefusedTogether (answers_of r) (answers_of r')
      → RunsAgree r.settings c xs (answers_of r) (answers_of r') (end_of r) (end_of r') (finish_of r) (finish_of r')
  made_agree some r r' xs m m' o o' t together =
      let p = made_is_paper q offset c r m in
      let p' = made_is_paper q offset c r' m' in
      let a : answers_of r ≡ answers q offset c (start_of r) (map indexed_call xs) = p.answered ∙ ap (answers q offset c (start_of r)) t.calls in
      let b : answers_of r' ≡ answers q offset c (start_of r') (map plain_call xs) = p'.answered ∙ ap (answers q offset c (start_of r')) t.plain_calls in
      let h : end_of r ≡ after q offset c (start_of r) (map indexed_call xs) = p.held ∙ ap (after q offset c (start_of r)) t.calls in
      let g : end_of r' ≡ after q offset c (start_of r') (map plain_call xs) = p'.held ∙ ap (after q offset c (start_of r')) t.plain_calls in
      moved_twice r.settings xs a b h g (p.finished ∙ ap (finish_answer q offset c r.lent_at_end) h) (p'.finished ∙ ap₂ (finish_answer q offset c) t.plain_end g)
      (runs_agree q offset some c (opening_passed q offset c r.lent r.settings r.before (begun r m o)).catalogue r.settings (start_of r) (start_of r') (start_is r m o)
      (start_is r' m' o' ∙ ap (started c) t.settings) xs r.lent_at_end (sym (ap refusals a) ∙ together ∙ ap refusals b))
