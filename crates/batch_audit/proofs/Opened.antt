-- The call, from the opening's checks on.
use Rattle.std.specs.Prelude.{Result, Ok, Err}
use Rattle.promises.specs.declared.refusal.Refusal.{Refusal}
use mathlib.Core.Path.{◌≡◌, refl, sym, ap, ◌∙◌}
use mathlib.Core.Bool.{Bool, true, false}
use mathlib.Core.List.{List, ◌++◌}
use Prim.Native.Nat.{ℕ, zero, suc, ◌*◌, ◌≤◌}
use native.Mathlib.Omega.{arith}
use lib.ListN.{length, take, drop}
use Rattle.promises.specs.Refusal.{refusal_number, unless, ◌or_else◌, outcome, if_passed}
use Rattle.promises.proofs.Refusing.{stands, outcome_refused, outcome_number}
use Rattle.catalogue.specs.Catalogue.{Catalogue, mapped, supplied_places}
use Rattle.catalogue.specs.Ranking.{ranking_outcome}
use Rattle.index_seeds.specs.Key.{SeedLength}
use Rattle.index_model.specs.Index.{ranked_sequences, mapped_sequences}
use Rattle.index_plan.specs.Answers.{PlanRanked}
use Rattle.index_plan.proofs.Planning.{within_buffer, prefix_length, ranked_mapped}
use Rattle.audit_ledger.specs.Booking.{Counters}
use Rattle.audit_model.specs.Settings.{Held}
use Rattle.audit_model.specs.Opening.{IndexLent, way_of, opening_refusal}
use Rattle.audit_model.specs.Run.{Answer, after}
use Rattle.audit_model.specs.Calls.{index_if}
use Rattle.audit_model.proofs.Booked.{refused_holds}
use Rattle.audit_checks.specs.Opens.{OpeningRanked}
use Rattle.audit_checks.proofs.Ranked.{unrefused, planned}
use Rattle.audit_observe_read.specs.Observed.{way_if}
use Rattle.audit_fragment.proofs.Opened.{way_lent}
use Rattle.batch_lists.specs.declared.FragmentsAudit.{FragmentsAudit}
use Rattle.batch_lists.specs.Lists.{FragmentLists, fragments_in, lists_fit}
use Rattle.batch_lists.specs.Listed.{all_rows, all_shares, list_refusal, list_width, list_calls, list_answers, AuditsList}
use Rattle.batch_audit.specs.Tested.{fit_refusal, TestedList}
use Rattle.batch_audit.proofs.Runs.{after_same, answers_same}

-- a refusal writes nothing
refused_written : (n : ℕ) → (n ≡ 0 → ⊥) → (written b : List ℕ) → if_passed n written b ≡ b
refused_written zero h written b = absurd (h refl)
refused_written (suc n) h written b = refl

module _ (q offset : ℕ) (c : Catalogue) (lent : IndexLent) (h : Held) (l : FragmentLists) (rows entries : List ℕ) where
  abbrev opening : ℕ
  opening = opening_refusal q offset c lent h.state.settings h.counters

  abbrev done : Held
  done = after q offset c h (list_calls q offset c lent h l entries)

  abbrev given : List Answer
  given = list_answers q offset c lent h l entries

  chain : list_refusal q offset c lent h l rows ≡ (opening or_else unless (lists_fit l (length rows)) 25)
  unfolding list_refusal
  chain = refl

  -- refused: nothing is written
  refused_list : (refusal : Refusal) → (refusal_number refusal ≡ 0 → ⊥) → list_refusal q offset c lent h l rows ≡ refusal_number refusal → AuditsList q offset c lent h l (record { answer = Err refusal; state = h.state }) h.counters rows entries rows entries
  refused_list refusal ne e =
      let n : ℕ = refusal_number refusal in
      record {
        answer = outcome_refused n tt ne ∙ ap (λ z. outcome z tt) (sym e);
        held = sym (ap (λ z. if_passed z done h) e ∙ refused_holds n ne done h);
        told = sym (ap (λ z. if_passed z (all_rows (list_calls q offset c lent h l entries) given) rows) e ∙ refused_written n ne _ rows);
        left = sym (ap (λ z. if_passed z (all_shares given ++ drop (list_width q offset c lent h l entries * length l.ordinals) entries) entries) e ∙ refused_written n ne _ entries);
      }

  pub list_refused : (refusal : Refusal) → opening ≡ refusal_number refusal → (refusal_number refusal ≡ 0 → ⊥) → AuditsList q offset c lent h l (record { answer = Err refusal; state = h.state }) h.counters rows entries rows entries
  list_refused refusal e ne = refused_list refusal ne (chain ∙ stands (refusal_number refusal) opening (unless (lists_fit l (length rows)) 25) ne e)

  -- they pass: the rest is as in a catalogue that was tested
  module _ (p : opening ≡ 0) where
    abbrev ss : List (List ℕ)
    ss = mapped_sequences c

    own : list_refusal q offset c lent h l rows ≡ fit_refusal offset ss (way_of q lent) (supplied_places c) lent h l rows
    own = chain ∙ ap (λ n. n or_else unless (lists_fit l (length rows)) 25) p

    pub list_done : (r : FragmentsAudit) (k : Counters) (rows' entries' : List ℕ) → TestedList offset ss (way_of q lent) (supplied_places c) lent h l r k rows entries rows' entries'
        → AuditsList q offset c lent h l r k rows entries rows' entries'
    list_done r k rows' entries' t = go (lists_fit l (length rows)) refl
      where
        go : (b : Bool) → lists_fit l (length rows) ≡ b → AuditsList q offset c lent h l r k rows entries rows' entries'
        go true fit =
            let z : fit_refusal offset ss (way_of q lent) (supplied_places c) lent h l rows ≡ 0 = ap (λ b. unless b 25) fit in
            let a = t.audited z in
            let e : list_refusal q offset c lent h l rows ≡ 0 = own ∙ z in
            let same = answers_same q offset c lent (list_width q offset c lent h l entries) h p entries (fragments_in l) in
            record {
              answer = t.answer ∙ ap (λ n. outcome n tt) (sym own);
              held = a.held ∙ sym (after_same q offset c lent (list_width q offset c lent h l entries) h p entries (fragments_in l)) ∙ ap (λ n. if_passed n done h) (sym e);
              told = a.told ∙ ap (all_rows (list_calls q offset c lent h l entries)) (sym same) ∙ ap (λ n. if_passed n (all_rows (list_calls q offset c lent h l entries) given) rows) (sym e);
              left =
                  a.left ∙ ap (λ x. all_shares x ++ drop (list_width q offset c lent h l entries * length l.ordinals) entries) (sym same)
                  ∙ ap (λ n. if_passed n (all_shares given ++ drop (list_width q offset c lent h l entries * length l.ordinals) entries) entries) (sym e);
            }
        go false fit =
            let z : fit_refusal offset ss (way_of q lent) (supplied_places c) lent h l rows ≡ 25 = ap (λ b. unless b 25) fit in
            let e : list_refusal q offset c lent h l rows ≡ 25 = own ∙ z in
            let u = t.untouched (λ y. omega (arith, y, z)) in
            record {
              answer = t.answer ∙ ap (λ n. outcome n tt) (sym own);
              held = u.0 ∙ sym (ap (λ n. if_passed n done h) e);
              told = u.1 ∙ sym (ap (λ n. if_passed n (all_rows (list_calls q offset c lent h l entries) given) rows) e);
              left = u.2 ∙ sym (ap (λ n. if_passed n (all_shares given ++ drop (list_width q offset c lent h l entries * length l.ordinals) entries) entries) e);
            }

-- ---- as the function has it

module _ (q offset : ℕ) (c : Catalogue) (indexed : Bool) (ks rs os : List ℕ) (h : Held) (l : FragmentLists) (rows entries : List ℕ) (r : Result ℕ Refusal) (buffer : List ℕ)
    (p : OpeningRanked q offset c (index_if indexed ks rs os) h.state.settings h.counters r buffer) where
  pub opening_stands : (refusal : Refusal) → r ≡ Err refusal → AuditsList q offset c (index_if indexed ks rs os) h l (record { answer = Err refusal; state = h.state }) h.counters rows entries rows entries
  opening_stands refusal told =
      let w = outcome_number (opening_refusal q offset c (index_if indexed ks rs os) h.state.settings h.counters) (refusal_number refusal) (length (mapped c)) (sym p.answer ∙ ap ranking_outcome told) in
      list_refused q offset c (index_if indexed ks rs os) h l rows entries refusal w.0 w.1

  module _ (seed : SeedLength q) (n : ℕ) (told : r ≡ Ok n) where
    plan : PlanRanked q c r buffer
    plan = planned q offset c (index_if indexed ks rs os) h.state.settings h.counters r buffer p n told seed

    pub within : n ≤ length buffer
    within = within_buffer q c r buffer plan n told

    pub prefix : n ≡ length (take n buffer)
    prefix = prefix_length q c r buffer plan n told

    pub opening_passes : (a : FragmentsAudit) (k : Counters) (rows' entries' : List ℕ)
        → TestedList offset (ranked_sequences c.bases c.base_ends (take n buffer)) (way_if indexed q) (take n buffer) (index_if indexed ks rs os) h l a k rows entries rows' entries'
        → AuditsList q offset c (index_if indexed ks rs os) h l a k rows entries rows' entries'
    opening_passes a k rows' entries' t =
        list_done q offset c (index_if indexed ks rs os) h l rows entries (unrefused q offset c (index_if indexed ks rs os) h.state.settings h.counters r buffer p n told) a k rows' entries'
        (rw (← ranked_mapped q c r buffer plan n told, ← p.ranks n told, ← way_lent indexed q ks rs os) t)
