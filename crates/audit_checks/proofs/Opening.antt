-- The refusals of an opening, in the order of the tests.
use Rattle.std.specs.Prelude.{Result, Ok, Err}
use Rattle.promises.specs.declared.refusal.Refusal.{Refusal}
use Rattle.promises.specs.declared.refusal.Refusal.TheVariants as refusals
use mathlib.Core.Path.{◌≡◌, refl, sym, ap, ◌∙◌}
use mathlib.Core.Bool.{Bool, true, false, not, ◌&&◌, ◌||◌}
use mathlib.Core.List.{List}
use Prim.Native.Nat.{ℕ, ◌-◌, ◌≤◌, ◌<◌}
use lib.ListN.{length, take}
use lib.Dec.{eqb}
use borrow.Author.Tests.{lt-leb, le-leb, eq-eqb, ne_eqb}
use Rattle.lists.proofs.Cases.{by_test}
use Rattle.promises.specs.Refusal.{refusal_number, unless, ◌or_else◌, outcome}
use Rattle.promises.proofs.Refusing.{stands, grouped, outcome_refused, numbered}
use Rattle.bases.specs.Eligibility.{last_quality}
use Rattle.catalogue.specs.Catalogue.{Catalogue, mapped, in_bounds, catalogue_refusal, targets}
use Rattle.catalogue.specs.Ranking.{ranking_outcome}
use Rattle.catalogue.proofs.Mapped.{target_count}
use Rattle.catalogue.proofs.Refusals.{refused_ranked}
use Rattle.index_seeds.specs.Key.{SeedLength}
use Rattle.index_model.specs.Index.{ranked_sequences, mapped_sequences, plan_refusal}
use Rattle.index_plan.specs.Answers.{PlanRanked}
use Rattle.index_plan.proofs.Planning.{no_refusal, ranked_mapped, number}
use Rattle.map_answers.specs.Bounds.{limit_right}
use Rattle.audit_ledger.specs.Booking.{Counters, counters_for}
use Rattle.audit_model.specs.declared.settings.Settings.{Settings}
use Rattle.audit_model.specs.Settings.{floor_right}
use Rattle.audit_model.specs.Opening.{index_right, opening_refusal}
use Rattle.audit_model.specs.Calls.{index_if}
use Rattle.audit_checks.specs.Opens.{settings_refusal, index_fits, OpeningRanked}

-- ---- settings

module _ (offset : ℕ) (s : Settings) where
  pub floor_out : {n : ℕ} → n ≡ 11 → last_quality - offset < s.floor → n ≡ settings_refusal offset s
  floor_out told h = rw (lt-leb s.floor (last_quality - offset) h) told

  module _ (floored : s.floor ≤ last_quality - offset) where
    pub limit_out : {n : ℕ} → n ≡ 9 → limit_right s.limit ≡ false → n ≡ settings_refusal offset s
    limit_out told e = rw (le-leb s.floor (last_quality - offset) floored, e) told

    pub settings_right : {n : ℕ} → n ≡ 0 → limit_right s.limit ≡ true → n ≡ settings_refusal offset s
    settings_right told e = rw (le-leb s.floor (last_quality - offset) floored, e) told

-- ---- counters

module _ (n : ℕ) (k : Counters) where
  pub placements_other : (length k.placements ≡ n → ⊥) → false ≡ counters_for n k
  placements_other ne = rw (ne_eqb (length k.placements) n ne)

  module _ (placed : length k.placements ≡ n) where
    pub singles_other : (length k.singles ≡ n → ⊥) → false ≡ counters_for n k
    singles_other ne = rw (eq-eqb (length k.placements) n placed, ne_eqb (length k.singles) n ne)

    pub by_multi : length k.singles ≡ n → eqb (length k.multi) n ≡ counters_for n k
    by_multi e = rw (eq-eqb (length k.placements) n placed, eq-eqb (length k.singles) n e)

-- where 2 follows, the test before it does not tell
two_follows : (a b : Bool) → (unless a 2 or_else 2) ≡ (unless b 2 or_else 2)
two_follows true true = refl
two_follows true false = refl
two_follows false true = refl
two_follows false false = refl

-- counters for each target, or for each mark: the refusal is the same, since a catalogue in which these differ is refused by 2
pub by_marks : (c : Catalogue) (k : Counters) (n : ℕ) → (unless (counters_for (length (targets c)) k) 2 or_else catalogue_refusal c or_else n) ≡ (unless (counters_for (length c.marks) k) 2 or_else catalogue_refusal c or_else n)
unfolding catalogue_refusal
by_marks c k n =
    by_test (in_bounds c)
    (λ e. ap (λ m. unless (counters_for m k) 2 or_else catalogue_refusal c or_else n) (target_count c e))
    (λ e. rw e (two_follows (counters_for (length (targets c)) k) (counters_for (length c.marks) k)))

-- ---- the chain

-- with seeds of a right length a plan is refused as its catalogue is
seeded : (q : ℕ) (c : Catalogue) → SeedLength q → plan_refusal q c ≡ catalogue_refusal c
unfolding plan_refusal
seeded q c h = rw (le-leb 1 q h.some, le-leb q 31 h.most)

module _ (q offset : ℕ) (c : Catalogue) (indexed : Bool) (ks rs os : List ℕ) (s : Settings) (k : Counters) where
  -- the index is tested with remap on, where there is one
  tested_right : index_fits (indexed && s.remap) q (mapped_sequences c) ks rs os ≡ (not s.remap || index_right q c (index_if indexed ks rs os))
  tested_right = go indexed s.remap
    where
      go : (i r : Bool) → index_fits (i && r) q (mapped_sequences c) ks rs os ≡ (not r || index_right q c (index_if i ks rs os))
      go true true = refl
      go true false = refl
      go false true = refl
      go false false = refl

  -- the refusal of an opening, in the order of the tests
  in_order : opening_refusal q offset c (index_if indexed ks rs os) s k ≡ (settings_refusal offset s or_else unless (counters_for (length c.marks) k) 2 or_else catalogue_refusal c or_else unless (index_fits (indexed && s.remap) q (mapped_sequences c) ks rs os) 6)
  unfolding opening_refusal
  in_order =
      grouped (unless (floor_right offset s.floor) 11) (unless (limit_right s.limit) 9) _
      ∙ ap (λ n. settings_refusal offset s or_else n) (by_marks c k (unless (not s.remap || index_right q c (index_if indexed ks rs os)) 6))
      ∙ ap (λ t. settings_refusal offset s or_else unless (counters_for (length c.marks) k) 2 or_else catalogue_refusal c or_else unless t 6) (sym tested_right)

  -- a refusal
  refused_by : (e : Refusal) → opening_refusal q offset c (index_if indexed ks rs os) s k ≡ refusal_number e → (buffer : List ℕ) → OpeningRanked q offset c (index_if indexed ks rs os) s k (Err e) buffer
  refused_by e told buffer = record { answer = rw told (outcome_refused (refusal_number e) (length (mapped c)) (numbered e)); ranks = λ j f. absurd (refused_ranked f) }

  pub settings_refused : (e : Refusal) → refusal_number e ≡ settings_refusal offset s → (buffer : List ℕ) → OpeningRanked q offset c (index_if indexed ks rs os) s k (Err e) buffer
  settings_refused e told buffer = refused_by e (in_order ∙ stands (refusal_number e) (settings_refusal offset s) _ (numbered e) (sym told)) buffer

  -- the settings are right
  module _ (set : 0 ≡ settings_refusal offset s) (b : Bool) (fit : b ≡ counters_for (length c.marks) k) where
    pub counters_refused : b ≡ false → (buffer : List ℕ) → OpeningRanked q offset c (index_if indexed ks rs os) s k (Err refusals.Catalogue) buffer
    counters_refused e buffer = refused_by refusals.Catalogue (in_order ∙ rw (← set, sym fit ∙ e)) buffer

    -- and the counters, and the catalogue is ranked
    module _ (fitting : b ≡ true) (seed : SeedLength q) (r : Result ℕ Refusal) (buffer : List ℕ) (p : PlanRanked q c r buffer) where
      behind : opening_refusal q offset c (index_if indexed ks rs os) s k ≡ (plan_refusal q c or_else unless (index_fits (indexed && s.remap) q (mapped_sequences c) ks rs os) 6)
      behind = in_order ∙ rw (← set, sym fit ∙ fitting, seeded q c seed)

      pub catalogue_refused : (e : Refusal) → r ≡ Err e → OpeningRanked q offset c (index_if indexed ks rs os) s k (Err e) buffer
      catalogue_refused e told = refused_by e (behind ∙ stands (refusal_number e) (plan_refusal q c) _ (numbered e) (number q c r buffer p e told)) buffer

      module _ (j : ℕ) (told : r ≡ Ok j) (t : Bool) (tested : t ≡ (indexed && s.remap)) (d : Bool) (found : d ≡ index_fits t q (ranked_sequences c.bases c.base_ends (take j buffer)) ks rs os) where
        at-index : opening_refusal q offset c (index_if indexed ks rs os) s k ≡ unless d 6
        at-index =
            behind
            ∙ rw (no_refusal q c r buffer p j told) (ap (λ x. unless x 6) (sym (found ∙ ap (λ ss. index_fits t q ss ks rs os) (ranked_mapped q c r buffer p j told) ∙ ap (λ x. index_fits x q (mapped_sequences c) ks rs os) tested)))

        pub index_refused : d ≡ false → OpeningRanked q offset c (index_if indexed ks rs os) s k (Err refusals.StaleIndex) buffer
        index_refused e = refused_by refusals.StaleIndex (at-index ∙ ap (λ x. unless x 6) e) buffer

        pub all_right : d ≡ true → OpeningRanked q offset c (index_if indexed ks rs os) s k (Ok j) buffer
        all_right e =
            record {
              answer = ap ranking_outcome (sym told) ∙ p.answer ∙ ap (λ n. outcome n (length (mapped c))) (no_refusal q c r buffer p j told ∙ sym (at-index ∙ ap (λ x. unless x 6) e));
              ranks = λ i g. p.ranks i (told ∙ g);
            }
