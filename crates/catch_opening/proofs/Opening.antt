-- The opening of a job: as by the index, which is that of its targets.
use Rattle.std.specs.Prelude.{Result, Ok, Err}
use Rattle.promises.specs.declared.refusal.Refusal.{Refusal}
use mathlib.Core.Path.{◌≡◌, refl, sym, ap, ◌∙◌}
use mathlib.Core.Bool.{true}
use mathlib.Core.List.{List, [], ◌∷◌}
use Prim.Native.Nat.{ℕ, ◌≤◌}
use native.Mathlib.Omega.{arith}
use lib.ListN.{length, take, length-map}
use borrow.Author.Tests.{eq-eqb}
use Rattle.lists.specs.Same.{same}
use Rattle.promises.specs.Refusal.{refusal_number}
use Rattle.promises.proofs.Refusing.{outcome_number}
use Rattle.catalogue.specs.Catalogue.{Catalogue, mapped, max_targets}
use Rattle.catalogue.specs.Ranking.{ranking_outcome}
use Rattle.index_seeds.specs.Key.{SeedLength}
use Rattle.buffers.specs.Placed.{placed}
use Rattle.index_seeds.specs.Seeds.{keys_of, ranks_of, positions_of, Stored, Room}
use Rattle.buffers.proofs.Placed.{placed_there}
use Rattle.index_model.specs.Index.{ranked_sequences, all_seeds, index_of, index, Lent}
use Rattle.index_model.proofs.Indexing.{length-index}
use Rattle.index_plan.specs.Answers.{PlanRanked}
use Rattle.index_plan.proofs.Planning.{within_buffer, prefix_length, ranked_mapped, lent}
use Rattle.audit_ledger.specs.Booking.{Counters}
use Rattle.audit_model.specs.declared.settings.Settings.{Settings}
use Rattle.audit_model.specs.Settings.{audit_seed, audit_offset}
use Rattle.audit_model.specs.Opening.{none, opening_refusal}
use Rattle.audit_checks.specs.Opens.{OpeningRanked}
use Rattle.audit_checks.proofs.Ranked.{unrefused, planned}
use Rattle.catch_model.specs.Job.{lent_of}
use Rattle.catch_model.proofs.Sizes.{index_few}
use Rattle.catch_opening.specs.Opened.{JobRoom, JobOpens}

-- ---- the index of the targets is right

same_self : (xs : List ℕ) → same xs xs ≡ true
same_self [] = refl
same_self (x ∷ xs) = rw (eq-eqb x x refl) (same_self xs)

-- so the opening by it refuses as the plain one does
plain_opening : (c : Catalogue) (s : Settings) (k : Counters) → opening_refusal audit_seed audit_offset c (lent_of c) s k ≡ opening_refusal audit_seed audit_offset c none s k
unfolding opening_refusal
plain_opening c s k = rw (same_self (keys_of (index audit_seed c)), same_self (ranks_of (index audit_seed c)), same_self (positions_of (index audit_seed c)))

-- the front of a column that begins with a list
front : (n : ℕ) (l b b' : List ℕ) → length l ≡ n → b' ≡ placed 0 l b → take n b' ≡ l
front n l b b' e f = rw f (ap (λ m. take m (placed 0 l b)) (sym e) ∙ placed_there 0 l b (omega arith))

audit_seed_lem : SeedLength audit_seed
audit_seed_lem = record { some = omega arith; most = omega arith }

module _ (c : Catalogue) (s : Settings) (k : Counters) (r : Result ℕ Refusal) (ranked : List ℕ) (p : OpeningRanked audit_seed audit_offset c none s k r ranked) where
  pub job_refused : (e : Refusal) → r ≡ Err e → (ks rs os : List ℕ) → JobOpens c s k (Err e) ranked ks rs os
  job_refused e told ks rs os =
      let w = outcome_number (opening_refusal audit_seed audit_offset c none s k) (refusal_number e) (length (mapped c)) (sym p.answer ∙ ap ranking_outcome told) in
      (plain_opening c s k ∙ w.0, w.1)

  module _ (n : ℕ) (told : r ≡ Ok n) where
    plan : PlanRanked audit_seed c r ranked
    plan = planned audit_seed audit_offset c none s k r ranked p n told audit_seed_lem

    pub job_within : n ≤ length ranked
    job_within = within_buffer audit_seed c r ranked plan n told

    pub job_prefix : n ≡ length (take n ranked)
    job_prefix = prefix_length audit_seed c r ranked plan n told

    pub job_lent : length ranked ≡ max_targets → Lent c.bases c.base_ends (take n ranked) × SeedLength audit_seed
    job_lent e = (lent audit_seed c r ranked plan n told (omega arith), audit_seed_lem)

    abbrev ss : List (List ℕ)
    ss = ranked_sequences c.bases c.base_ends (take n ranked)

    same_index : index_of audit_seed ss ≡ index audit_seed c
    same_index = ap (index_of audit_seed) (ranked_mapped audit_seed c r ranked plan n told)

    -- as many postings as are counted, and no more than bases
    count_is : (m : ℕ) → m ≡ length (all_seeds audit_seed 0 ss) → length (index audit_seed c) ≡ m
    count_is m e = sym (ap length same_index) ∙ length-index audit_seed ss ∙ sym e

    pub job_room : length ranked ≡ max_targets → (ks rs os : List ℕ) → JobRoom ranked ks rs os c.bases → Room 0 (length (all_seeds audit_seed 0 ss)) ks rs os
    job_room few ks rs os room =
        let l = (job_lent few).0 in
        let e = count_is (length (all_seeds audit_seed 0 ss)) refl in
        let m = index_few c l.right audit_seed (omega arith) in
        record { keys = omega (arith, e, m, room.keys); ranks = omega (arith, e, m, room.ranks); positions = omega (arith, e, m, room.positions) }

    pub job_opened : (m : ℕ) → m ≡ length (all_seeds audit_seed 0 ss) → (ks rs os ks' rs' os' : List ℕ) → Stored 0 (index_of audit_seed ss) ks rs os ks' rs' os'
        → JobOpens c s k (Ok (record { ranked = n; postings = m })) ranked ks' rs' os'
    job_opened m e ks rs os ks' rs' os' stored = (
      plain_opening c s k ∙ unrefused audit_seed audit_offset c none s k r ranked p n told,
      record {
        several = job_prefix ∙ ap length (p.ranks n told);
        many = sym (count_is m e);
        places = p.ranks n told;
        keys = front m (keys_of (index audit_seed c)) ks ks' (length-map (index audit_seed c) _ ∙ count_is m e) (stored.keys ∙ ap (λ i. placed 0 (keys_of i) ks) same_index);
        ranks = front m (ranks_of (index audit_seed c)) rs rs' (length-map (index audit_seed c) _ ∙ count_is m e) (stored.ranks ∙ ap (λ i. placed 0 (ranks_of i) rs) same_index);
        positions = front m (positions_of (index audit_seed c)) os os' (length-map (index audit_seed c) _ ∙ count_is m e) (stored.positions ∙ ap (λ i. placed 0 (positions_of i) os) same_index);
      },
    )
