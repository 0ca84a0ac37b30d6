-- From the ranking of a catalogue to its sequences by rank, and the answers of the calls on its index.
use Rattle.std.specs.Prelude.{Result, Ok, Err}
use Rattle.promises.specs.declared.refusal.Refusal.{Refusal}
use mathlib.Core.Path.{◌≡◌, refl, sym, ap, ap₂, ◌∙◌}
use Rattle.promises.specs.declared.refusal.Refusal.TheVariants as refusals
use mathlib.Core.Bool.{Bool, true, false}
use mathlib.Core.Logic.{inl, inr}
use mathlib.Core.List.{List, [], ◌∷◌, map}
use Prim.Native.Nat.{ℕ, ◌≤◌}
use native.Mathlib.Omega.{arith}
use lib.ListN.{length, get_or, take, length-map, length-take}
use lib.Dec.{ltb, leb}
use borrow.Author.Tests.{lt-ltb, leb-true}
use Rattle.lists.specs.Member.{◌∈◌}
use Rattle.lists.proofs.Cases.{by_test, and-true}
use Rattle.lists.specs.Filter.{every}
use Rattle.lists.proofs.Cut.{length_cut}
use Rattle.lists.proofs.Every.{every_at, ∈-every}
use Rattle.lists.proofs.Member.{map-∈}
use Rattle.promises.specs.Refusal.{refusal_number, unless, accepted}
use Rattle.promises.proofs.Refusing.{first_stands, outcome_accepted, outcome_number}
use Rattle.bases.specs.Base.{is_capital}
use Rattle.catalogue.specs.Catalogue.{Catalogue, Target, Valid, proper_sequence, sequences, mapped, max_targets}
use Rattle.catalogue.specs.Ranking.{ranking_outcome, RankedAs}
use Rattle.catalogue.proofs.Checks.{bounded}
use Rattle.catalogue.proofs.Mapped.{mapped-∈, at_its_place}
use Rattle.catalogue.proofs.Refusals.{refused_ranked, valid}
use Rattle.index_seeds.specs.Key.{SeedLength}
use Rattle.index_model.specs.Index.{all_seeds, index, index_of, mapped_sequences, ranked_sequences, seed_right, plan_refusal, index_refusal, columns_of, Lent}
use Rattle.index_plan.specs.Answers.{planned, PlanRanked}
use Rattle.index_plan.specs.declared.Counts.{Counts}
use Rattle.index_model.proofs.Indexing.{length-index}

-- how many targets are mapped, and how many postings there are
abbrev counts : ℕ → ℕ → Counts
counts k n = record { targets = k; postings = n }

-- ---- the seed length

module _ (q : ℕ) (c : Catalogue) where
  pub seed_wrong : seed_right q ≡ false → (buffer : List ℕ) → PlanRanked q c (Err refusals.SeedLength) buffer
  unfolding plan_refusal
  seed_wrong h buffer = record { answer = rw h refl; ranks = λ k e. absurd (refused_ranked e) }

  pub seed_fits : seed_right q ≡ true → (r : Result ℕ Refusal) (buffer : List ℕ) → RankedAs c r buffer → PlanRanked q c r buffer
  unfolding plan_refusal
  seed_fits h r buffer a = record { answer = rw h a.answer; ranks = a.ranks }

  -- a plan that is not refused
  pub plan_right : plan_refusal q c ≡ 0 → SeedLength q × Valid c
  unfolding plan_refusal
  plan_right e =
      by_test (seed_right q)
      (λ t. let u = and-true (leb 1 q) (leb q 31) t in (record { some = leb-true 1 q u.0; most = leb-true q 31 u.1 }, valid c (rw t at e)))
      (λ t. absurd (omega (arith, rw t at e)))

-- ---- sequences by rank

module _ (q : ℕ) (c : Catalogue) (r : Result ℕ Refusal) (buffer : List ℕ) (p : PlanRanked q c r buffer) (k : ℕ) (ranked : r ≡ Ok k) where
  told : (plan_refusal q c ≡ 0) × (length (mapped c) ≡ k)
  told = outcome_accepted (plan_refusal q c) (length (mapped c)) k (sym p.answer ∙ ap ranking_outcome ranked)

  pub no_refusal : plan_refusal q c ≡ 0
  no_refusal = told.0

  pub seed_length : SeedLength q
  seed_length = (plan_right q c no_refusal).0

  is_valid : Valid c
  is_valid = (plan_right q c no_refusal).1

  ranked_count : length (take k buffer) ≡ k
  ranked_count = ap length (p.ranks k ranked) ∙ length-map (mapped c) (λ (t : Target). t.place) ∙ told.1

  pub within_buffer : k ≤ length buffer
  within_buffer = omega (arith, length-take k buffer, ranked_count)

  pub prefix_length : k ≡ length (take k buffer)
  prefix_length = sym ranked_count

  sequences_of : (ts : List Target) → ((t : Target) → t ∈ ts → t.bases ≡ get_or (sequences c) t.place []) → map (λ n. get_or (sequences c) n []) (map (λ (t : Target). t.place) ts) ≡ map (λ (t : Target). t.bases) ts
  sequences_of [] h = refl
  sequences_of (t ∷ ts) h = ap₂ {C = List (List ℕ)} (λ x xs. x ∷ xs) (sym (h t (inl refl))) (sequences_of ts (λ u m. h u (inr m)))

  -- the sequences at the ranked places are those of the mapped targets
  pub ranked_mapped : ranked_sequences c.bases c.base_ends (take k buffer) ≡ mapped_sequences c
  ranked_mapped =
      ap (λ l. map (λ n. get_or (sequences c) n []) l) (p.ranks k ranked)
      ∙ sequences_of (mapped c) (λ t m. (at_its_place c is_valid.bounds t (mapped-∈ c t m).0).1)

  pub lent : length buffer ≤ max_targets → Lent c.bases c.base_ends (take k buffer)
  lent few =
      let b = bounded c is_valid.bounds in
      record {
        right = b.based;
        total = b.total;
        few = omega (arith, ranked_count, within_buffer);
        places = rw (p.ranks k ranked) (∈-every (λ n. ltb n (length c.base_ends)) (map (λ (t : Target). t.place) (mapped c)) below);
        capitals = rw ranked_mapped (∈-every (λ (s : List ℕ). every is_capital s) (mapped_sequences c) proper);
      }
    where
      below : (n : ℕ) → n ∈ map (λ (t : Target). t.place) (mapped c) → ltb n (length c.base_ends) ≡ true
      below n m =
          let w = map-∈ (λ (t : Target). t.place) n (mapped c) m in
          let a = at_its_place c is_valid.bounds w.0 (mapped-∈ c w.0 w.1).0 in
          lt-ltb n (length c.base_ends) (omega (arith, w.2, a.0))

      proper : (s : List ℕ) → s ∈ mapped_sequences c → every is_capital s ≡ true
      proper s m =
          let w = map-∈ (λ (t : Target). t.bases) s (mapped c) m in
          let a = at_its_place c is_valid.bounds w.0 (mapped-∈ c w.0 w.1).0 in
          let l = every_at proper_sequence [] (sequences c) is_valid.letters w.0.place (omega (arith, a.0, length_cut 0 c.base_ends c.bases)) in
          (and-true (ltb 0 (length s)) (every is_capital s) (ap proper_sequence (w.2 ∙ a.1) ∙ l)).1

  -- ---- what the calls answer

  pub plan_done : (n : ℕ) → n ≡ length (all_seeds q 0 (ranked_sequences c.bases c.base_ends (take k buffer))) → accepted (counts k n) ≡ planned q c
  plan_done n e =
      let m : n ≡ length (index q c) = e ∙ ap (λ ss. length (all_seeds q 0 ss)) ranked_mapped ∙ sym (length-index q (mapped_sequences c)) in
      rw no_refusal (ap₂ (λ x y. accepted (counts x y)) (sym told.1) m)

  pub test_done : (ks rs os : List ℕ) (b : Bool) → columns_of (index_of q (ranked_sequences c.bases c.base_ends (take k buffer))) ks rs os ≡ b → unless b 6 ≡ index_refusal q c ks rs os
  unfolding index_refusal
  test_done ks rs os b e = rw no_refusal (ap (λ t. unless t 6) (sym (rw ranked_mapped at e)))

-- ---- refusals of the ranking

module _ (q : ℕ) (c : Catalogue) (r : Result ℕ Refusal) (buffer : List ℕ) (p : PlanRanked q c r buffer) (e : Refusal) (told : r ≡ Err e) where
  told_number : (plan_refusal q c ≡ refusal_number e) × (refusal_number e ≡ 0 → ⊥)
  told_number = outcome_number (plan_refusal q c) (refusal_number e) (length (mapped c)) (sym p.answer ∙ ap ranking_outcome told)

  pub number : plan_refusal q c ≡ refusal_number e
  number = told_number.0

  pub not-zero : refusal_number e ≡ 0 → ⊥
  not-zero = told_number.1

  pub test_refused : (ks rs os : List ℕ) → refusal_number e ≡ index_refusal q c ks rs os
  unfolding index_refusal
  test_refused ks rs os = rw number (first_stands (refusal_number e) _ not-zero)
