-- What a build answers: the refusal of the ranking, the build of its sequences, and room.
use Rattle.std.specs.Prelude.{Result, Ok, Err}
use Rattle.promises.specs.declared.refusal.Refusal.{Refusal}
use mathlib.Core.Path.{◌≡◌, refl, sym, ap, ◌∙◌}
use Rattle.promises.specs.declared.refusal.Refusal.TheVariants as refusals
use mathlib.Core.List.{List, ◌++◌}
use Prim.Native.Nat.{ℕ, zero, suc, ◌+◌, ◌<◌, ◌≤◌}
use native.Mathlib.Omega.{arith}
use lib.ListN.{length, take, drop}
use lib.Dec.{leb}
use borrow.Author.Tests.{le-leb, lt-leb}
use Rattle.promises.specs.Refusal.{refused, refusal_number, unless, ◌or_else◌, accepted}
use Rattle.catalogue.specs.Catalogue.{Catalogue}
use Rattle.buffers.specs.Placed.{placed}
use Rattle.index_seeds.specs.Seeds.{keys_of, ranks_of, positions_of, Stored}
use Rattle.index_model.specs.Index.{all_seeds, index, index_of, ranked_sequences, build_refusal}
use Rattle.index_plan.specs.Answers.{PlanRanked}
use Rattle.index_calls.specs.Answers.{built_outcome, entries, Builds, BuiltAs, BuiltFrom}
use Rattle.index_model.proofs.Indexing.{length-index}
use Rattle.index_plan.proofs.Planning.{no_refusal, ranked_mapped, number, not-zero}

module _ (q : ℕ) (c : Catalogue) (r : Result ℕ Refusal) (buffer : List ℕ) (p : PlanRanked q c r buffer) where
  pub build_done : (k : ℕ) → r ≡ Ok k → (b : Result ℕ Refusal) (ks rs os ks' rs' os' : List ℕ) → BuiltFrom q (ranked_sequences c.bases c.base_ends (take k buffer)) b ks rs os ks' rs' os' → BuiltAs q c b ks rs os ks' rs' os'
  unfolding build_refusal
  build_done k ranked b ks rs os ks' rs' os' h = rw (no_refusal q c r buffer p k ranked) (rw (ranked_mapped q c r buffer p k ranked) at h)

  pub build_refused : (e : Refusal) → r ≡ Err e → (ks rs os : List ℕ) → BuiltAs q c (Err e) ks rs os ks rs os
  unfolding build_refusal
  build_refused e told ks rs os = rw (number q c r buffer p e told) (go (refusal_number e) refl (not-zero q c r buffer p e told))
    where
      go : (m : ℕ) → refusal_number e ≡ m → (m ≡ 0 → ⊥) → Builds (m or_else unless (leb (length (index q c)) (entries ks rs os)) 5) (index q c) (Err e) ks rs os ks rs os
      go zero is ne = absurd (ne refl)
      go (suc m) is ne = record { answer = ap refused is; keys = refl; ranks = refl; positions = refl }

-- ---- room

module _ (q : ℕ) (ss : List (List ℕ)) (ks rs os : List ℕ) where
  pub no_room : entries ks rs os < length (all_seeds q 0 ss) → BuiltFrom q ss (Err refusals.IndexRoom) ks rs os ks rs os
  no_room h = rw (lt-leb (length (index_of q ss)) (entries ks rs os) (omega (arith, length-index q ss))) (record { answer = refl; keys = refl; ranks = refl; positions = refl })

  pub with_room : (n : ℕ) → n ≡ length (all_seeds q 0 ss) → n ≤ entries ks rs os → (ks' rs' os' : List ℕ) → Stored 0 (index_of q ss) ks rs os ks' rs' os' → (r : Result ℕ Refusal) → built_outcome r ≡ accepted n → BuiltFrom q ss r ks rs os ks' rs' os'
  with_room n e h ks' rs' os' s r a =
      rw (le-leb (length (index_of q ss)) (entries ks rs os) (omega (arith, length-index q ss)))
      (record {
        answer = a ∙ ap accepted (e ∙ sym (length-index q ss));
        keys = s.keys ∙ front (keys_of (index_of q ss)) ks;
        ranks = s.ranks ∙ front (ranks_of (index_of q ss)) rs;
        positions = s.positions ∙ front (positions_of (index_of q ss)) os;
      })
    where
      front : (xs buffer : List ℕ) → placed 0 xs buffer ≡ xs ++ drop (length xs) buffer
      front xs buffer =
          let z : 0 + length xs ≡ length xs = omega arith in
          ap (λ m. xs ++ drop m buffer) z
