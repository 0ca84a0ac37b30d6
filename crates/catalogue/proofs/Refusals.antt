-- Which refusal a catalogue meets, and the ranking of one that meets none.
use Rattle.std.specs.Prelude.{Result, Ok, Err}
use mathlib.Core.Path.{◌≡◌, sym, ap, ◌∙◌}
use mathlib.Core.Bool.{true, false}
use mathlib.Core.List.{List, ◌++◌, map}
use Prim.Native.Nat.{ℕ, ◌≤◌}
use native.Mathlib.Omega.{arith}
use lib.ListN.{length, take, length-take, length-map}
use lib.Seq.{take-append-le}
use lib.Dec.{ltb}
use borrow.Author.Tests.{lt-ltb}
use Rattle.lists.specs.Filter.{every}
use Rattle.lists.specs.Sort.{sort}
use Rattle.lists.proofs.Cases.{by_test}
use Rattle.lists.proofs.Every.{∈-every}
use Rattle.lists.proofs.Sort.{sort-∈}
use Rattle.promises.specs.declared.refusal.Refusal.{Refusal}
use Rattle.promises.specs.Refusal.{refusal_number, unless, ◌or_else◌, refused, accepted, outcome}
use Rattle.promises.proofs.Refusing.{none_first, none_second, passed, outcome_accepted}
use Rattle.identifiers.specs.Name.{distinct_names, place_before}
use Rattle.lists.specs.Numbers.{numbers}
use Rattle.catalogue.specs.Catalogue.{Catalogue, Valid, names, sequences, in_bounds, proper_sequence, catalogue_refusal, mapped}
use Rattle.catalogue.specs.Ranking.{ranking_outcome, Kept, linear_places, NamesRanked, RankedAs}
use Rattle.lists.proofs.Numbers.{numbers-∈}
use Rattle.catalogue.proofs.Mapped.{places-mapped}

-- the places of an order are below the number of names
pub places_below : (ns : List (List ℕ)) (n : ℕ) → length ns ≤ n → every (λ p. ltb p n) (sort (place_before ns) (numbers 0 (length ns))) ≡ true
places_below ns n h =
    ∈-every (λ p. ltb p n) (sort (place_before ns) (numbers 0 (length ns)))
    (λ p m. let r = numbers-∈ 0 (length ns) p (sort-∈ (place_before ns) p (numbers 0 (length ns)) m) in lt-ltb p n (omega arith))

-- ---- answers

-- a refusal is no ranking
pub refused_ranked : {n : Refusal} {k : ℕ} → ◌≡◌ {A = Result ℕ Refusal} (Err n) (Ok k) → ⊥
refused_ranked e = let z : ◌≡◌ {A = ℕ} 0 1 = cc in omega arith

-- a ranking of k places is one of no other number
ranked_number : {k j : ℕ} → ◌≡◌ {A = Result ℕ Refusal} (Ok k) (Ok j) → j ≡ k
ranked_number e = cc

-- equal names are refused, and others ranked
module _ (ns : List (List ℕ)) (ms : List ℕ) where
  pub names_refused : {n : Refusal} → distinct_names ns ≡ false → refusal_number n ≡ 4 → (buffer : List ℕ) → NamesRanked ns ms (Err n) buffer
  names_refused d told buffer = record { answer = ap refused told ∙ ap (λ b. outcome (unless b 4) (length (linear_places ns ms))) (sym d); ranks = λ k e. absurd (refused_ranked e) }

  pub names_ranked : distinct_names ns ≡ true → (k : ℕ) (order buffer : List ℕ) → order ≡ sort (place_before ns) (numbers 0 (length ns)) → Kept ms order k buffer → NamesRanked ns ms (Ok k) buffer
  names_ranked d k order buffer e h = let f = rw e at h in record { answer = rw d (ap accepted f.count); ranks = λ j g. rw (ranked_number g) f.places }

module _ (c : Catalogue) where
  pub out_of_bounds : {n : Refusal} → in_bounds c ≡ false → refusal_number n ≡ 2 → (buffer : List ℕ) → RankedAs c (Err n) buffer
  unfolding catalogue_refusal
  out_of_bounds e told buffer = record { answer = rw e (ap refused told); ranks = λ k e. absurd (refused_ranked e) }

  module _ (within : in_bounds c ≡ true) where
    pub bad_bases : {n : Refusal} → every proper_sequence (sequences c) ≡ false → refusal_number n ≡ 3 → (buffer : List ℕ) → RankedAs c (Err n) buffer
    unfolding catalogue_refusal
    bad_bases e told buffer = record { answer = rw (within, e) (ap refused told); ranks = λ k e. absurd (refused_ranked e) }

    module _ (proper : every proper_sequence (sequences c) ≡ true) where
      same_outcome : outcome (unless (distinct_names (names c)) 4) (length (linear_places (names c) c.marks)) ≡ outcome (catalogue_refusal c) (length (mapped c))
      unfolding catalogue_refusal
      same_outcome =
          by_test (distinct_names (names c))
          (λ d. rw (within, proper, d) (ap accepted (ap length (places-mapped c within d) ∙ length-map (mapped c) (λ t. t.place))))
          (λ d. rw (within, proper, d))

      -- the ranking of the names is that of the catalogue
      pub ranked_as : {r : Result ℕ Refusal} {buffer : List ℕ} (rest : List ℕ) → NamesRanked (names c) c.marks r buffer → RankedAs c r (buffer ++ rest)
      ranked_as {r} {buffer} rest h = record { answer = h.answer ∙ same_outcome; ranks = ranked }
        where
          ranked : (k : ℕ) → r ≡ Ok k → take k (buffer ++ rest) ≡ map (λ t. t.place) (mapped c)
          ranked k e =
              let told = outcome_accepted (unless (distinct_names (names c)) 4) (length (linear_places (names c) c.marks)) k (sym h.answer ∙ ap ranking_outcome e) in
              let inside : k ≤ length buffer = omega (arith, length-take k buffer, ap length (h.ranks k e), told.1) in
              take-append-le k buffer rest inside ∙ h.ranks k e ∙ places-mapped c within (passed (distinct_names (names c)) 4 (λ z. omega arith) told.0)

-- a catalogue that meets no refusal is valid
pub valid : (c : Catalogue) → catalogue_refusal c ≡ 0 → Valid c
unfolding catalogue_refusal
valid c e =
    let behind = none_second (unless (in_bounds c) 2) (unless (every proper_sequence (sequences c)) 3 or_else unless (distinct_names (names c)) 4) e in
    record {
      bounds = passed (in_bounds c) 2 (λ z. omega arith) (none_first (unless (in_bounds c) 2) (unless (every proper_sequence (sequences c)) 3 or_else unless (distinct_names (names c)) 4) e);
      letters = passed (every proper_sequence (sequences c)) 3 (λ z. omega arith) (none_first (unless (every proper_sequence (sequences c)) 3) (unless (distinct_names (names c)) 4) behind);
      distinct = passed (distinct_names (names c)) 4 (λ z. omega arith) (none_second (unless (every proper_sequence (sequences c)) 3) (unless (distinct_names (names c)) 4) behind);
    }
