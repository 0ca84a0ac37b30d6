-- The laws of the call to which an index is lent as records.
use Rattle.std.specs.Prelude.{Result, Ok, Err}
use Rattle.promises.specs.declared.refusal.Refusal.{Refusal}
use mathlib.Core.Path.{◌≡◌, refl, sym, ap, ◌∙◌, subst}
use mathlib.Core.List.{List, [], ◌∷◌, map, ◌++◌}
use Prim.Native.Nat.{ℕ}
use native.Mathlib.Omega.{arith}
use lib.ListN.{length, take, drop, length-map}
use lib.Seq.{take_all}
use Rattle.promises.specs.Refusal.{if_passed, refusal_number, test_number}
use Rattle.catalogue.specs.Catalogue.{Catalogue}
use Rattle.indexed_mapper.specs.Map.{MapsTo}
use Rattle.promises.proofs.Refusing.{numbered}
use Rattle.record_copy.specs.Records.{keys_in, ranks_in, positions_in, Fits, Copied}
use Rattle.record_checks.specs.Room.{copy_refusal, CheckedAs, room}
use Rattle.record_mapper.specs.Entry.{MapsFields, MapsRecords}
use Rattle.record_copy.specs.declared.SeedPosting.{SeedPosting}
use Rattle.record_checks.proofs.Checking.{stays_so, room_there}
use Rattle.map_answers.specs.declared.answer.Mapping.{Mapping}

-- ---- the rows

module _ (q : ℕ) (c : Catalogue) (ps : List SeedPosting) (ks rs os : List ℕ) (r : Result ℕ Refusal) (k : CheckedAs q c (length ps) (room ks rs os) r) where
  -- a refusal in front is that of the call
  told : (e : Refusal) → r ≡ Err e → refusal_number e ≡ copy_refusal q c (length ps) (room ks rs os)
  told e was = sym (ap test_number was) ∙ k.refusal_is

  -- where there is none, every record is copied
  module _ (n : ℕ) (was : r ≡ Ok n) where
    none_told : 0 ≡ copy_refusal q c (length ps) (room ks rs os)
    none_told = sym (ap test_number was) ∙ k.refusal_is

    -- what is copied is there, and has room
    pub copy-fits : Fits n ps ks rs os
    copy-fits =
        let a : n ≡ length ps = k.rows_are n was in
        let b = room_there q c (length ps) (room ks rs os) (sym none_told) in
        record { records_in = omega (arith, a); keys = omega (arith, a, b); ranks = omega (arith, a, b); positions = omega (arith, a, b) }

-- ---- the answer

take_front : (xs ys : List ℕ) → take (length xs) (xs ++ ys) ≡ xs
take_front [] ys = refl
take_front (x ∷ xs) ys = ap (λ (zs : List ℕ). x ∷ zs) (take_front xs ys)

-- a column that holds a field of every record: those are its first rows
module _ (f : SeedPosting → ℕ) (ps : List SeedPosting) (b b₁ : List ℕ) (n : ℕ) (e : n ≡ length ps) (l : b₁ ≡ map f (take n ps) ++ drop n b) where
  column_is : b₁ ≡ map f ps ++ drop (length (map f ps)) b
  column_is = l ∙ ap (λ m. map f (take m ps) ++ drop m b) e ∙ ap (λ xs. map f xs ++ drop (length ps) b) (take_all (length ps) ps (omega arith)) ∙ ap (λ m. map f ps ++ drop m b) (sym (length-map ps f))

  rows_are : take n b₁ ≡ map f ps
  rows_are = ap (λ m. take m b₁) (e ∙ sym (length-map ps f)) ∙ ap (λ xs. take (length (map f ps)) xs) column_is ∙ take_front (map f ps) (drop (length (map f ps)) b)

module _ (q : ℕ) (c : Catalogue) (ps : List SeedPosting) (read : List ℕ) (limit : ℕ) (es ks rs os : List ℕ) (r : Result ℕ Refusal) (k : CheckedAs q c (length ps) (room ks rs os) r) where
  pub records_refused : (e : Refusal) → r ≡ Err e → MapsRecords q c ps read limit (Err e) es ks rs os es ks rs os
  records_refused e was = subst (λ n. MapsFields n q c ps read limit (Err e) es ks rs os es ks rs os) (told q c ps ks rs os r k e was) untouched
    where
      stays : {A : Type 0} (a b : A) → b ≡ if_passed (refusal_number e) a b
      stays a b = sym (stays_so (refusal_number e) a b (numbered e))

      untouched : MapsFields (refusal_number e) q c ps read limit (Err e) es ks rs os es ks rs os
      untouched = record { mapped = record { answer = stays _ _; entries = stays _ _ }; keys = stays _ _; ranks = stays _ _; positions = stays _ _ }

  module _ (n : ℕ) (was : r ≡ Ok n) (m : Result Mapping Refusal) (ks₁ rs₁ os₁ es' : List ℕ) where
    pub records_mapped : Copied n ps ks rs os ks₁ rs₁ os₁ → MapsTo q c (take n ks₁) (take n rs₁) (take n os₁) read limit m es es' → MapsRecords q c ps read limit m es ks rs os es' ks₁ rs₁ os₁
    records_mapped d a = subst (λ x. MapsFields x q c ps read limit m es ks rs os es' ks₁ rs₁ os₁) (none_told q c ps ks rs os r k n was) fields
      where
        all : n ≡ length ps
        all = k.rows_are n was

        by_fields : MapsTo q c (keys_in ps) (ranks_in ps) (positions_in ps) read limit m es es'
        by_fields =
            rw (rows_are (λ (p : SeedPosting). p.key) ps ks ks₁ n all d.keys, rows_are (λ (p : SeedPosting). p.rank) ps rs rs₁ n all d.ranks, rows_are (λ (p : SeedPosting). p.position) ps os os₁ n all d.positions) at a

        fields : MapsFields 0 q c ps read limit m es ks rs os es' ks₁ rs₁ os₁
        fields =
            record {
              mapped = by_fields;
              keys = column_is (λ (p : SeedPosting). p.key) ps ks ks₁ n all d.keys;
              ranks = column_is (λ (p : SeedPosting). p.rank) ps rs rs₁ n all d.ranks;
              positions = column_is (λ (p : SeedPosting). p.position) ps os os₁ n all d.positions;
            }
