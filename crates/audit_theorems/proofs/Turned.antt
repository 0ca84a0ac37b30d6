-- One read observed in either way, as it is or turned round: the same row but for the work, the groups on the other strands, and the same targets.
use mathlib.Core.Path.{◌≡◌, refl, sym, ap, ap₂, ◌∙◌}
use mathlib.Core.Bool.{Bool, true, false, cond, ◌&&◌}
use mathlib.Core.List.{List, [], ◌∷◌, ◌++◌, map, map-append}
use Prim.Native.Nat.{ℕ, zero, suc, ◌≤◌}
use native.Mathlib.Omega.{arith}
use lib.ListN.{length, get_or}
use lib.Dec.{ltb}
use Rattle.lists.specs.Filter.{cons_if, filter}
use Rattle.lists.specs.Member.{◌∈◌}
use Rattle.lists.proofs.Cases.{by_test}
use Rattle.lists.proofs.Filter.{filter_append}
use Rattle.promises.specs.Refusal.{unless}
use Rattle.promises.proofs.Refusing.{none_second}
use Rattle.bases.specs.Read.{reverse_complement, turned}
use Rattle.bases.specs.Eligibility.{Verdict, refused, eligibility}
use Rattle.bases.proofs.Turning.{length-reverse_complement, eligibility-turned}
use Rattle.index_seeds.specs.Window.{starts}
use Rattle.map_places.specs.Place.{Place, place, places_in, places_from, places, matches, groups}
use Rattle.map_places.proofs.Swapping.{matches-turned}
use Rattle.map_candidates.proofs.Candidates.{comparable_fewer}
use Rattle.map_by_index.specs.Work.{work, scan_work, by_index, plain}
use Rattle.map_answers.specs.Bounds.{length_right}
use Rattle.map_answers.specs.Answer.{listed}
use Rattle.map_search.proofs.Listed.{none_listed, listed_part}
use Rattle.indexed_mapper.specs.Laws.{turned_groups}
use Rattle.indexed_mapper.proofs.Laws.{number_turned, listed-turned}
use Rattle.audit_ledger.specs.Booking.{targets_of}
use Rattle.audit_model.specs.declared.settings.Settings.{Settings}
use Rattle.audit_model.specs.Observing.{MateRead, verdict_refusal, is_eligible, mate_refusal, is_searched, observe, observed_listed, observed_row, observed_state}
use Rattle.audit_theorems.specs.Twins.{turned_mate}

-- ---- the ranks of a turned read's groups

pair_ranks : (f : ℕ → ℕ) (x y : Bool) (p q : Place) (l m : List Place) → p.rank ≡ q.rank → map (λ (z : Place). f z.rank) l ≡ map (λ (z : Place). f z.rank) m
    → map (λ (z : Place). f z.rank) (cons_if y p (cons_if x q l)) ≡ map (λ (z : Place). f z.rank) (cons_if x p (cons_if y q m))
pair_ranks f true true p q l m e h = ap {B = List ℕ} (λ k. f p.rank ∷ f q.rank ∷ k) h
pair_ranks f true false p q l m e h = ap₂ {C = List ℕ} (λ r k. f r ∷ k) (sym e) h
pair_ranks f false true p q l m e h = ap₂ {C = List ℕ} (λ r k. f r ∷ k) e h
pair_ranks f false false p q l m e h = h

module _ (f : ℕ → ℕ) (ss : List (List ℕ)) (read : List ℕ) where
  abbrev ranks : List Place → List ℕ
  ranks ps = map (λ (z : Place). f z.rank) ps

  in_ranks : (r s k : ℕ) → ranks (filter (matches ss (reverse_complement read)) (places_in r s k)) ≡ ranks (filter (matches ss read) (places_in r s k))
  in_ranks r s zero = refl
  in_ranks r s (suc k) =
      rw (matches-turned ss read (place r s 0) (omega arith), matches-turned ss read (place r s 1) (omega arith))
      (pair_ranks f (matches ss read (place r s 0)) (matches ss read (place r s 1)) (place r s 0) (place r s 1) (filter (matches ss (reverse_complement read)) (places_in r (suc s) k)) (filter (matches ss read) (places_in r (suc s) k)) refl (in_ranks r (suc s) k))

  from_ranks : (r n : ℕ) (ts : List (List ℕ)) → ranks (filter (matches ss (reverse_complement read)) (places_from r n ts)) ≡ ranks (filter (matches ss read) (places_from r n ts))
  from_ranks r n [] = refl
  from_ranks r n (t ∷ ts) = simp (filter_append, map-append) (ap₂ (λ a b. a ++ b) (in_ranks r 0 (starts n t)) (from_ranks (suc r) n ts))

  -- the groups of a turned read stand on the same ranks in the same order
  groups_ranks : ranks (groups ss (reverse_complement read)) ≡ ranks (groups ss read)
  unfolding groups places
  groups_ranks = rw length-reverse_complement (from_ranks 0 (length read) ss)

-- ---- a read that is not refused, and neither is it turned round

module _ (offset : ℕ) (s : Settings) where
  -- the verdict on a read that is not refused is no refusal
  unrefused : (v : Verdict) → verdict_refusal v ≡ 0 → v ≡ refused 16 → ⊥
  unrefused v z e = omega (arith, z, ap verdict_refusal e)

  pub searched_turned : (m : MateRead) → mate_refusal offset s m ≡ 0 → mate_refusal offset s (turned_mate m) ≡ 0 → is_searched offset s (turned_mate m) ≡ is_searched offset s m
  searched_turned m z z' = go s.remap (none_second (unless (length_right m.read.bases) 7) _ z) (none_second (unless (length_right (turned m.read).bases) 7) _ z')
    where
      go : (b : Bool) → cond b (verdict_refusal (eligibility s.floor offset m.read)) 0 ≡ 0 → cond b (verdict_refusal (eligibility s.floor offset (turned m.read))) 0 ≡ 0
          → (b && is_eligible (eligibility s.floor offset (turned m.read))) ≡ (b && is_eligible (eligibility s.floor offset m.read))
      go true e e' = ap is_eligible (eligibility-turned s.floor offset m.read (unrefused (eligibility s.floor offset (turned m.read)) e') (unrefused (eligibility s.floor offset m.read) e))
      go false e e' = refl

  module _ (ss : List (List ℕ)) where
    -- ---- rows

    -- a listed group is a group of the read
    pub listed-∈ : (m : MateRead) (p : Place) → p ∈ observed_listed s ss (observe offset s m) → p ∈ groups ss m.read.bases
    listed-∈ m p = listed_part s.limit p (is_searched offset s m) (groups ss m.read.bases)

    -- by the index it is compared no more often
    pub read_fewer : (q : ℕ) → 1 ≤ q → (m : MateRead) → (observed_row s ss (by_index q) (observe offset s m)).work.comparisons ≤ (observed_row s ss plain (observe offset s m)).work.comparisons
    unfolding work scan_work
    read_fewer q some m =
        by_test (is_searched offset s m)
        (λ t. rw t (comparable_fewer q ss m.read.bases some s.limit))
        (λ t. rw t (omega arith))

    -- ---- turned

    module _ (m : MateRead) (z : mate_refusal offset s m ≡ 0) (z' : mate_refusal offset s (turned_mate m) ≡ 0) where
      pub state_turned : observed_state s ss (observe offset s m) ≡ observed_state s ss (observe offset s (turned_mate m))
      state_turned = rw (searched_turned m z z', number_turned ss m.read.bases) refl

      -- the listed groups are those of the read, on the other strands and put back in order
      pub read_turned : observed_listed s ss (observe offset s (turned_mate m)) ≡ turned_groups (observed_listed s ss (observe offset s m))
      read_turned =
          rw (searched_turned m z z')
          (by_test (is_searched offset s m) (λ t. rw t (listed-turned ss m.read.bases s.limit)) (λ t. rw (t, none_listed s.limit)))

      -- on the same targets
      pub targets-turned : (ranked : List ℕ) → targets_of ranked (observed_listed s ss (observe offset s m)) ≡ targets_of ranked (observed_listed s ss (observe offset s (turned_mate m)))
      targets-turned ranked = rw (searched_turned m z z') (go (is_searched offset s m))
        where
          go : (b : Bool) → targets_of ranked (listed s.limit (cond b (groups ss m.read.bases) [])) ≡ targets_of ranked (listed s.limit (cond b (groups ss (reverse_complement m.read.bases)) []))
          go true =
              rw (number_turned ss m.read.bases)
              (by_test (ltb s.limit (length (groups ss m.read.bases))) (λ l. rw l) (λ l. rw l (sym (groups_ranks (λ r. get_or ranked r 0) ss m.read.bases))))
          go false = refl
