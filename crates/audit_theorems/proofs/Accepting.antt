-- A fragment is accepted exactly where no refusal of the table has its condition.
use Rattle.std.specs.Prelude.{Option, Some, None}
use mathlib.Core.Path.{◌≡◌, refl, ap}
use mathlib.Core.Bool.{Bool, true, false, cond}
use mathlib.Core.Logic.{◌↔◌, inl, inr}
use mathlib.Core.List.{List, [], ◌∷◌}
use Prim.Native.Nat.{ℕ, zero, suc, ◌≤◌, ◌<◌}
use native.Mathlib.Omega.{arith}
use lib.ListN.{length}
use lib.Dec.{leb, ltb}
use borrow.Author.Tests.{lt-ltb, le-ltb, ltb-true, ltb-false, le-leb, leb-true}
use Rattle.lists.specs.Member.{◌∈◌}
use Rattle.lists.proofs.Cases.{by_test}
use Rattle.lists.proofs.Every.{every-∈, ∈-every}
use Rattle.lists.proofs.Same.{same_true, true_same}
use Rattle.promises.specs.Refusal.{unless, ◌or_else◌, outcome, is_refused}
use Rattle.promises.proofs.Refusing.{none_first, none_second, passed}
use Rattle.bases.specs.Eligibility.{eligibility}
use Rattle.catalogue.specs.Catalogue.{Catalogue}
use Rattle.index_model.specs.Index.{mapped_sequences}
use Rattle.map_places.specs.Place.{max_read}
use Rattle.map_every_start.specs.Entries.{entry_count}
use Rattle.map_answers.specs.Bounds.{length_right}
use Rattle.map_answers.specs.Answer.{room_refusal}
use Rattle.audit_ledger.specs.Booking.{Books, kept, max_counter, countable}
use Rattle.audit_model.specs.declared.settings.Settings.{Settings}
use Rattle.audit_model.specs.Settings.{Held}
use Rattle.audit_model.specs.Opening.{opening_refusal}
use Rattle.audit_model.specs.Observing.{MateRead, verdict_refusal, mate_refusal, observe, observed_room}
use Rattle.audit_model.specs.Fragment.{in_order, roles_right, first_refusal, share_of, tested_refusal, fragment_refusal, fragment_books}
use Rattle.audit_model.specs.Run.{Call, answer_to}
use Rattle.audit_model.proofs.Checking.{fragment_checked}
use Rattle.audit_theorems.specs.Meaning.{Roomy, Acceptable}

-- ---- chains

-- a test that has passed does not refuse
unrefused : (t : Bool) (n : ℕ) → t ≡ true → unless t n ≡ 0
unrefused t n e = rw e

-- two that do not refuse make one that does not
both_pass : (m n : ℕ) → m ≡ 0 → n ≡ 0 → (m or_else n) ≡ 0
both_pass m n e f = rw e f

module _ {A : Type 0} (check : A → ℕ) where
  -- the checks of all pass, each by itself
  all_pass : (xs : List A) → ((x : A) → x ∈ xs → check x ≡ 0) → first_refusal check xs ≡ 0
  all_pass [] h = refl
  all_pass (x ∷ xs) h = both_pass (check x) (first_refusal check xs) (h x (inl refl)) (all_pass xs (λ y m. h y (inr m)))

  each_passes : (xs : List A) → first_refusal check xs ≡ 0 → (x : A) → x ∈ xs → check x ≡ 0
  each_passes [] e x x4 = elim x4 [ ]
  each_passes (y ∷ ys) e x (inl m) = rw m (none_first (check y) (first_refusal check ys) e)
  each_passes (y ∷ ys) e x (inr m) = each_passes ys (none_second (check y) (first_refusal check ys) e) x m

-- an outcome is accepted exactly where there is no refusal
pub not_refused : {A : Type 0} (n : ℕ) (a : A) → (n ≡ 0) ↔ (is_refused (outcome n a) ≡ false)
not_refused zero a = (λ e. refl, λ e. refl)
not_refused (suc n) a = (λ e. absurd (omega arith), λ e. absurd (let z : ◌≡◌ {A = ℕ} 0 1 = ap (λ b. cond b 0 1) e in omega arith))

-- ---- one condition after the other

-- 12
order_passes : (l : Option ℕ) (ordinal : ℕ) → ((last : ℕ) → l ≡ Some last → last < ordinal) → in_order l ordinal ≡ true
order_passes None ordinal h = refl
order_passes (Some last) ordinal h = lt-ltb last ordinal (h last refl)

order_passed : (l : Option ℕ) (ordinal last : ℕ) → l ≡ Some last → in_order l ordinal ≡ true → last < ordinal
order_passed l ordinal last e t = ltb-true last ordinal (rw e at t)

-- 10
room_passes : (entries limit matched : ℕ) → Roomy entries limit matched → room_refusal entries limit matched ≡ 0
room_passes entries limit matched (inl h) = rw (le-ltb entries matched h)
room_passes entries limit matched (inr h) = by_test (ltb entries matched) (λ t. rw (t, le-ltb entries limit h)) (λ t. rw t)

room_passed : (entries limit matched : ℕ) → room_refusal entries limit matched ≡ 0 → Roomy entries limit matched
room_passed entries limit matched e =
    by_test (ltb entries matched) (λ t. by_test (ltb entries limit) (λ u. absurd (let z : ◌≡◌ {A = ℕ} 10 0 = rw (t, u) at e in omega arith)) (λ u. inr (ltb-false entries limit u))) (λ t. inl (ltb-false entries matched t))

module _ (offset : ℕ) (s : Settings) (r : MateRead) where
  -- 7, 14 to 16
  read_passes : length r.read.bases ≤ max_read → (s.remap ≡ true → verdict_refusal (eligibility s.floor offset r.read) ≡ 0) → mate_refusal offset s r ≡ 0
  read_passes h v =
      both_pass (unless (length_right r.read.bases) 7) (cond s.remap (verdict_refusal (eligibility s.floor offset r.read)) 0) (unrefused (length_right r.read.bases) 7 (le-leb _ _ h))
      (by_test s.remap (λ t. rw t (v t)) (λ t. rw t))

  module _ (e : mate_refusal offset s r ≡ 0) where
    read_short : length r.read.bases ≤ max_read
    read_short = leb-true _ _ (passed (length_right r.read.bases) 7 (λ z. omega arith) (none_first (unless (length_right r.read.bases) 7) _ e))

    read_judged : s.remap ≡ true → verdict_refusal (eligibility s.floor offset r.read) ≡ 0
    read_judged t = let z = none_second (unless (length_right r.read.bases) 7) _ e in rw t at z

-- 17
counts_pass : (b : Books) → ((n : ℕ) → n ∈ kept b → n ≤ max_counter) → countable b ≡ true
unfolding countable
counts_pass b h = ∈-every (λ n. leb n max_counter) (kept b) (λ n m. le-leb n max_counter (h n m))

counts_passed : (b : Books) → countable b ≡ true → (n : ℕ) → n ∈ kept b → n ≤ max_counter
unfolding countable
counts_passed b t n m = leb-true n max_counter (every-∈ (λ n. leb n max_counter) (kept b) t n m)

-- ---- a fragment

module _ (q offset : ℕ) (c : Catalogue) (h : Held) (x : Call) where
  abbrev s : Settings
  s = h.state.settings

  abbrev refusal : ℕ
  refusal = fragment_refusal q offset c x.lent h x.fragment (entry_count x.entries)

  acceptable_passes : Acceptable q offset c h x → refusal ≡ 0
  unfolding fragment_refusal tested_refusal
  acceptable_passes a =
      both_pass (opening_refusal q offset c x.lent s h.counters) _ a.opening
      (both_pass (unless (in_order h.state.last x.fragment.ordinal) 12) _ (unrefused _ 12 (order_passes h.state.last x.fragment.ordinal a.order))
      (both_pass (unless (roles_right s.mode x.fragment.reads) 13) _ (unrefused _ 13 (true_same _ _ a.roles))
      (both_pass (first_refusal (mate_refusal offset s) x.fragment.reads) _
      (all_pass (mate_refusal offset s) x.fragment.reads (λ r m. read_passes offset s r (a.lengths r m) (λ t. a.verdicts t r m)))
      (both_pass (first_refusal (λ (r : MateRead). observed_room s (mapped_sequences c) (share_of s.mode (entry_count x.entries)) (observe offset s r)) x.fragment.reads) _
      (all_pass (λ (r : MateRead). observed_room s (mapped_sequences c) (share_of s.mode (entry_count x.entries)) (observe offset s r)) x.fragment.reads (λ r m. room_passes _ s.limit _ (a.rooms r m)))
      (unrefused _ 17 (counts_pass (fragment_books offset c h x.fragment) a.counts))))))

  passed_acceptable : refusal ≡ 0 → Acceptable q offset c h x
  passed_acceptable z =
      let p = fragment_checked q offset c x.lent h x.fragment (entry_count x.entries) z in
      let reads = each_passes (mate_refusal offset s) x.fragment.reads p.own.reads in
      let rooms = each_passes (λ (r : MateRead). observed_room s (mapped_sequences c) (share_of s.mode (entry_count x.entries)) (observe offset s r)) x.fragment.reads p.own.rooms in
      record {
        opening = p.opening;
        order = λ last e. order_passed h.state.last x.fragment.ordinal last e p.own.order;
        roles = same_true _ _ p.own.roles;
        lengths = λ r m. read_short offset s r (reads r m);
        verdicts = λ t r m. read_judged offset s r (reads r m) t;
        rooms = λ r m. room_passed _ s.limit _ (rooms r m);
        counts = counts_passed (fragment_books offset c h x.fragment) p.own.counts;
      }

  pub accepted_when : Acceptable q offset c h x ↔ (is_refused (answer_to q offset c h x).rows ≡ false)
  accepted_when = let o = not_refused refusal _ in (λ a. o.0 (acceptable_passes a), λ e. passed_acceptable (o.1 e))
