-- Calls one after the other: the books are the history booked, every number has 64 bits, and a call that changes nothing can be left out.
use mathlib.Core.Path.{◌≡◌, refl, sym, ap, ◌∙◌}
use mathlib.Core.Bool.{true}
use mathlib.Core.List.{List, [], ◌∷◌, ◌++◌}
use Prim.Native.Nat.{ℕ, zero, suc}
use Rattle.promises.specs.Refusal.{if_passed, is_refused}
use Rattle.catalogue.specs.Catalogue.{Catalogue, supplied_places}
use Rattle.map_every_start.specs.Entries.{entry_count}
use Rattle.audit_ledger.specs.Booking.{booked_all, countable}
use Rattle.audit_ledger.proofs.Booking.{booked_append}
use Rattle.audit_model.specs.Settings.{Held, held_books}
use Rattle.audit_model.specs.Fragment.{fragment_refusal, fragment_booked, fragment_accepted}
use Rattle.audit_model.proofs.Checking.{fragment_checked}
use Rattle.audit_model.proofs.Booked.{refused_holds}
use Rattle.audit_theorems.specs.Meaning.{CanBeLeftOut}
use Rattle.audit_theorems.proofs.Accepting.{not_refused}
use Rattle.lists.proofs.Cases.{clash}
use Rattle.audit_model.specs.Run.{Call, Answer, answer_to, next, books, answers, after, history}

-- ---- a fragment's own refusal

module _ (q offset : ℕ) (c : Catalogue) (h : Held) (x : Call) where
  abbrev refusal : ℕ
  refusal = fragment_refusal q offset c x.lent h x.fragment (entry_count x.entries)

  -- a refused one leaves state and counters as they were
  refused_leaves : (refusal ≡ 0 → ⊥) → next q offset c h x ≡ h
  refused_leaves ne = refused_holds refusal ne (fragment_accepted offset c h x.fragment) h

  -- the books after a call are those before it with what it books
  next_books : held_books (next q offset c h x) ≡ booked_all (supplied_places c) (books q offset c h x) (held_books h)
  next_books = go refusal
    where
      go : (n : ℕ) → held_books (if_passed n (fragment_accepted offset c h x.fragment) h) ≡ booked_all (supplied_places c) (if_passed n (fragment_booked offset c h x.fragment) []) (held_books h)
      go zero = refl
      go (suc n) = refl

  next_countable : countable (held_books h) ≡ true → countable (held_books (next q offset c h x)) ≡ true
  next_countable = go refusal refl
    where
      go : (n : ℕ) → refusal ≡ n → countable (held_books h) ≡ true → countable (held_books (if_passed n (fragment_accepted offset c h x.fragment) h)) ≡ true
      go zero e t = (fragment_checked q offset c x.lent h x.fragment (entry_count x.entries) e).own.counts
      go (suc n) e t = t

-- ---- a list of calls

module _ (q offset : ℕ) (c : Catalogue) where
  -- the books after calls are those before them with the history
  pub after_books : (h : Held) (xs : List Call) → held_books (after q offset c h xs) ≡ booked_all (supplied_places c) (history q offset c h xs) (held_books h)
  after_books h [] = refl
  after_books h (x ∷ xs) =
      after_books (next q offset c h x) xs
      ∙ ap (booked_all (supplied_places c) (history q offset c (next q offset c h x) xs)) (next_books q offset c h x)
      ∙ sym (booked_append (supplied_places c) (books q offset c h x) (history q offset c (next q offset c h x) xs) (held_books h))

  -- every number that is kept has 64 bits
  pub after_countable : (h : Held) → countable (held_books h) ≡ true → (xs : List Call) → countable (held_books (after q offset c h xs)) ≡ true
  after_countable h t [] = t
  after_countable h t (x ∷ xs) = after_countable (next q offset c h x) (next_countable q offset c h x t) xs

  -- calls behind others
  after_append : (h : Held) (xs ys : List Call) → after q offset c h (xs ++ ys) ≡ after q offset c (after q offset c h xs) ys
  after_append h [] ys = refl
  after_append h (x ∷ xs) ys = after_append (next q offset c h x) xs ys

  answers_append : (h : Held) (xs ys : List Call) → answers q offset c h (xs ++ ys) ≡ answers q offset c h xs ++ answers q offset c (after q offset c h xs) ys
  answers_append h [] ys = refl
  answers_append h (x ∷ xs) ys = ap {B = List Answer} (λ l. answer_to q offset c h x ∷ l) (answers_append (next q offset c h x) xs ys)

  -- a refused call leaves state and counters as they were, so that it can be left out
  pub spare_call : (h : Held) (xs : List Call) (x : Call) (ys : List Call) → is_refused (answer_to q offset c (after q offset c h xs) x).rows ≡ true → CanBeLeftOut q offset c h xs x ys
  spare_call h xs x ys told =
      let e : next q offset c (after q offset c h xs) x ≡ after q offset c h xs =
      refused_leaves q offset c (after q offset c h xs) x (λ z. clash told ((not_refused (refusal q offset c (after q offset c h xs) x) _).0 z)) in
      record {
        held = after_append h xs (x ∷ ys) ∙ ap (λ i. after q offset c i ys) e ∙ sym (after_append h xs ys);
        with_it = answers_append h xs (x ∷ ys) ∙ ap {B = List Answer} (λ i. answers q offset c h xs ++ answer_to q offset c (after q offset c h xs) x ∷ answers q offset c i ys) e;
        without = answers_append h xs ys;
      }
