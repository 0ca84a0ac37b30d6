-- Books that count their reads, in numbers of 64 bits, agree with themselves.
use mathlib.Core.Path.{◌≡◌, refl, sym, ◌∙◌}
use mathlib.Core.Bool.{true, ◌&&◌}
use mathlib.Core.Logic.{inl, inr}
use mathlib.Core.List.{List, [], ◌∷◌, ◌++◌, map}
use Prim.Native.Nat.{ℕ, ◌+◌, ◌<◌, ◌≤◌}
use native.Mathlib.Omega.{arith}
use lib.ListN.{length, get_or}
use lib.Dec.{eqb, leb}
use borrow.Author.Tests.{eq-eqb, ne_eqb, leb-true, le-leb}
use Rattle.lists.specs.Member.{◌∈◌, Distinct}
use Rattle.lists.specs.Sum.{sum}
use Rattle.lists.proofs.Cases.{by_test}
use Rattle.lists.proofs.Member.{∈-append_left, ∈-append_right, get_or-∈}
use Rattle.lists.proofs.Every.{every-∈, ∈-every}
use Rattle.lists.proofs.Sum.{sum_same, sum_parts}
use Rattle.audit_ledger.specs.Booking.{Booked, Books, kept, max_counter, countable}
use Rattle.audit_ledger.specs.Balance.{agree, count_of, role_agrees, counters_agree, balanced}
use Rattle.audit_ledger.specs.Counting.{reads_in_state, reads_of, Counts}
use Rattle.audit_ledger.proofs.Growing.{length_filter_append}

-- ---- the reads of a role by state

module _ (role : ℕ) where
  -- a read is counted in its own state, by its role, and in no other
  reads_here : (b : Booked) (s : ℕ) → b.state ≡ s → reads_in_state role s (b ∷ []) ≡ reads_of role (b ∷ [])
  reads_here b s e = rw (eq-eqb b.state s e) (by_test (eqb b.role role) (λ f. rw f) (λ f. rw f))

  reads_elsewhere : (b : Booked) (s : ℕ) → (b.state ≡ s → ⊥) → reads_in_state role s (b ∷ []) ≡ 0
  reads_elsewhere b s h = rw (ne_eqb b.state s h) (by_test (eqb b.role role) (λ f. rw f) (λ f. rw f))

  sum_none : (b : Booked) (states : List ℕ) → (b.state ∈ states → ⊥) → sum (map (λ s. reads_in_state role s (b ∷ [])) states) ≡ 0
  sum_none b [] h = refl
  sum_none b (s ∷ states) h = omega (arith, reads_elsewhere b s (λ e. h (inl e)), sum_none b states (λ m. h (inr m)))

  sum_one : (b : Booked) (states : List ℕ) → Distinct states → b.state ∈ states → sum (map (λ s. reads_in_state role s (b ∷ [])) states) ≡ reads_of role (b ∷ [])
  sum_one b [] d x'' = elim x'' [ ]
  sum_one b (s ∷ states) d (inl e) = omega (arith, reads_here b s e, sum_none b states (λ m. d.0 (rw (← e) m)))
  sum_one b (s ∷ states) d (inr m) = omega (arith, reads_elsewhere b s (λ e. d.0 (rw (← e) m)), sum_one b states d.1 m)

  sum_empty : (states : List ℕ) → sum (map (λ s. reads_in_state role s []) states) ≡ 0
  sum_empty [] = refl
  sum_empty (s ∷ states) = omega (arith, sum_empty states)

  -- the reads of a role are those of its states
  pub states_sum : (states : List ℕ) → Distinct states → (bs : List Booked) → ((b : Booked) → b ∈ bs → b.state ∈ states) → sum (map (λ s. reads_in_state role s bs) states) ≡ reads_of role bs
  states_sum states d [] h = sum_empty states
  states_sum states d (b ∷ bs) h =
      omega (
        arith,
        sum_parts (λ s. reads_in_state role s (b ∷ bs)) (λ s. reads_in_state role s (b ∷ [])) (λ s. reads_in_state role s bs) states
            (λ s m. length_filter_append (λ (c : Booked). eqb c.role role && eqb c.state s) (b ∷ []) bs),
        length_filter_append (λ (c : Booked). eqb c.role role) (b ∷ []) bs,
        sum_one b states d (h b (inl refl)),
        states_sum states d bs (λ c m. h c (inr m)),
      )

-- ---- numbers that are kept

module _ (books : Books) (c : countable books ≡ true) where
  -- each has 64 bits
  within : (n : ℕ) → n ∈ kept books → n ≤ max_counter
  unfolding countable
  within n m = leb-true n max_counter (every-∈ (λ k. leb k max_counter) (kept books) c n m)

  abbrev totals : List ℕ
  totals = books.ledger.placements ∷ books.ledger.singles ∷ books.ledger.multi ∷ []

  -- so has each of the ledger
  ledger_within : (n : ℕ) → n ∈ (books.ledger.table ++ books.ledger.reads ++ totals) → n ≤ max_counter
  ledger_within n m =
      let ns = books.ledger.table ++ books.ledger.reads ++ totals in
      let k = books.counters in
      within n (∈-append_left n (ns ++ k.placements ++ k.singles) k.multi (∈-append_left n (ns ++ k.placements) k.singles (∈-append_left n ns k.placements m)))

  reads_within : (role : ℕ) → role < length books.ledger.reads → get_or books.ledger.reads role 0 ≤ max_counter
  reads_within role h =
      let n = get_or books.ledger.reads role 0 in
      ledger_within n (∈-append_left n (books.ledger.table ++ books.ledger.reads) totals (∈-append_right n books.ledger.table books.ledger.reads (get_or-∈ 0 books.ledger.reads role h)))

  total_within : (n : ℕ) → n ∈ totals → n ≤ max_counter
  total_within n m = ledger_within n (∈-append_right n (books.ledger.table ++ books.ledger.reads) totals m)

-- a sum that is a number of 64 bits agrees with it
agrees : (ns : List ℕ) (total : ℕ) → sum ns ≡ total → total ≤ max_counter → agree ns total ≡ true
agrees ns total e h = rw (le-leb (sum ns) max_counter (omega arith), eq-eqb (sum ns) total e)

module _ (n : ℕ) (ranked : List ℕ) (bs : List Booked) (books : Books) (k : Counts n ranked bs books) (c : countable books ≡ true) where
  -- the counts of a role
  role_agrees_lem : (states : List ℕ) → Distinct states → ((s : ℕ) → s ∈ states → s < 6) → ((b : Booked) → b ∈ bs → b.state ∈ states) → (role : ℕ) → role < 3 → role < length books.ledger.reads → role_agrees states books.ledger role ≡ true
  role_agrees_lem states d hs hb role h l =
      agrees (map (count_of books.ledger.table role) states) (get_or books.ledger.reads role 0)
      (sum_same (count_of books.ledger.table role) (λ s. reads_in_state role s bs) states (λ s m. k.states role s h (hs s m)) ∙ states_sum role states d bs hb ∙ sym (k.reads role h))
      (reads_within books c role l)

  counters_agree_lem : counters_agree books ≡ true
  counters_agree_lem =
      rw (
        agrees books.counters.placements books.ledger.placements (sym k.total_placements) (total_within books c books.ledger.placements (inl refl)),
        agrees books.counters.singles books.ledger.singles (sym k.total_singles) (total_within books c books.ledger.singles (inr (inl refl))),
        agrees books.counters.multi books.ledger.multi (sym k.total_multi) (total_within books c books.ledger.multi (inr (inr (inl refl)))),
      )

  -- whatever roles and states are shown, if each read has one of the states
  pub counts-balanced : (roles states : List ℕ) → ((r : ℕ) → r ∈ roles → r < 3) → Distinct states → ((s : ℕ) → s ∈ states → s < 6) → ((b : Booked) → b ∈ bs → b.state ∈ states) → 3 ≤ length books.ledger.reads → balanced roles states books ≡ true
  unfolding balanced
  counts-balanced roles states hr d hs hb l =
      rw (∈-every (role_agrees states books.ledger) roles (λ r m. role_agrees_lem states d hs hb r (hr r m) (omega (arith, hr r m)))) counters_agree_lem
