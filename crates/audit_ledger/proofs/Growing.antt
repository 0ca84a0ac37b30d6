-- Books that grew by some reads: by none, by one, by reads in two parts, by all that were booked.
use mathlib.Core.Path.{◌≡◌, refl, sym, ap, ◌∙◌}
use mathlib.Core.Bool.{Bool, true, false, ◌&&◌, ◌||◌, or_assoc}
use mathlib.Core.Logic.{inl, inr}
use mathlib.Core.List.{List, [], ◌∷◌, ◌++◌, append-nil, append_assoc, map-append}
use Prim.Native.Nat.{ℕ, ◌+◌, ◌<◌}
use native.Mathlib.Omega.{arith}
use lib.ListN.{length, get_or, length-append}
use lib.Dec.{eqb, ltb}
use borrow.Author.Tests.{eqb-true, eq-eqb}
use Rattle.lists.specs.Filter.{filter, cons_if}
use Rattle.lists.specs.Member.{◌∈◌}
use Rattle.lists.specs.Raised.{raised}
use Rattle.lists.specs.Sum.{sum}
use Rattle.lists.proofs.Cases.{by_test, clash, and-true}
use Rattle.lists.proofs.Filter.{filter_append}
use Rattle.lists.proofs.Raised.{raised_here, raised_elsewhere, raised_at_times, raised_at_other}
use Rattle.lists.proofs.Sum.{sum-raised_at}
use Rattle.map_places.specs.Place.{Place}
use Rattle.audit_ledger.specs.Booking.{Booked, Books, cell, targets_of, single_targets, multi_targets, booked_one, booked_all}
use Rattle.audit_ledger.specs.Balance.{count_of}
use Rattle.audit_ledger.specs.Counting.{reads_in_state, reads_of, any_indeterminate, groups_on, all_groups, lies_on, placements_on, singles_on, multi_on, Bookable, Ranked}
use Rattle.audit_ledger.proofs.Targets.{single_times, multi_times, targets-∈, single-∈, multi-∈}
use Rattle.audit_ledger.proofs.Booking.{one_lengths}

-- books of 18 counts, 3 roles and n targets
pub record Sized (n : ℕ) (books : Books) : Type 0 where
  pub table : length books.ledger.table ≡ 18
  pub reads : length books.ledger.reads ≡ 3
  pub placements : length books.counters.placements ≡ n
  pub singles : length books.counters.singles ≡ n
  pub multi : length books.counters.multi ≡ n

-- what the reads add to each number
pub record Grown (n : ℕ) (ranked : List ℕ) (bs : List Booked) (books after : Books) : Type 0 where
  pub states : (role state : ℕ) → role < 3 → state < 6 → count_of after.ledger.table role state ≡ count_of books.ledger.table role state + reads_in_state role state bs
  pub reads : (role : ℕ) → role < 3 → get_or after.ledger.reads role 0 ≡ get_or books.ledger.reads role 0 + reads_of role bs
  pub placements : (t : ℕ) → t < n → get_or after.counters.placements t 0 ≡ get_or books.counters.placements t 0 + placements_on ranked t bs
  pub singles : (t : ℕ) → t < n → get_or after.counters.singles t 0 ≡ get_or books.counters.singles t 0 + singles_on ranked t bs
  pub multi : (t : ℕ) → t < n → get_or after.counters.multi t 0 ≡ get_or books.counters.multi t 0 + multi_on ranked t bs
  pub other_placements : (t : ℕ) → (t ∈ ranked → ⊥) → get_or after.counters.placements t 0 ≡ get_or books.counters.placements t 0
  pub other_singles : (t : ℕ) → (t ∈ ranked → ⊥) → get_or after.counters.singles t 0 ≡ get_or books.counters.singles t 0
  pub other_multi : (t : ℕ) → (t ∈ ranked → ⊥) → get_or after.counters.multi t 0 ≡ get_or books.counters.multi t 0
  pub total_placements : after.ledger.placements + sum books.counters.placements ≡ books.ledger.placements + sum after.counters.placements
  pub total_singles : after.ledger.singles + sum books.counters.singles ≡ books.ledger.singles + sum after.counters.singles
  pub total_multi : after.ledger.multi + sum books.counters.multi ≡ books.ledger.multi + sum after.counters.multi
  pub indeterminate : after.ledger.indeterminate ≡ (books.ledger.indeterminate || any_indeterminate bs)

-- ---- by one read

-- a number that is raised where a test passes, and only there
added : (at : ℕ) (ns : List ℕ) (i : ℕ) (b : Booked) (c : Bool) → i < length ns → (c ≡ true → i ≡ at) → (i ≡ at → c ≡ true) → get_or (raised at ns) i 0 ≡ get_or ns i 0 + length (cons_if c b [])
added at ns i b true h f g = omega (arith, raised_here at ns i h (f refl))
added at ns i b false h f g = omega (arith, raised_elsewhere at ns i (λ e. clash (g e) refl))

module _ (n : ℕ) (ranked : List ℕ) (r : Ranked n ranked) (b : Booked) (k : Bookable (length ranked) b) (books : Books) (s : Sized n books) where
  -- each target of the read has a rank
  of_read : (t : ℕ) → t ∈ targets_of ranked b.groups → t ∈ ranked
  of_read = targets-∈ ranked b.groups k.ranked

  of_single : (t : ℕ) → t ∈ single_targets (targets_of ranked b.groups) → t ∈ ranked
  of_single t m = of_read t (single-∈ t (targets_of ranked b.groups) m)

  of_multi : (t : ℕ) → t ∈ multi_targets (targets_of ranked b.groups) → t ∈ ranked
  of_multi t m = of_read t (multi-∈ t (targets_of ranked b.groups) m)

  one_states : (role state : ℕ) → role < 3 → state < 6 → count_of (booked_one ranked b books).ledger.table role state ≡ count_of books.ledger.table role state + reads_in_state role state (b ∷ [])
  one_states role state hr hs =
      added _ books.ledger.table (cell role state) b (eqb b.role role && eqb b.state state) (omega (arith, s.table))
      (λ e. let f = and-true (eqb b.role role) (eqb b.state state) e in omega (arith, eqb-true b.role role f.0, eqb-true b.state state f.1))
      (λ e. rw (eq-eqb b.role role (omega (arith, k.state)), eq-eqb b.state state (omega (arith, k.state))))

  one_reads : (role : ℕ) → role < 3 → get_or (booked_one ranked b books).ledger.reads role 0 ≡ get_or books.ledger.reads role 0 + reads_of role (b ∷ [])
  one_reads role hr =
      added _ books.ledger.reads role b (eqb b.role role) (omega (arith, s.reads)) (λ e. omega (arith, eqb-true b.role role e)) (λ e. eq-eqb b.role role (omega arith))

  -- a read that was booked is added
  pub one_grown : Grown n ranked (b ∷ []) books (booked_one ranked b books)
  one_grown =
      record {
        states = one_states;
        reads = one_reads;
        placements = λ t h.
            omega (arith, raised_at_times (targets_of ranked b.groups) books.counters.placements t (omega (arith, s.placements)), ap (groups_on ranked t) (append-nil b.groups));
        singles = λ t h. omega (arith, raised_at_times (single_targets (targets_of ranked b.groups)) books.counters.singles t (omega (arith, s.singles)), single_times ranked t b);
        multi = λ t h. omega (arith, raised_at_times (multi_targets (targets_of ranked b.groups)) books.counters.multi t (omega (arith, s.multi)), multi_times ranked t b);
        other_placements = λ t h. omega (arith, raised_at_other (targets_of ranked b.groups) books.counters.placements t (λ m. h (of_read t m)));
        other_singles = λ t h. omega (arith, raised_at_other (single_targets (targets_of ranked b.groups)) books.counters.singles t (λ m. h (of_single t m)));
        other_multi = λ t h. omega (arith, raised_at_other (multi_targets (targets_of ranked b.groups)) books.counters.multi t (λ m. h (of_multi t m)));
        total_placements = omega (arith, sum-raised_at (targets_of ranked b.groups) books.counters.placements (λ t m. omega (arith, s.placements, r.inside t (of_read t m))));
        total_singles = omega (arith, sum-raised_at (single_targets (targets_of ranked b.groups)) books.counters.singles (λ t m. omega (arith, s.singles, r.inside t (of_single t m))));
        total_multi = omega (arith, sum-raised_at (multi_targets (targets_of ranked b.groups)) books.counters.multi (λ t m. omega (arith, s.multi, r.inside t (of_multi t m))));
        indeterminate = by_test books.ledger.indeterminate (λ e. rw e) (λ e. by_test (eqb b.state 2) (λ f. rw (e, f)) (λ f. rw (e, f)));
      }

-- ---- by reads in two parts

-- those that pass in two parts
pub length_filter_append : {A : Type 0} (p : A → Bool) (xs ys : List A) → length (filter p (xs ++ ys)) ≡ length (filter p xs) + length (filter p ys)
length_filter_append p xs ys = ap length (filter_append p xs ys) ∙ length-append (filter p xs) (filter p ys)

groups_append : (bs ds : List Booked) → all_groups (bs ++ ds) ≡ all_groups bs ++ all_groups ds
groups_append [] ds = refl
groups_append (b ∷ bs) ds = ap (λ gs. b.groups ++ gs) (groups_append bs ds) ∙ sym (append_assoc b.groups (all_groups bs) (all_groups ds))

placements_append : (ranked : List ℕ) (t : ℕ) (bs ds : List Booked) → placements_on ranked t (bs ++ ds) ≡ placements_on ranked t bs + placements_on ranked t ds
placements_append ranked t bs ds =
    ap (groups_on ranked t) (groups_append bs ds) ∙ ap (λ ts. length (filter (eqb t) ts)) (map-append (λ (p : Place). get_or ranked p.rank 0) (all_groups bs) (all_groups ds))
    ∙ length_filter_append (eqb t) (targets_of ranked (all_groups bs)) (targets_of ranked (all_groups ds))

indeterminate_append : (bs ds : List Booked) → any_indeterminate (bs ++ ds) ≡ (any_indeterminate bs || any_indeterminate ds)
indeterminate_append [] ds = refl
indeterminate_append (b ∷ bs) ds = by_test (eqb b.state 2) (λ e. rw e) (λ e. rw e (indeterminate_append bs ds))

module _ (n : ℕ) (ranked : List ℕ) (bs ds : List Booked) (books between after : Books) where
  -- by the first, then by the others
  pub grown_append : Grown n ranked bs books between → Grown n ranked ds between after → Grown n ranked (bs ++ ds) books after
  grown_append f g =
      record {
        states = λ role state hr hs. omega (arith, f.states role state hr hs, g.states role state hr hs, length_filter_append (λ (b : Booked). eqb b.role role && eqb b.state state) bs ds);
        reads = λ role hr. omega (arith, f.reads role hr, g.reads role hr, length_filter_append (λ (b : Booked). eqb b.role role) bs ds);
        placements = λ t h. omega (arith, f.placements t h, g.placements t h, placements_append ranked t bs ds);
        singles = λ t h. omega (arith, f.singles t h, g.singles t h, length_filter_append (λ (b : Booked). eqb (length b.groups) 1 && lies_on ranked t b) bs ds);
        multi = λ t h. omega (arith, f.multi t h, g.multi t h, length_filter_append (λ (b : Booked). ltb 1 (length b.groups) && lies_on ranked t b) bs ds);
        other_placements = λ t h. omega (arith, f.other_placements t h, g.other_placements t h);
        other_singles = λ t h. omega (arith, f.other_singles t h, g.other_singles t h);
        other_multi = λ t h. omega (arith, f.other_multi t h, g.other_multi t h);
        total_placements = omega (arith, f.total_placements, g.total_placements);
        total_singles = omega (arith, f.total_singles, g.total_singles);
        total_multi = omega (arith, f.total_multi, g.total_multi);
        indeterminate = g.indeterminate ∙ ap (λ t. t || any_indeterminate ds) f.indeterminate
            ∙ or_assoc books.ledger.indeterminate (any_indeterminate bs) (any_indeterminate ds)
            ∙ ap (λ t. books.ledger.indeterminate || t) (sym (indeterminate_append bs ds));
      }

-- ---- by all

one_sized : (n : ℕ) (ranked : List ℕ) (b : Booked) (books : Books) → Sized n books → Sized n (booked_one ranked b books)
one_sized n ranked b books s =
    let l = one_lengths ranked b books in
    record {
      table = l.table ∙ s.table;
      reads = l.reads ∙ s.reads;
      placements = l.placements ∙ s.placements;
      singles = l.singles ∙ s.singles;
      multi = l.multi ∙ s.multi;
    }

-- booking adds each read, from any books on
pub booked_grown : (n : ℕ) (ranked : List ℕ) → Ranked n ranked → (bs : List Booked) → ((b : Booked) → b ∈ bs → Bookable (length ranked) b) → (books : Books) → Sized n books → Grown n ranked bs books (booked_all ranked bs books)
booked_grown n ranked r [] k books s =
    record {
      states = λ role state hr hs. omega arith;
      reads = λ role hr. omega arith;
      placements = λ t h. omega arith;
      singles = λ t h. omega arith;
      multi = λ t h. omega arith;
      other_placements = λ t h. refl;
      other_singles = λ t h. refl;
      other_multi = λ t h. refl;
      total_placements = omega arith;
      total_singles = omega arith;
      total_multi = omega arith;
      indeterminate = by_test books.ledger.indeterminate (λ e. rw e) (λ e. rw e);
    }
booked_grown n ranked r (b ∷ bs) k books s =
    let one = booked_one ranked b books in
    grown_append n ranked (b ∷ []) bs books one (booked_all ranked bs one)
    (one_grown n ranked r b (k b (inl refl)) books s)
    (booked_grown n ranked r bs (λ d m. k d (inr m)) one (one_sized n ranked b books s))
