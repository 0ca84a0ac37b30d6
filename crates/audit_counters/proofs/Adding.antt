-- Numbers raised at the targets that count, and numbers with marks added: how far they grow.
use mathlib.Core.Path.{◌≡◌, refl, sym, ap, ◌∙◌}
use mathlib.Core.Bool.{Bool, true, false}
use mathlib.Core.List.{List, [], ◌∷◌}
use Prim.Native.Nat.{ℕ, zero, suc, ◌+◌, ◌-◌, ◌*◌, ◌<◌, ◌≤◌}
use native.Mathlib.Omega.{arith}
use native.Mathlib.Numerals.{add-one}
use lib.ListN.{length, get_or, drop, replicate, length-replicate, get_or-replicate}
use lib.Seq.{ext_get_or}
use lib.Dec.{leb, eqb}
use borrow.Author.Tests.{leb-true, le-leb}
use Rattle.std.specs.List.{list_all, zip}
use Rattle.std.proofs.lemmas.Bool.Decides.{nat_tests}
use Rattle.lists.specs.Filter.{cons_if}
use Rattle.lists.specs.Raised.{raised_at}
use Rattle.lists.proofs.Every.{every_at, ∈-every}
use Rattle.lists.proofs.Filter.{length_filter}
use Rattle.lists.proofs.Member.{∈-get_or}
use Rattle.lists.proofs.Raised.{times, length-raised, length-raised_at, raised_at_times}
use Rattle.audit_ledger.specs.Booking.{max_counter}
use Rattle.audit_counters.specs.Targets.{targets_in, counted_targets, counts_at, raised_if, sums, small, Raisable, RaisableAt, max_groups}
use Rattle.audit_counters.proofs.Choosing.{length-targets, targets-at, chosen_end, chosen_step, chosen_names, chosen_fewer}

-- ---- numbers of 64 bits

pub small_at : (ns : List ℕ) → small ns ≡ true → (i : ℕ) → i < length ns → get_or ns i 0 ≤ max_counter
small_at ns e i h = leb-true (get_or ns i 0) max_counter (every_at (λ n. leb n max_counter) 0 ns e i h)

pub at_small : (ns : List ℕ) → ((i : ℕ) → i < length ns → get_or ns i 0 ≤ max_counter) → small ns ≡ true
at_small ns f = ∈-every (λ n. leb n max_counter) ns (λ x m. let (i, h, e) = ∈-get_or 0 x ns m in le-leb x max_counter (rw e (f i h)))

-- numbers only grow: they were of 64 bits before
pub small-before : (xs ns : List ℕ) → small (raised_at xs ns) ≡ true → small ns ≡ true
small-before xs ns e =
    at_small ns (λ i h. omega (arith, small_at (raised_at xs ns) e i (omega (arith, length-raised_at xs ns)), raised_at_times xs ns i h))

-- ---- raised one after the other

-- the counters raised by the first i entries
pub record RaisedSoFar (each : Bool) (n : ℕ) (entries counters₀ : List ℕ) (i : ℕ) (counters : List ℕ) : Type 0 where
  pub upto : i ≤ n
  pub rest : raised_at (counted_targets each (drop i (targets_in n entries))) counters ≡ raised_at (counted_targets each (targets_in n entries)) counters₀
  pub long : length counters ≡ length counters₀

raised_cons : (b : Bool) (x : ℕ) (xs ns : List ℕ) → raised_at (cons_if b x xs) ns ≡ raised_at xs (raised_if b x ns)
raised_cons true x xs ns = refl
raised_cons false x xs ns = refl

length-raised_if : (b : Bool) (x : ℕ) (ns : List ℕ) → length (raised_if b x ns) ≡ length ns
length-raised_if true x ns = length-raised x ns
length-raised_if false x ns = refl

module _ (each : Bool) (n : ℕ) (entries counters₀ : List ℕ) where
  module _ (i : ℕ) (counters : List ℕ) (s : RaisedSoFar each n entries counters₀ i counters) where
    pub raised_end : n ≤ i → counters ≡ raised_at (counted_targets each (targets_in n entries)) counters₀
    raised_end h = rw (chosen_end each (targets_in n entries) i (omega (arith, length-targets n entries))) at s.rest

    module _ (here : i < n) where
      within : i < length (targets_in n entries)
      within = omega (arith, length-targets n entries)

      -- the next can be raised, since it is named among those to come
      pub raised_one : Raisable each n entries counters₀ → RaisableAt n i entries counters
      raised_one p = record { room = p.targeted.room; one = here; inside = inside; fits = fits }
        where
          target : get_or (targets_in n entries) i 0 ≡ get_or entries (4 * i) 0
          target = targets-at n entries i here

          inside : get_or entries (4 * i) 0 < length counters
          inside = omega (arith, p.targeted.inside i here, s.long)

          named : 0 < times (get_or entries (4 * i) 0) (counted_targets each (drop i (targets_in n entries)))
          named = rw (← target) (chosen_names each (targets_in n entries) i within)

          fits : get_or counters (get_or entries (4 * i) 0) 0 < max_counter
          fits =
              let xs = counted_targets each (drop i (targets_in n entries)) in
              let e : small (raised_at xs counters) ≡ true = rw s.rest p.fits in
              omega
              (arith, named, small_at (raised_at xs counters) e (get_or entries (4 * i) 0) (omega (arith, inside, length-raised_at xs counters)), raised_at_times xs counters (get_or entries (4 * i) 0) inside)

      pub raised_next : (counters' : List ℕ) → counters' ≡ raised_if (counts_at each (targets_in n entries) i) (get_or entries (4 * i) 0) counters → RaisedSoFar each n entries counters₀ (i + 1) counters'
      raised_next counters' e = record { upto = omega arith; rest = rw (add-one, e) rest; long = rw e (length-raised_if (counts_at each (targets_in n entries) i) (get_or entries (4 * i) 0) counters ∙ s.long) }
        where
          rest : raised_at (counted_targets each (drop (suc i) (targets_in n entries))) (raised_if (counts_at each (targets_in n entries) i) (get_or entries (4 * i) 0) counters) ≡ raised_at (counted_targets each (targets_in n entries)) counters₀
          rest =
              rw (← targets-at n entries i here)
              (sym (raised_cons (counts_at each (targets_in n entries) i) (get_or (targets_in n entries) i 0) (counted_targets each (drop (suc i) (targets_in n entries))) counters)
              ∙ ap (λ xs. raised_at xs counters) (sym (chosen_step each (targets_in n entries) i within))
              ∙ s.rest)

-- ---- marks added

length-sums : (ns ms : List ℕ) → length (sums ns ms) ≡ length ns
length-sums [] ms = refl
length-sums (n ∷ ns) [] = ap suc (length-sums ns [])
length-sums (n ∷ ns) (m ∷ ms) = ap suc (length-sums ns ms)

pub sums_at : (ns ms : List ℕ) (i : ℕ) → i < length ns → get_or (sums ns ms) i 0 ≡ get_or ns i 0 + get_or ms i 0
sums_at [] ms i h = absurd (omega arith)
sums_at (n ∷ ns) [] zero h = omega arith
sums_at (n ∷ ns) [] (suc i) h = sums_at ns [] i (omega arith)
sums_at (n ∷ ns) (m ∷ ms) zero h = refl
sums_at (n ∷ ns) (m ∷ ms) (suc i) h = sums_at ns ms i (omega arith)

-- where no mark is more than what its number lacks, the sums have 64 bits
pub sums_pass : (ns ms : List ℕ) → length ns ≤ length ms → ((i : ℕ) → get_or ns i 0 ≤ max_counter) → list_all (λ p. leb p.1 (max_counter - p.0)) (zip ns ms) ≡ small (sums ns ms)
sums_pass [] ms h f = refl
sums_pass (n ∷ ns) [] h f = absurd (omega arith)
sums_pass (n ∷ ns) (m ∷ ms) h f =
    let here : leb m (max_counter - n) ≡ leb (n + m) max_counter = (let e = f 0 in grind (arith, nat_tests)) in
    let rest = sums_pass ns ms (omega arith) (λ i. f (suc i)) in
    cc

-- ---- the marks of two reads

pub times_fewer : (x : ℕ) (xs : List ℕ) → times x xs ≤ length xs
times_fewer x xs = length_filter (eqb x) xs

module _ (xs ys : List ℕ) (k : ℕ) where
  abbrev marks : List ℕ
  marks = raised_at ys (raised_at xs (replicate k 0))

  length_marks : length marks ≡ k
  length_marks = length-raised_at ys (raised_at xs (replicate k 0)) ∙ length-raised_at xs (replicate k 0) ∙ length-replicate k 0

  pub marks_at : (ns : List ℕ) (i : ℕ) → i < length ns → get_or (raised_at ys (raised_at xs ns)) i 0 ≡ get_or ns i 0 + times i xs + times i ys
  marks_at ns i h = raised_at_times ys (raised_at xs ns) i (omega (arith, length-raised_at xs ns)) ∙ ap (λ v. v + times i ys) (raised_at_times xs ns i h)

  zeros_at : (i : ℕ) → i < k → get_or marks i 0 ≡ times i xs + times i ys
  zeros_at i h = omega (arith, marks_at (replicate k 0) i (omega (arith, length-replicate {A = ℕ} k 0)), get_or-replicate {A = ℕ} k i 0 0 h)

  -- none is more than the raises
  marks_small : length xs + length ys ≤ max_counter → small marks ≡ true
  marks_small h = at_small marks (λ i b. omega (arith, zeros_at i (omega (arith, length_marks)), times_fewer i xs, times_fewer i ys))

  -- added to numbers they are these numbers raised
  marks_added : (ns : List ℕ) → length ns ≤ k → sums ns marks ≡ raised_at ys (raised_at xs ns)
  marks_added ns h =
      ext_get_or 0 (sums ns marks) (raised_at ys (raised_at xs ns)) (length-sums ns marks ∙ sym (length-raised_at ys (raised_at xs ns) ∙ length-raised_at xs ns))
      (λ i b. let l : i < length ns = omega (arith, length-sums ns marks) in omega (arith, sums_at ns marks i l, zeros_at i (omega arith), marks_at ns i l))

abbrev pub clear : List ℕ
clear = replicate 4096 0

module _ (xs once : List ℕ) (e : once ≡ raised_at xs clear) where
  -- marks raised by one read can be raised by another
  pub marks_raisable : (each : Bool) (n : ℕ) (entries : List ℕ) → length xs ≤ max_groups → n ≤ max_groups → 4 * n ≤ length entries → ((i : ℕ) → i < n → get_or entries (4 * i) 0 < 4096) → Raisable each n entries once
  marks_raisable each n entries few h room inside =
      record {
        targeted = record { room = room; inside = λ i b. omega (arith, inside i b, ap length e, length_marks xs [] 4096) };
        fits = rw e (marks_small xs (counted_targets each (targets_in n entries)) 4096 (omega (arith, few, chosen_fewer each (targets_in n entries), length-targets n entries)));
      }

  -- added to counters, those of both are the counters raised by both
  pub marks_fit : (ys twice counters : List ℕ) → twice ≡ raised_at ys once → length counters ≤ 4096 → small (sums counters twice) ≡ small (raised_at ys (raised_at xs counters))
  marks_fit ys twice counters f h = ap (λ ms. small (sums counters ms)) (f ∙ ap (raised_at ys) e) ∙ ap small (marks_added xs ys 4096 counters h)

pub few_chosen : (each : Bool) (n : ℕ) (entries : List ℕ) → n ≤ max_groups → length (counted_targets each (targets_in n entries)) ≤ max_groups
few_chosen each n entries h = omega (arith, chosen_fewer each (targets_in n entries), length-targets n entries)
