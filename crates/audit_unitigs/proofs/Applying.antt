-- The refusals of a sheet that is written, in the order of the tests, and what it writes.
use Rattle.std.specs.Prelude.{Ok, Err}
use Rattle.promises.specs.declared.refusal.Refusal.{Refusal}
use Rattle.promises.specs.declared.refusal.Refusal.TheVariants as refusals
use Rattle.promises.specs.Refusal.{refusal_number, refused}
use mathlib.Core.Path.{◌≡◌, refl, sym, ap, subst, ◌∙◌}
use mathlib.Core.Bool.{Bool, true, false, ◌&&◌}
use mathlib.Core.List.{List, [], ◌∷◌}
use Prim.Native.Nat.{ℕ, suc, ◌*◌}
use native.Mathlib.Omega.{arith}
use lib.ListN.{length}
use lib.Dec.{eqb}
use borrow.Author.Tests.{eqb-true}
use Rattle.lists.specs.Same.{same}
use Rattle.lists.proofs.Cases.{and-true}
use Rattle.catalogue.specs.Catalogue.{Catalogue, names, sequences, targets, targets_from, in_bounds}
use Rattle.catalogue.proofs.Checks.{bounded}
use Rattle.catalogue.proofs.Mapped.{sequence_count, mark_count, target_count}
use Rattle.audit_ledger.specs.Booking.{Counters, counters_for, CountersFor}
use Rattle.audit_ledger.proofs.Booking.{each_counter}
use Rattle.audit_model.specs.declared.sheet.Sheet.{Sheet}
use Rattle.audit_model.specs.Unitigs.{all_alike, apply_refusal}
use Rattle.audit_unitigs.specs.Rows.{names_alike, lists_for, rows_to, Named, RowsLent, Applies}
use Rattle.audit_unitigs.proofs.Comparing.{alike_lengths}
use Rattle.audit_unitigs.proofs.Writing.{rows_of_targets}

-- ---- targets in their bounds

-- two lists of targets are alike where names and marks are
alike-targets : (j j' : ℕ) (ns ss : List (List ℕ)) (ms : List ℕ) (ns' ss' : List (List ℕ)) (ms' : List ℕ) → length ss ≡ length ns → length ms ≡ length ns → length ss' ≡ length ns' → length ms' ≡ length ns'
    → all_alike (targets_from j ns ss ms) (targets_from j' ns' ss' ms') ≡ names_alike ns ms ns' ms'
alike-targets j j' [] ss ms [] ss' ms' a b a' b' = refl
alike-targets j j' [] ss ms (n ∷ ns) [] ms' a b a' b' = absurd (omega (arith, a'))
alike-targets j j' [] ss ms (n ∷ ns) (s ∷ ss') [] a b a' b' = absurd (omega (arith, b'))
alike-targets j j' [] ss ms (n ∷ ns) (s ∷ ss') (m ∷ ms') a b a' b' = refl
alike-targets j j' (n ∷ ns) [] ms ns' ss' ms' a b a' b' = absurd (omega (arith, a))
alike-targets j j' (n ∷ ns) (s ∷ ss) [] ns' ss' ms' a b a' b' = absurd (omega (arith, b))
alike-targets j j' (n ∷ ns) (s ∷ ss) (m ∷ ms) [] ss' ms' a b a' b' = refl
alike-targets j j' (n ∷ ns) (s ∷ ss) (m ∷ ms) (n' ∷ ns') [] ms' a b a' b' = absurd (omega (arith, a'))
alike-targets j j' (n ∷ ns) (s ∷ ss) (m ∷ ms) (n' ∷ ns') (s' ∷ ss') [] a b a' b' = absurd (omega (arith, b'))
alike-targets j j' (n ∷ ns) (s ∷ ss) (m ∷ ms) (n' ∷ ns') (s' ∷ ss') (m' ∷ ms') a b a' b' =
    ap (λ t. same n n' && eqb m m' && t) (alike-targets (suc j) (suc j') ns ss ms ns' ss' ms' (omega (arith, a)) (omega (arith, b)) (omega (arith, a')) (omega (arith, b')))

named : (c : Catalogue) → in_bounds c ≡ true → Named c.identifiers c.identifier_ends c.marks
named c t = record { right = (bounded c t).named; marked = (bounded c t).marked }

-- ---- the tests in their order

module _ (audited c : Catalogue) (sheet : Sheet) (k : Counters) (rows : List ℕ) where
  refuses : (e : Refusal) (m : ℕ) → refusal_number e ≡ suc m → apply_refusal audited c sheet k rows ≡ suc m → Applies audited c sheet k rows (Err e) rows
  refuses e m told f = record { answer = rw f (ap refused told); left = rw f }

  -- x tells whether the targets are in their bounds, y whether the audited ones are, r whether the lists are right, s whether the names are alike
  module _ (x : Bool) (of_targets : x ≡ in_bounds c) where
    pub targets_out : x ≡ false → Applies audited c sheet k rows (Err refusals.Catalogue) rows
    unfolding apply_refusal
    targets_out f = refuses refusals.Catalogue 1 refl (rw (← of_targets, f))

    module _ (in_x : x ≡ true) (y : Bool) (of_audited : y ≡ in_bounds audited) where
      t : in_bounds c ≡ true
      t = sym of_targets ∙ in_x

      pub audited_out : y ≡ false → Applies audited c sheet k rows (Err refusals.Catalogue) rows
      unfolding apply_refusal
      audited_out f = refuses refusals.Catalogue 1 refl (rw (t, ← of_audited, f))

      module _ (in_y : y ≡ true) where
        u : in_bounds audited ≡ true
        u = sym of_audited ∙ in_y

        pub both_named : Named audited.identifiers audited.identifier_ends audited.marks × Named c.identifiers c.identifier_ends c.marks
        both_named = (named audited u, named c t)

        module _ (r : Bool) (of_lists : r ≡ lists_for (length audited.marks) k (length c.marks) rows) where
          lists : (counters_for (length (targets audited)) k && eqb (length rows) (4 * length (targets c))) ≡ r
          lists = rw (target_count audited u, target_count c t) (sym of_lists)

          pub lists_out : r ≡ false → Applies audited c sheet k rows (Err refusals.Catalogue) rows
          unfolding apply_refusal
          lists_out f = refuses refusals.Catalogue 1 refl (rw (t, u, lists, f))

          module _ (in_r : r ≡ true) (s : Bool) (of_names : s ≡ names_alike (names audited) audited.marks (names c) c.marks) where
            alike : all_alike (targets audited) (targets c) ≡ s
            alike =
                alike-targets 0 0 (names audited) (sequences audited) audited.marks (names c) (sequences c) c.marks (sequence_count audited u) (mark_count audited u) (sequence_count c t) (mark_count c t)
                ∙ sym of_names

            pub names_out : s ≡ false → Applies audited c sheet k rows (Err refusals.ChangedTargets) rows
            unfolding apply_refusal
            names_out f = refuses refusals.ChangedTargets 18 refl (rw (t, u, lists ∙ in_r, alike ∙ f))

            module _ (in_s : s ≡ true) where
              pub rows-lent : RowsLent (length c.marks) k rows
              rows-lent =
                  let n : length audited.marks ≡ length c.marks =
                  omega (arith, alike_lengths (names audited) audited.marks (names c) c.marks (sym of_names ∙ in_s), mark_count audited u, mark_count c t) in
                  let a = length audited.marks in
                  let l = and-true (counters_for a k) (eqb (length rows) (4 * length c.marks)) (sym of_lists ∙ in_r) in
                  record { counters = subst (λ m. CountersFor m k) n (each_counter a k l.0); rows_right = eqb-true (length rows) (4 * length c.marks) l.1 }

              accepted : apply_refusal audited c sheet k rows ≡ 0
              unfolding apply_refusal
              accepted = rw (t, u, lists ∙ in_r, alike ∙ in_s)

              pub applies : (rows' : List ℕ) → rows' ≡ rows_to sheet.run.status c.marks k (length c.marks) → Applies audited c sheet k rows (Ok tt) rows'
              applies rows' w = record { answer = rw accepted; left = rw accepted (w ∙ sym (rows_of_targets sheet k c.marks (names c) (sequences c) (sequence_count c t) (mark_count c t))) }
