-- Lists that fit together, and the share of each fragment.
use Rattle.std.specs.Prelude.{Ok, Err}
use mathlib.Core.Path.{◌≡◌, refl, sym, ap, subst, ◌∙◌}
use Rattle.promises.specs.declared.refusal.Refusal.TheVariants as refusals
use mathlib.Core.Bool.{Bool, true, false, ◌&&◌}
use mathlib.Core.List.{List, [], ◌∷◌}
use Prim.Native.Nat.{ℕ, ◌*◌, ◌/◌, ◌≤◌}
use native.Mathlib.Omega.{arith}
use native.Mathlib.Nat.{mul-zero, mul_assoc}
use lib.ListN.{length}
use lib.Dec.{eqb}
use borrow.Author.Tests.{eqb-true}
use Rattle.lists.specs.Cut.{ends_within}
use Rattle.lists.specs.Sum.{sum}
use Rattle.lists.proofs.Cases.{and-true}
use Rattle.promises.specs.Refusal.{unless, outcome}
use Rattle.map_every_start.specs.Entries.{entry_count}
use Rattle.map_by_index.specs.Work.{Way}
use Rattle.audit_ledger.specs.Booking.{Counters}
use Rattle.audit_model.specs.declared.settings.AuditState.{AuditState}
use Rattle.audit_model.specs.Settings.{Held}
use Rattle.audit_model.specs.Opening.{IndexLent}
use Rattle.batch_lists.specs.Lists.{FragmentLists, fragments_from, fragments_in, counts_fit, lengths_fit, ends_fit, codes_fit, lists_fit}
use Rattle.batch_lists.specs.Listed.{share_width, calls_of}
use Rattle.batch_fragments.specs.Listed.{ListsLent, ListAudited}
use Rattle.batch_audit.specs.Tested.{TestedList}

-- ---- what fits

module _ (l : FragmentLists) (rows : List ℕ) (fit : lists_fit l (length rows) ≡ true) where
  abbrev reads : ℕ
  reads = length l.reads.roles

  abbrev long : Bool
  long = lengths_fit reads (length l.reads.base_ends) (length l.reads.marks) (length l.reads.quality_ends) (length rows)

  -- the tests one by one
  parts : ((counts_fit l ≡ true) × (long ≡ true)) × ((ends_fit l.reads ≡ true) × (codes_fit l.reads ≡ true))
  parts =
      let a = and-true (counts_fit l && long && ends_fit l.reads) (codes_fit l.reads) fit in
      let b = and-true (counts_fit l && long) (ends_fit l.reads) a.0 in
      let c = and-true (counts_fit l) long b.0 in
      ((c.0, c.1), (b.1, a.1))

  -- so the list can be gone through
  pub lists_lent : (share : ℕ) (entries : List ℕ) → share * length l.ordinals ≤ entry_count entries → ListsLent l (4 * share) rows entries
  lists_lent share entries few =
      record {
        reads_lent = record { bases_right = e.0; qualities_right = e.1 };
        counted = eqb-true (length l.counts) (length l.ordinals) n.0;
        rows-lent = eqb-true (length rows) (8 * reads) r.1 ∙ ap (λ k. 8 * k) (sym (eqb-true (sum l.counts) reads n.1));
        shared = omega (arith, few, mul_assoc 4 share (length l.ordinals));
      }
    where
      e : (ends_within 0 (length l.reads.bases) l.reads.base_ends ≡ true) × (ends_within 0 (length l.reads.qualities) l.reads.quality_ends ≡ true)
      e = and-true (ends_within 0 (length l.reads.bases) l.reads.base_ends) (ends_within 0 (length l.reads.qualities) l.reads.quality_ends) parts.1.0

      n : (eqb (length l.counts) (length l.ordinals) ≡ true) × (eqb (sum l.counts) reads ≡ true)
      n = and-true (eqb (length l.counts) (length l.ordinals)) (eqb (sum l.counts) reads) parts.0.0

      r : ((eqb (length l.reads.base_ends) reads && eqb (length l.reads.marks) reads && eqb (length l.reads.quality_ends) reads) ≡ true) × (eqb (length rows) (8 * reads) ≡ true)
      r = and-true (eqb (length l.reads.base_ends) reads && eqb (length l.reads.marks) reads && eqb (length l.reads.quality_ends) reads) (eqb (length rows) (8 * reads)) parts.0.1

-- ---- the answer

module _ (offset : ℕ) (ss : List (List ℕ)) (way : Way) (ranked : List ℕ) (lent : IndexLent) (h : Held) (l : FragmentLists) (rows entries : List ℕ) where
  -- 25, and nothing is touched
  pub unfit : lists_fit l (length rows) ≡ false → TestedList offset ss way ranked lent h l (record { answer = Err refusals.ReadList; state = h.state }) h.counters rows entries rows entries
  unfit e =
      record {
        answer = ap (λ b. outcome (unless b 25) tt) (sym e);
        untouched = λ n. (refl, refl, refl);
        audited = λ z. absurd (omega (arith, z, ap (λ b. unless b 25) e));
      }

  -- however wide a share is where there is no fragment
  wide : (os ns : List ℕ) (w w' : ℕ) → ((length os ≡ 0 → ⊥) → w ≡ w') → (state : AuditState) (k : Counters) (rows' entries' : List ℕ)
      → ListAudited offset ss way ranked h (calls_of lent w entries (fragments_from l.reads 0 os ns)) (w * length os) state k rows' entries entries'
      → ListAudited offset ss way ranked h (calls_of lent w' entries (fragments_from l.reads 0 os ns)) (w' * length os) state k rows' entries entries'
  wide [] ns w w' e state k rows' entries' a = rw mul-zero (rw mul-zero at a)
  wide (o ∷ os) ns w w' e state k rows' entries' a = subst (λ z. ListAudited offset ss way ranked h (calls_of lent z entries (fragments_from l.reads 0 (o ∷ os) ns)) (z * length (o ∷ os)) state k rows' entries entries') (e (λ z. omega (arith, z))) a

  -- all are audited
  pub fitting : lists_fit l (length rows) ≡ true → (share : ℕ) → ((length l.ordinals ≡ 0 → ⊥) → share ≡ entry_count entries / length l.ordinals)
      → (state : AuditState) (k : Counters) (rows' entries' : List ℕ)
      → ListAudited offset ss way ranked h (calls_of lent (4 * share) entries (fragments_in l)) (4 * share * length l.ordinals) state k rows' entries entries'
      → TestedList offset ss way ranked lent h l (record { answer = Ok tt; state = state }) k rows entries rows' entries'
  fitting e share equal state k rows' entries' a =
      record {
        answer = ap (λ b. outcome (unless b 25) tt) (sym e);
        untouched = λ n. absurd (n (ap (λ b. unless b 25) e));
        audited = λ z. wide l.ordinals l.counts (4 * share) (share_width entries (length l.ordinals)) (λ n. ap (λ m. 4 * m) (equal n)) state k rows' entries' a;
      }
