-- One fragment of a list, as its function has it.
use mathlib.Core.Path.{◌≡◌, refl, sym, ap, subst, ◌∙◌}
use mathlib.Core.Logic.{◌⊎◌, inl, inr}
use mathlib.Core.List.{List, [], ◌++◌, append_assoc}
use Prim.Native.Nat.{ℕ, zero, suc, ◌+◌, ◌-◌, ◌*◌, ◌≤◌, ◌<◌}
use native.Mathlib.Omega.{arith}
use native.Mathlib.Numerals.{add-one}
use native.Mathlib.Nat.{mul-suc}
use lib.ListN.{length, get_or, take, drop}
use borrow.Rule.Slice.PartMut.{put_mid, Post-is}
use Rattle.lists.specs.Cut.{window, cut}
use Rattle.lists.proofs.Cut.{length-window}
use Rattle.buffers.specs.Placed.{placed}
use Rattle.map_by_index.specs.Work.{Way}
use Rattle.audit_ledger.specs.Booking.{Counters}
use Rattle.audit_model.specs.declared.calls.FragmentAudit.{FragmentAudit}
use Rattle.audit_model.specs.declared.settings.MateRole.{MateRole}
use Rattle.audit_model.specs.Settings.{Held}
use Rattle.audit_model.specs.Opening.{IndexLent}
use Rattle.audit_model.specs.Observing.{MateRead}
use Rattle.audit_model.specs.Run.{Call}
use Rattle.audit_model.specs.Calls.{mate_of, fragment_of, fragment_outcome}
use Rattle.audit_codes.specs.Codes.{role_of, is_set}
use Rattle.audit_tested.specs.Tested.{TestedAudited}
use Rattle.batch_lists.specs.Lists.{ReadLists, read_at}
use Rattle.batch_lists.specs.Listed.{outcome_rows}
use Rattle.batch_fragments.specs.Listed.{call_at, FragmentListed}
use Rattle.batch_fragments.proofs.Mates.{length_reads, two_stand}
use Rattle.batch_fragments.proofs.Shares.{length_told, length_share}

-- where the share of the i-th fragment ends
share_within : (width i long : ℕ) → width * (i + 1) ≤ long → width * i + width ≤ long
share_within width i long h = omega (arith, e, h)
  where
    e : width * (i + 1) ≡ width * i + width
    e = ap (λ n. width * n) (add-one i) ∙ mul-suc width i

-- a read by its parts
pub read_is : (l : ReadLists) (i : ℕ) (role : MateRole) (code : ℕ) (bases : List ℕ) (mark : ℕ) (qualities : List ℕ) → role ≡ role_of code → code ≡ get_or l.roles i 0
    → bases ≡ get_or (cut l.base_ends l.bases) i [] → mark ≡ get_or l.marks i 0 → qualities ≡ get_or (cut l.quality_ends l.qualities) i []
    → mate_of role bases (is_set mark) qualities ≡ read_at l i
read_is l i role code bases mark qualities r c b m q = rw (r, c, b, m, q)

module _ (offset : ℕ) (ss : List (List ℕ)) (way : Way) (ranked : List ℕ) (h : Held) (lent : IndexLent) (l : ReadLists) (ordinal at n i width : ℕ) (rows entries : List ℕ)
    (room : width * (i + 1) ≤ length entries) (first second : MateRead) (one : first ≡ read_at l at) (two : second ≡ read_at l (at + 1))
    (a : FragmentAudit) (k : Counters) (part : List ℕ) (audited : TestedAudited offset ss way ranked h (fragment_of ordinal n first second) a k (window entries (width * i) (width * i + width - width * i)) part) where
  abbrev from : ℕ
  from = width * i

  abbrev call : Call
  call = call_at lent l ordinal at n (window entries from width)

  stood : TestedAudited offset ss way ranked h call.fragment a k (window entries from width) part
  stood =
      let gap : from + width - from ≡ width = omega arith in
      two_stand offset ss way ranked h l ordinal at n a k (window entries from width) part (rw (← one, ← two) (subst (λ m. TestedAudited offset ss way ranked h (fragment_of ordinal n first second) a k (window entries from m) part) gap audited))

  -- its rows have room
  pub rows-room : 8 * (at + n) ≤ length rows → 8 * at + length (outcome_rows n (fragment_outcome a.answer)) ≤ length rows
  rows-room h' =
      let e : length (outcome_rows n (fragment_outcome a.answer)) ≡ 8 * length call.fragment.reads =
      ap (λ m. length (outcome_rows m (fragment_outcome a.answer))) (sym (length_reads l at n))
      ∙ ap (λ o. length (outcome_rows (length call.fragment.reads) o)) stood.observed.answer ∙ length_told offset ss way ranked h call in
      omega (arith, e, length_reads l at n)

  pub fragment_listed : (rows' : List ℕ) → rows' ≡ placed (8 * at) (outcome_rows n (fragment_outcome a.answer)) rows
      → FragmentListed offset ss way ranked h call from at a.state k rows entries rows' (put_mid from (from + width - from) entries part)
  fragment_listed rows' told =
      record {
        held = stood.held;
        told = told ∙ ap (λ m. placed (8 * at) (outcome_rows m (fragment_outcome a.answer)) rows) (sym (length_reads l at n)) ∙ ap (λ o. placed (8 * at) (outcome_rows (length call.fragment.reads) o) rows) stood.observed.answer;
        left = ap (λ z. take from entries ++ (part ++ z)) (Post-is from (from + width) entries (omega arith)) ∙ sym (append_assoc (take from entries) part (drop (from + width) entries)) ∙ ap (λ m. take from entries ++ part ++ drop m entries) whole ∙ ap (λ p. placed from p entries) stood.observed.left;
      }
    where
      whole : from + width ≡ from + length part
      whole = omega (arith, ap length stood.observed.left, length_share offset ss way ranked h call, length-window entries from width (share_within width i (length entries) room))
