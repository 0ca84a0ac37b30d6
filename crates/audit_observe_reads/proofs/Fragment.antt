-- The reads of a fragment observed one after the other.
use Rattle.std.specs.Prelude.{Result, Ok, Err}
use Rattle.promises.specs.declared.refusal.Refusal.{Refusal}
use Rattle.promises.specs.declared.refusal.Refusal.TheVariants as refusals
use mathlib.Core.Path.{◌≡◌, refl, sym, ap, ap₂, ◌∙◌}
use mathlib.Core.Bool.{Bool}
use mathlib.Core.List.{List, [], ◌∷◌, map}
use Prim.Native.Nat.{ℕ, suc, ◌+◌, ◌*◌, ◌/◌, ◌≤◌}
use native.Mathlib.Omega.{arith}
use lib.ListN.{length, take, drop}
use lib.Dec.{ltb}
use Rattle.lists.specs.Cut.{window}
use Rattle.lists.proofs.Cut.{length-window}
use Rattle.lists.proofs.Cases.{by_test}
use Rattle.promises.specs.Refusal.{refusal_number, accepted, outcome}
use Rattle.promises.proofs.Refusing.{or_none, outcome_accepted, outcome_number}
use Rattle.buffers.specs.Placed.{placed}
use Rattle.buffers.proofs.Placed.{placed-behind}
use Rattle.map_every_start.specs.Entries.{entry_count, cleared}
use Rattle.map_every_start.proofs.Going.{length-entries}
use Rattle.map_by_index.specs.Work.{Way}
use Rattle.map_answers.specs.Answer.{Row, answer_of, room_refusal}
use Rattle.map_answers.specs.declared.answer.Mapping.{Mapping}
use Rattle.map_answers.proofs.Concluding.{length-cleared}
use Rattle.map_search.proofs.Parts.{listed-room}
use Rattle.audit_model.specs.declared.calls.FragmentRows.{FragmentRows}
use Rattle.audit_model.specs.declared.calls.FragmentRows.TheVariants as fragments
use Rattle.audit_model.specs.declared.settings.AuditInputMode.{AuditInputMode}
use Rattle.audit_model.specs.declared.settings.AuditInputMode.TheVariants as modes
use Rattle.audit_model.specs.declared.settings.Settings.{Settings}
use Rattle.audit_model.specs.Observing.{Observed, observed_groups, observed_room, observed_listed, observed_entries, observed_row}
use Rattle.audit_model.specs.Fragment.{first_refusal, share_of, in_parts}
use Rattle.audit_model.specs.Calls.{mapping_row, fragment_outcome}
use Rattle.audit_model.proofs.Parts.{cleared_part}
use Rattle.audit_read_checks.specs.Checks.{by_mode}
use Rattle.audit_observe_read.specs.Observed.{as_observed, ReadObserved}
use Rattle.audit_observe_reads.specs.Reads.{observed_reads, SecondObserved, ReadsObserved}
use Rattle.audit_observe_reads.proofs.Filled.{Within, within_placed, within_cleared, within_zeros, cleared_self, left_in, left_length, left_written}

-- ---- shares

-- the share of a read is within the entries, and in a pair that of both
share_within : (m : AuditInputMode) (n : ℕ) → share_of m n ≤ n
share_within modes.SingleEnd n = omega arith
share_within modes.PairedEnd n = omega arith

shares_within : (m : AuditInputMode) (n : ℕ) → m ≡ modes.PairedEnd → share_of m n + share_of m n ≤ n
shares_within m n e = rw e (omega arith)

-- a share that is known
pub known_within : (m : AuditInputMode) (n share : ℕ) → share ≡ share_of m n → share ≤ n
known_within m n share e = omega (arith, share_within m n)

pub both_within : (m : AuditInputMode) (n share : ℕ) → share ≡ share_of m n → m ≡ modes.PairedEnd → share + share ≤ n
both_within m n share e k = omega (arith, shares_within m n k)

-- ---- one or two reads by mode

-- a refusal for room is 10
ten : (entries limit matched : ℕ) → (room_refusal entries limit matched ≡ 0 → ⊥) → room_refusal entries limit matched ≡ 10
ten entries limit matched ne =
    by_test (ltb entries matched)
    (λ e. by_test (ltb entries limit) (λ f. rw (e, f)) (λ f. absurd (ne (rw (e, f)))))
    (λ e. absurd (ne (rw e)))

module _ {A : Type 0} (f : A → ℕ) (x y : A) where
  -- a first refusal stands in either mode
  first_of_mode : (m : AuditInputMode) (n : ℕ) → f x ≡ suc n → first_refusal f (by_mode m x y) ≡ suc n
  first_of_mode modes.SingleEnd n e = rw e
  first_of_mode modes.PairedEnd n e = rw e

  -- without one there is the second, if any
  second_of_mode : (m : AuditInputMode) → m ≡ modes.PairedEnd → f x ≡ 0 → first_refusal f (by_mode m x y) ≡ f y
  second_of_mode m k e = rw (k, e) (or_none (f y))

  none_of_mode : (m : AuditInputMode) → m ≡ modes.SingleEnd → f x ≡ 0 → first_refusal f (by_mode m x y) ≡ 0
  none_of_mode m k e = rw (k, e)

-- an answer that is not a refusal
pub not_refused : (a : FragmentRows) (n : ℕ) (rows : List Row) → fragment_outcome (Ok a) ≡ outcome n rows → n ≡ 0
not_refused (fragments.Single m) n rows e = (outcome_accepted n rows (mapping_row m ∷ []) (sym e)).0
not_refused (fragments.Paired m) n rows e = (outcome_accepted n rows (mapping_row m.first ∷ mapping_row m.second ∷ []) (sym e)).0

-- ---- the reads of a fragment, in entries that were set to zero

module _ (s : Settings) (ss : List (List ℕ)) (way : Way) (ranked : List ℕ) (first : List ℕ) (f : Bool) (second : List ℕ) (g : Bool) (b b₁ : List ℕ) (zeros : b₁ ≡ cleared b) (share : ℕ) (shared : share ≡ share_of s.mode (entry_count b₁)) where
  abbrev x : Observed
  x = as_observed f first

  abbrev y : Observed
  y = as_observed g second

  abbrev room : Observed → ℕ
  room r = observed_room s ss (share_of s.mode (entry_count b)) r

  abbrev width : ℕ
  width = 4 * share_of s.mode (entry_count b)

  kept : length b₁ ≡ length b
  kept = ap length zeros ∙ length-cleared b

  share_is : share ≡ share_of s.mode (entry_count b)
  share_is = shared ∙ ap (λ n. share_of s.mode (n / 4)) kept

  -- a part of whole entries
  module _ (from : ℕ) (h : from + width ≤ 4 * entry_count b) (c : List ℕ) (same : length c ≡ length b) where
    count : entry_count (window c from width) ≡ share_of s.mode (entry_count b)
    count = let l = length-window c from width (omega arith) in omega (arith, l)

    -- it is zero where it is as it was
    zero_part : window c from width ≡ window (cleared b) from width → window c from width ≡ cleared (window c from width)
    zero_part e =
        let z : window c from width ≡ cleared (window b from width) = e ∙ cleared_part from (share_of s.mode (entry_count b)) b h in
        z ∙ sym (cleared_self (window b from width)) ∙ ap (λ l. cleared l) (sym z)

  one_fits : 0 + width ≤ 4 * entry_count b
  one_fits = omega (arith, share_within s.mode (entry_count b))

  module _ (r : Result Mapping Refusal) (b₂ : List ℕ) (observed : ReadObserved s ss way ranked first f 0 (4 * share) r b₁ b₂) where
    here : ReadObserved s ss way ranked first f 0 width r (cleared b) b₂
    here = rw (← share_is, ← zeros) observed

    said : answer_of r ≡ outcome (room x) (observed_row s ss way x)
    said = here.answer ∙ ap (λ n. outcome (observed_room s ss n x) (observed_row s ss way x)) (count 0 one_fits (cleared b) (length-cleared b))

    -- nothing behind the last whole entry is touched
    first_within : Within b b₂
    first_within =
        let l = left_length s ss ranked first f (window (cleared b) 0 width) in
        let n = length-window (cleared b) 0 width (omega (arith, one_fits, length-cleared b)) in
        rw here.entries (within_placed b (cleared b) (within_zeros b) 0 (left_in s ss ranked first f (window (cleared b) 0 width)) (omega (arith, one_fits, l, n)))

    -- the first read is refused
    pub one_refused : (e : Refusal) → r ≡ Err e → (b₃ : List ℕ) → b₃ ≡ cleared b₂ → ReadsObserved s ss way ranked (observed_reads s f first g second) (Err refusals.PlacementRoom) b b₃
    one_refused e told b₃ z =
        let t = outcome_number (room x) (refusal_number e) (observed_row s ss way x) (sym said ∙ ap answer_of told) in
        let u : room x ≡ 10 = ten (share_of s.mode (entry_count b)) s.limit (length (observed_groups s ss x)) (λ v. t.1 (sym t.0 ∙ v)) in
        let q : first_refusal room (by_mode s.mode x y) ≡ 10 = first_of_mode room x y s.mode 9 u in
        record { answer = rw q; entries = rw q (z ∙ within_cleared b b₂ first_within) }

    module _ (m : Mapping) (e : r ≡ Ok m) where
      one_said : (room x ≡ 0) × (observed_row s ss way x ≡ mapping_row m)
      one_said = outcome_accepted (room x) (observed_row s ss way x) (mapping_row m) (sym said ∙ ap answer_of e)

      one_written : b₂ ≡ placed 0 (observed_entries s ss ranked x) (cleared b)
      one_written =
          let c = count 0 one_fits (cleared b) (length-cleared b) in
          here.entries ∙ left_written s ss ranked first 0 width (cleared b) (omega (arith, one_fits, length-cleared b)) f (zero_part 0 one_fits (cleared b) (length-cleared b) refl) (ap (λ n. observed_room s ss n x) c ∙ one_said.0)

      -- a read alone
      pub one_mapped : s.mode ≡ modes.SingleEnd → ReadsObserved s ss way ranked (observed_reads s f first g second) (Ok (fragments.Single m)) b b₂
      one_mapped k =
          let q : first_refusal room (by_mode s.mode x y) ≡ 0 = none_of_mode room x y s.mode k one_said.0 in
          record { answer = rw q (single s.mode k); entries = rw q (one_written ∙ alone s.mode k) }
        where
          single : (mode : AuditInputMode) → mode ≡ modes.SingleEnd → accepted (mapping_row m ∷ []) ≡ accepted (map (observed_row s ss way) (by_mode mode x y))
          single mode k = rw (k, one_said.1)

          alone : (mode : AuditInputMode) → mode ≡ modes.SingleEnd → placed 0 (observed_entries s ss ranked x) (cleared b) ≡ in_parts width 0 (map (observed_entries s ss ranked) (by_mode mode x y)) (cleared b)
          alone mode k = rw k

      -- a pair
      module _ (k : s.mode ≡ modes.PairedEnd) (r₂ : Result FragmentRows Refusal) (b₃ : List ℕ) (observed₂ : SecondObserved s ss way ranked second g (4 * share) m r₂ b₂ b₃) where
        two_fit : width + width ≤ 4 * entry_count b
        two_fit = omega (arith, shares_within s.mode (entry_count b) k)

        there : SecondObserved s ss way ranked second g width m r₂ b₂ b₃
        there = rw (← share_is) observed₂

        -- the second part is as it was
        second_part : window b₂ width width ≡ window (cleared b) width width
        second_part =
            let z : 0 + width ≡ width = omega arith in
            let d : drop width b₂ ≡ drop width (cleared b) = ap (λ l. drop width l) one_written ∙ (rw z at (placed-behind 0 (observed_entries s ss ranked x) (cleared b) width first_short (omega (arith, one_fits, length-cleared b)))) in
            ap (λ l. take width l) d
          where
            first_short : length (observed_entries s ss ranked x) ≤ width
            first_short = omega (arith, length-entries ranked (length first) (observed_listed s ss x), listed-room (share_of s.mode (entry_count b)) s.limit (observed_groups s ss x) one_said.0)

        said₂ : fragment_outcome r₂ ≡ outcome (room y) (mapping_row m ∷ observed_row s ss way y ∷ [])
        said₂ = there.answer ∙ ap (λ n. outcome (observed_room s ss n y) (mapping_row m ∷ observed_row s ss way y ∷ [])) (count width two_fit b₂ first_within.same)

        rooms : first_refusal room (by_mode s.mode x y) ≡ room y
        rooms = second_of_mode room x y s.mode k one_said.0

        both_rows : (mode : AuditInputMode) → mode ≡ modes.PairedEnd → (mapping_row m ∷ observed_row s ss way y ∷ []) ≡ map (observed_row s ss way) (by_mode mode x y)
        both_rows mode k = rw (k, one_said.1)

        two_said : fragment_outcome r₂ ≡ outcome (first_refusal room (by_mode s.mode x y)) (map (observed_row s ss way) (by_mode s.mode x y))
        two_said = said₂ ∙ ap₂ (λ n rows. outcome n rows) (sym rooms) (both_rows s.mode k)

        second_within : Within b b₃
        second_within =
            let l = left_length s ss ranked second g (window b₂ width width) in
            let n = length-window b₂ width width (omega (arith, two_fit, first_within.same)) in
            rw there.entries (within_placed b b₂ first_within width (left_in s ss ranked second g (window b₂ width width)) (omega (arith, two_fit, l, n)))

        -- the second read is refused
        pub two_refused : (e₂ : Refusal) → r₂ ≡ Err e₂ → (b₄ : List ℕ) → b₄ ≡ cleared b₃ → ReadsObserved s ss way ranked (observed_reads s f first g second) (Err e₂) b b₄
        two_refused e₂ told b₄ z =
            let t = outcome_number (room y) (refusal_number e₂) (mapping_row m ∷ observed_row s ss way y ∷ []) (sym said₂ ∙ ap fragment_outcome told) in
            let u : room y ≡ 10 = ten (share_of s.mode (entry_count b)) s.limit (length (observed_groups s ss y)) (λ v. t.1 (sym t.0 ∙ v)) in
            let q : first_refusal room (by_mode s.mode x y) ≡ 10 = rooms ∙ u in
            record { answer = ap fragment_outcome (sym told) ∙ two_said; entries = rw q (z ∙ within_cleared b b₃ second_within) }

        -- both are mapped
        pub two_mapped : (rows : FragmentRows) → r₂ ≡ Ok rows → ReadsObserved s ss way ranked (observed_reads s f first g second) (Ok rows) b b₃
        two_mapped rows told =
            let u : room y ≡ 0 = not_refused rows (room y) (mapping_row m ∷ observed_row s ss way y ∷ []) (ap fragment_outcome (sym told) ∙ said₂) in
            let q : first_refusal room (by_mode s.mode x y) ≡ 0 = rooms ∙ u in
            let c = count width two_fit b₂ first_within.same in
            let w = left_written s ss ranked second width width b₂ (omega (arith, two_fit, first_within.same)) g (zero_part width two_fit b₂ first_within.same second_part) (ap (λ n. observed_room s ss n y) c ∙ u) in
            record { answer = ap fragment_outcome (sym told) ∙ two_said; entries = rw q (there.entries ∙ w ∙ ap (λ l. placed width (observed_entries s ss ranked y) l) one_written ∙ both_parts s.mode k) }
          where
            both_parts : (mode : AuditInputMode) → mode ≡ modes.PairedEnd → placed width (observed_entries s ss ranked y) (placed 0 (observed_entries s ss ranked x) (cleared b)) ≡ in_parts width 0 (map (observed_entries s ss ranked) (by_mode mode x y)) (cleared b)
            both_parts mode k =
                let z : width ≡ 0 + width = omega arith in
                rw k (ap (λ n. placed n (observed_entries s ss ranked y) (placed 0 (observed_entries s ss ranked x) (cleared b))) z)
