-- The steps of a fragment joined: whichever refuses first, or what was observed.
use Rattle.std.specs.Prelude.{Result, Err}
use Rattle.promises.specs.declared.refusal.Refusal.{Refusal}
use mathlib.Core.Path.{◌≡◌, refl, sym, ap, ap₂, subst, ◌∙◌}
use mathlib.Core.Bool.{Bool, true, false}
use mathlib.Core.List.{List, [], ◌∷◌, map}
use Prim.Native.Nat.{ℕ, ◌*◌}
use native.Mathlib.Omega.{arith}
use Rattle.promises.specs.Refusal.{refusal_number, unless, ◌or_else◌, outcome}
use Rattle.promises.proofs.Refusing.{stands, grouped, none_second, passed, outcome_refused, numbered}
use Rattle.map_every_start.specs.Entries.{entry_count, cleared}
use Rattle.map_by_index.specs.Work.{Way}
use Rattle.audit_ledger.specs.Booking.{Booked, booked_all, countable}
use Rattle.audit_model.specs.declared.calls.FragmentRows.{FragmentRows}
use Rattle.audit_model.specs.declared.settings.AuditInputMode.{AuditInputMode}
use Rattle.audit_model.specs.declared.settings.AuditInputMode.TheVariants as modes
use Rattle.audit_model.specs.declared.settings.Settings.{Settings}
use Rattle.audit_model.specs.Settings.{Held, held_books, role_number}
use Rattle.audit_model.specs.Observing.{MateRead, Observed, observe, observed_room, observed_entries, observed_row, mate_refusal, mate_booked, observed_booked}
use Rattle.audit_model.specs.Fragment.{Fragment, in_order, first_refusal, share_of, in_parts, entries_left, tested_books, tested_refusal, tested_rows, tested_written}
use Rattle.audit_model.specs.Calls.{fragment_outcome, fragment_reads, fragment_of}
use Rattle.audit_read_checks.specs.Checks.{by_mode}
use Rattle.audit_roles.specs.Order.{order_refusal, roles_fit}
use Rattle.audit_observe_fragment.specs.Observe.{observed_refusal, RankedObserved}
use Rattle.audit_tested.specs.Tested.{TestedObserved}
use Rattle.audit_tested.proofs.Chain.{untouched, roles_same, reads_by_mode, Other, other_reads}

-- ---- reads, and what was checked of them: whether they are searched, and their bases

module _ (offset : ℕ) (s : Settings) (m m' : MateRead) (one two : Observed) (first_is : one ≡ observe offset s m) (second_is : s.mode ≡ modes.PairedEnd → two ≡ observe offset s m') where
  pub by_mates : {A : Type 0} (g : Observed → A) → map g (by_mode s.mode one two) ≡ map (λ (r : MateRead). g (observe offset s r)) (by_mode s.mode m m')
  by_mates {A = A} g = go s.mode second_is
    where
      go : (mode : AuditInputMode) → (mode ≡ modes.PairedEnd → two ≡ observe offset s m') → map g (by_mode mode one two) ≡ map (λ (r : MateRead). g (observe offset s r)) (by_mode mode m m')
      go modes.SingleEnd e = ap {B = List A} (λ z. g z ∷ []) first_is
      go modes.PairedEnd e = ap₂ {C = List A} (λ y z. g y ∷ g z ∷ []) first_is (e refl)

  pub rooms_same : (g : Observed → ℕ) → first_refusal g (by_mode s.mode one two) ≡ first_refusal (λ (r : MateRead). g (observe offset s r)) (by_mode s.mode m m')
  rooms_same g = go s.mode second_is
    where
      go : (mode : AuditInputMode) → (mode ≡ modes.PairedEnd → two ≡ observe offset s m') → first_refusal g (by_mode mode one two) ≡ first_refusal (λ (r : MateRead). g (observe offset s r)) (by_mode mode m m')
      go modes.SingleEnd e = ap (λ z. g z or_else 0) first_is
      go modes.PairedEnd e = ap₂ (λ y z. g y or_else g z or_else 0) first_is (e refl)

  pub booked_same : (ss : List (List ℕ)) (way : Way) → by_mode s.mode (observed_booked s ss (role_number m.role) one) (observed_booked s ss (role_number m'.role) two) ≡ map (mate_booked offset s ss) (by_mode s.mode m m')
  booked_same ss way = go s.mode second_is
    where
      go : (mode : AuditInputMode) → (mode ≡ modes.PairedEnd → two ≡ observe offset s m') → by_mode mode (observed_booked s ss (role_number m.role) one) (observed_booked s ss (role_number m'.role) two) ≡ map (mate_booked offset s ss) (by_mode mode m m')
      go modes.SingleEnd e = ap {B = List Booked} (λ z. observed_booked s ss (role_number m.role) z ∷ []) first_is
      go modes.PairedEnd e = ap₂ {C = List Booked} (λ y z. observed_booked s ss (role_number m.role) y ∷ observed_booked s ss (role_number m'.role) z ∷ []) first_is (e refl)

-- ---- a fragment, from the check that refuses it, or from what was observed

module _ (offset : ℕ) (ss : List (List ℕ)) (way : Way) (ranked : List ℕ) (h : Held) (ordinal count : ℕ) (m m' : MateRead) (buffer : List ℕ) where
  abbrev f : Fragment
  f = fragment_of ordinal count m m'

  abbrev s : Settings
  s = h.state.settings

  abbrev order : ℕ
  order = order_refusal h.state.last ordinal s.mode count (role_number m.role) (role_number m'.role)

  -- 10 and 17
  abbrev rooms : ℕ
  rooms = first_refusal (λ (r : MateRead). observed_room s ss (share_of s.mode (entry_count buffer)) (observe offset s r)) (fragment_reads count m m') or_else unless (countable (tested_books offset ss ranked h f)) 17

  -- the checks of the reads, and 17
  abbrev rest : ℕ
  rest = first_refusal (mate_refusal offset s) (fragment_reads count m m') or_else rooms

  abbrev twelve : ℕ
  twelve = unless (in_order h.state.last ordinal) 12

  abbrev thirteen : ℕ
  thirteen = unless (roles_fit s.mode count (role_number m.role) (role_number m'.role)) 13

  -- the chain
  chain : tested_refusal offset ss ranked h f (entry_count buffer) ≡ (twelve or_else thirteen or_else rest)
  unfolding tested_refusal
  chain = ap (λ t. twelve or_else unless t 13 or_else rest) (roles_same s.mode count m m')

  abbrev Found : Result FragmentRows Refusal → List ℕ → Type 0
  Found r b = TestedObserved offset ss way ranked h f r buffer b

  -- a refusal that touches no entries
  stays : (refusal : Refusal) → tested_refusal offset ss ranked h f (entry_count buffer) ≡ refusal_number refusal → Other (refusal_number refusal) → Found (Err refusal) buffer
  stays refusal e o =
      record {
        answer = outcome_refused (refusal_number refusal) _ (numbered refusal) ∙ ap (λ z. outcome z (tested_rows offset ss ranked h f way)) (sym e);
        left = sym (ap (λ z. entries_left z (tested_written offset ss ranked h f buffer) buffer) e ∙ untouched (refusal_number refusal) (numbered refusal) o.0 o.1 (tested_written offset ss ranked h f buffer) buffer);
      }

  order_other : Other order
  order_other = go (in_order h.state.last ordinal) (roles_fit s.mode count (role_number m.role) (role_number m'.role))
    where
      go : (a b : Bool) → Other (unless a 12 or_else unless b 13)
      go true true = (λ e. omega arith, λ e. omega arith)
      go true false = (λ e. omega arith, λ e. omega arith)
      go false b = (λ e. omega arith, λ e. omega arith)

  -- 12 or 13
  pub by_order : (refusal : Refusal) → refusal_number refusal ≡ order → Found (Err refusal) buffer
  by_order refusal e = stays refusal (chain ∙ grouped twelve thirteen rest ∙ stands (refusal_number refusal) order rest (numbered refusal) (sym e)) (subst Other (sym e) order_other)

  module _ (ordered : order ≡ 0) where
    -- the reads are those of the mode
    reads_are : fragment_reads count m m' ≡ by_mode s.mode m m'
    reads_are =
        reads_by_mode s.mode count m m'
        (passed (roles_fit s.mode count (role_number m.role) (role_number m'.role)) 13 (λ z. omega arith) (none_second (unless (in_order h.state.last ordinal) 12) _ ordered))

    -- what is left of the chain
    rest_is : tested_refusal offset ss ranked h f (entry_count buffer) ≡ rest
    rest_is = chain ∙ grouped twelve thirteen rest ∙ ap (λ z. z or_else rest) ordered

    -- 7 or 14 to 16
    pub by_reads : (refusal : Refusal) → first_refusal (mate_refusal offset s) (by_mode s.mode m m') ≡ refusal_number refusal → Found (Err refusal) buffer
    by_reads refusal e =
        let g : first_refusal (mate_refusal offset s) (fragment_reads count m m') ≡ refusal_number refusal = ap (first_refusal (mate_refusal offset s)) reads_are ∙ e in
        stays refusal (rest_is ∙ stands (refusal_number refusal) _ rooms (numbered refusal) g) (subst Other g (other_reads offset s (fragment_reads count m m')))

    -- observed
    module _ (checked : first_refusal (mate_refusal offset s) (by_mode s.mode m m') ≡ 0) where
      rooms_are : tested_refusal offset ss ranked h f (entry_count buffer) ≡ rooms
      rooms_are = rest_is ∙ ap (λ z. z or_else rooms) (ap (first_refusal (mate_refusal offset s)) reads_are ∙ checked)

      -- said of the reads by mode
      abbrev Seen : List MateRead → Result FragmentRows Refusal → List ℕ → Type 0
      Seen reads r b =
          (fragment_outcome r ≡ outcome (refusal_of reads) (map (λ (r : MateRead). observed_row s ss way (observe offset s r)) reads)) × (b ≡ entries_left (refusal_of reads) (in_parts (4 * share_of s.mode (entry_count buffer)) 0 (map (λ (r : MateRead). observed_entries s ss ranked (observe offset s r)) reads) (cleared buffer)) buffer)
        where
          refusal_of : List MateRead → ℕ
          refusal_of ms = first_refusal (λ (r : MateRead). observed_room s ss (share_of s.mode (entry_count buffer)) (observe offset s r)) ms or_else unless (countable (booked_all ranked (map (mate_booked offset s ss) ms) (held_books h))) 17

      as_seen : (r : Result FragmentRows Refusal) (b : List ℕ) → Seen (by_mode s.mode m m') r b → Found r b
      as_seen r b seen =
          let z : Seen (fragment_reads count m m') r b = subst (λ (l : List MateRead). Seen l r b) (sym reads_are) seen in
          record { answer = z.0 ∙ ap (λ n. outcome n (tested_rows offset ss ranked h f way)) (sym rooms_are); left = z.1 ∙ ap (λ n. entries_left n (tested_written offset ss ranked h f buffer) buffer) (sym rooms_are) }

      -- the same said of what was checked of them
      module _ (one two : Observed) (first_is : one ≡ observe offset s m) (second_is : s.mode ≡ modes.PairedEnd → two ≡ observe offset s m') where
        abbrev number : ℕ
        number = observed_refusal s ss way ranked (role_number m.role) (role_number m'.role) one two h.state.ledger h.counters (entry_count buffer)

        number_is : number ≡ (first_refusal (λ (r : MateRead). observed_room s ss (share_of s.mode (entry_count buffer)) (observe offset s r)) (by_mode s.mode m m') or_else unless (countable (booked_all ranked (map (mate_booked offset s ss) (by_mode s.mode m m')) (held_books h))) 17)
        number_is =
            ap₂ (λ x l. x or_else unless (countable (booked_all ranked l (held_books h))) 17) (rooms_same offset s m m' one two first_is second_is (observed_room s ss (share_of s.mode (entry_count buffer)))) (booked_same offset s m m' one two first_is second_is ss way)

        -- so it was observed as a whole
        pub by_ranked : (r : Result FragmentRows Refusal) (b : List ℕ) → RankedObserved s ss way ranked (role_number m.role) (role_number m'.role) one two h.state.ledger h.counters r buffer b → Found r b
        by_ranked r b seen = as_seen r b (
          seen.answer ∙ ap₂ outcome number_is (by_mates offset s m m' one two first_is second_is (observed_row s ss way)),
          seen.entries ∙ ap₂ (λ n l. entries_left n (in_parts (4 * share_of s.mode (entry_count buffer)) 0 l (cleared buffer)) buffer) number_is (by_mates offset s m m' one two first_is second_is (observed_entries s ss ranked)),
        )
