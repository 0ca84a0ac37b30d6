-- What the calls on numbers return and write, from what the calls behind them answer.
use Rattle.std.specs.Prelude.{Result, Ok, Err}
use Rattle.promises.specs.declared.refusal.Refusal.{Refusal}
use mathlib.Core.Path.{◌≡◌, refl, ap, ◌∙◌}
use mathlib.Core.Bool.{Bool, true, false, ◌&&◌}
use mathlib.Core.List.{List}
use Prim.Native.Nat.{ℕ, ◌<◌, ◌≤◌}
use native.Mathlib.Omega.{arith}
use lib.ListN.{length, get_or}
use borrow.Author.Tests.{le-leb, lt-leb, eq-eqb, ne_eqb}
use Rattle.promises.specs.Refusal.{test_number, Outcome, number_of, outcome}
use Rattle.promises.proofs.Refusing.{number_is}
use Rattle.catalogue.specs.Catalogue.{Catalogue}
use Rattle.buffers.specs.Placed.{placed}
use Rattle.map_answers.specs.Answer.{Row}
use Rattle.c_replies.specs.Replies.{Put}
use Rattle.audit_ledger.specs.Booking.{Counters}
use Rattle.audit_model.specs.declared.calls.Opening.{Opening}
use Rattle.audit_model.specs.declared.calls.FragmentRows.{FragmentRows}
use Rattle.audit_model.specs.declared.calls.FragmentRows.TheVariants as fragments
use Rattle.audit_model.specs.declared.calls.FragmentAudit.{FragmentAudit}
use Rattle.audit_model.specs.declared.calls.Finish.{Finish}
use Rattle.audit_model.specs.declared.settings.AuditInputMode.{AuditInputMode}
use Rattle.audit_model.specs.declared.settings.AuditState.{AuditState}
use Rattle.audit_model.specs.declared.settings.MateRole.{MateRole}
use Rattle.audit_model.specs.declared.sheet.Sheet.{Sheet}
use Rattle.audit_model.specs.Settings.{Held, audit_seed, audit_offset}
use Rattle.audit_model.specs.Opening.{IndexLent}
use Rattle.audit_model.specs.Calls.{mate_of, fragment_of, call_outcome, fragment_outcome, finish_outcome, Opens, Audits, Finishes}
use Rattle.audit_model.proofs.Finishing.{finish_outcome_lem}
use Rattle.audit_codes.specs.Codes.{mode_of, role_of, is_role, is_mark, is_set}
use Rattle.audit_unitigs.specs.Rows.{Applies}
use Rattle.batch_lists.specs.Listed.{outcome_rows}
use Rattle.c_state.specs.Layout.{state_numbers, state_in, is_state}
use Rattle.c_sheet.specs.Sheet.{finish_numbers, sheet_in, is_sheet}
use Rattle.c_calls.specs.Calls.{coded_settings, CodedFragment, codes_right, fragment_in, open_right, held_in, fragment_right, finish_right, OpensNumbers, AuditsNumbers, FinishesNumbers, AppliesNumbers}

-- the number of an outcome is its refusal
told_number : {A : Type 0} (n : ℕ) (a : A) (o : Outcome A) → o ≡ outcome n a → number_of o ≡ n
told_number n a o e = ap number_of e ∙ number_is n a

-- a test's number is that of its outcome
pub call_number : (a : Result (Unit {0}) Refusal) → test_number a ≡ number_of (call_outcome a)
call_number (Ok u) = refl
call_number (Err e) = refl

-- ---- a role and a mark

module _ (role mark : ℕ) where
  pub no_role : 2 < role → false ≡ (is_role role && is_mark mark)
  no_role h = rw (lt-leb role 2 h)

  pub by-mark : role ≤ 2 → is_mark mark ≡ (is_role role && is_mark mark)
  by-mark h = rw (le-leb role 2 h)

-- ---- open

module _ (mode remap : ℕ) (ns : List ℕ) where
  pub no_room : (length ns ≡ 32 → ⊥) → open_right mode remap ns ≡ false
  no_room h = rw (ne_eqb (length ns) 32 h)

  module _ (room : length ns ≡ 32) where
    pub no_mode : 1 < mode → open_right mode remap ns ≡ false
    no_mode h = rw (eq-eqb (length ns) 32 room, lt-leb mode 1 h)

    module _ (m : mode ≤ 1) where
      pub no_remap : 1 < remap → open_right mode remap ns ≡ false
      no_remap h = rw (eq-eqb (length ns) 32 room, le-leb mode 1 m, lt-leb remap 1 h)

      pub open_all : remap ≤ 1 → open_right mode remap ns ≡ true
      open_all h = rw (eq-eqb (length ns) 32 room, le-leb mode 1 m, le-leb remap 1 h)

module _ (c : Catalogue) (lent : IndexLent) (k : Counters) (mode remap floor limit : ℕ) (ns : List ℕ) where
  pub open_wrong : open_right mode remap ns ≡ false → OpensNumbers c lent k mode remap floor limit ns 26 k ns
  unfolding OpensNumbers
  open_wrong t = rw t (record { number = refl; state = refl; counters = refl })

  pub open_told : open_right mode remap ns ≡ true → (m : AuditInputMode) → m ≡ mode_of mode → (o : Opening) (k' : Counters)
      → Opens audit_seed audit_offset c lent (record { mode = m; remap = is_set remap; floor = floor; limit = limit }) k o k'
      → (r : ℕ) → r ≡ test_number o.answer → (ns' : List ℕ) → ns' ≡ state_numbers o.state → OpensNumbers c lent k mode remap floor limit ns r k' ns'
  unfolding OpensNumbers
  open_told t m e o k' a r n ns' w =
      let b : Opens audit_seed audit_offset c lent (coded_settings mode remap floor limit) k o k' = rw e at a in
      rw t
      (record {
        number = n ∙ call_number o.answer ∙ told_number _ _ _ b.answer;
        state = w ∙ ap (λ (h : Held). state_numbers h.state) b.held;
        counters = ap (λ (h : Held). h.counters) b.held;
      })

-- ---- fragment

-- the first number of the rows is the refusal, and there is room for two rows
first_number : (x : Result FragmentRows Refusal) (b : List ℕ) → get_or (placed 0 (outcome_rows 2 (fragment_outcome x)) b) 0 0 ≡ number_of (fragment_outcome x)
first_number (Err n) b = refl
first_number (Ok (fragments.Single m)) b = refl
first_number (Ok (fragments.Paired m)) b = refl

pub two_rows : (x : Result FragmentRows Refusal) → length (outcome_rows 2 (fragment_outcome x)) ≤ 16
two_rows (Err n) = omega arith
two_rows (Ok (fragments.Single m)) = omega arith
two_rows (Ok (fragments.Paired m)) = omega arith

number_told : (x : Result FragmentRows Refusal) (n : ℕ) (rs : List Row) (b b' : List ℕ) (r : ℕ) → fragment_outcome x ≡ outcome n rs → b' ≡ placed 0 (outcome_rows 2 (fragment_outcome x)) b → r ≡ get_or b' 0 0 → r ≡ n
number_told x n rs b b' r e v h = h ∙ ap (λ l. get_or l 0 0) v ∙ first_number x b ∙ told_number n rs (fragment_outcome x) e

rows_told : (x y : Outcome (List Row)) (b b' : List ℕ) → b' ≡ placed 0 (outcome_rows 2 x) b → x ≡ y → b' ≡ placed 0 (outcome_rows 2 y) b
rows_told x y b b' v e = v ∙ ap (λ o. placed 0 (outcome_rows 2 o) b) e

module _ (f : CodedFragment) (ns answer : List ℕ) where
  short_answer : length answer < 16 → fragment_right f ns answer ≡ false
  short_answer h = rw (lt-leb 16 (length answer) h)

  module _ (room : 16 ≤ length answer) where
    first_wrong : codes_right f.first ≡ false → fragment_right f ns answer ≡ false
    first_wrong h = rw (le-leb 16 (length answer) room, h)

    module _ (one : codes_right f.first ≡ true) where
      second_wrong : codes_right f.second ≡ false → fragment_right f ns answer ≡ false
      second_wrong h = rw (le-leb 16 (length answer) room, one, h)

      by_state : codes_right f.second ≡ true → (b : Bool) → is_state ns ≡ b → fragment_right f ns answer ≡ b
      by_state two b h = rw (le-leb 16 (length answer) room, one, two, h)

module _ (c : Catalogue) (lent : IndexLent) (k : Counters) (f : CodedFragment) (ns answer entries : List ℕ) where
  fragment_wrong : fragment_right f ns answer ≡ false → AuditsNumbers c lent k f ns answer entries 26 k ns answer entries
  unfolding AuditsNumbers
  fragment_wrong t = rw t (record { number = refl; state = refl; counters = refl; told = refl; left = refl })

  pub fragment_short : length answer < 16 → AuditsNumbers c lent k f ns answer entries 26 k ns answer entries
  fragment_short h = fragment_wrong (short_answer f ns answer h)

  module _ (room : 16 ≤ length answer) where
    pub fragment_first : codes_right f.first ≡ false → AuditsNumbers c lent k f ns answer entries 26 k ns answer entries
    fragment_first h = fragment_wrong (first_wrong f ns answer room h)

    module _ (one : codes_right f.first ≡ true) where
      pub fragment_second : codes_right f.second ≡ false → AuditsNumbers c lent k f ns answer entries 26 k ns answer entries
      fragment_second h = fragment_wrong (second_wrong f ns answer room one h)

      module _ (two : codes_right f.second ≡ true) where
        pub fragment_no_state : is_state ns ≡ false → AuditsNumbers c lent k f ns answer entries 26 k ns answer entries
        fragment_no_state h = fragment_wrong (by_state f ns answer room one two false h)

        pub fragment_told : is_state ns ≡ true → (s : AuditState) → s ≡ state_in ns → (first second : MateRole) → first ≡ role_of f.first.role → second ≡ role_of f.second.role
            → (a : FragmentAudit) (k' : Counters) (entries' : List ℕ)
            → Audits audit_seed audit_offset c lent (record { state = s; counters = k })
            (fragment_of f.ordinal f.count (mate_of first f.first.bases (is_set f.first.mark) f.first.qualities) (mate_of second f.second.bases (is_set f.second.mark) f.second.qualities))
            entries a k' entries'
            → (ns' : List ℕ) → ns' ≡ state_numbers a.state → (answer' : List ℕ) → answer' ≡ placed 0 (outcome_rows 2 (fragment_outcome a.answer)) answer
            → (r : ℕ) → r ≡ get_or answer' 0 0 → AuditsNumbers c lent k f ns answer entries r k' ns' answer' entries'
        unfolding AuditsNumbers
        fragment_told st s es first second e₁ e₂ a k' entries' g ns' w answer' v r n =
            let b : Audits audit_seed audit_offset c lent (held_in ns k) (fragment_in f) entries a k' entries' = rw (es, e₁, e₂) at g in
            rw (by_state f ns answer room one two true st)
            (record {
              number = number_told a.answer _ _ answer answer' r b.answer v n;
              state = w ∙ ap (λ (h : Held). state_numbers h.state) b.held;
              counters = ap (λ (h : Held). h.counters) b.held;
              told = rows_told _ _ answer answer' v b.answer;
              left = b.left;
            })

-- ---- finish

module _ (ns answer : List ℕ) where
  pub no_answer : length answer < 25 → finish_right ns answer ≡ false
  no_answer h = rw (lt-leb 25 (length answer) h)

  pub finish_by_state : 25 ≤ length answer → (b : Bool) → is_state ns ≡ b → finish_right ns answer ≡ b
  finish_by_state room b h = rw (le-leb 25 (length answer) room, h)

module _ (c : Catalogue) (lent : IndexLent) (k : Counters) (ns answer : List ℕ) where
  pub finish_wrong : finish_right ns answer ≡ false → FinishesNumbers c lent k ns answer 26 answer
  unfolding FinishesNumbers
  finish_wrong t = rw t (record { number = refl; told = refl })

  pub finish_told : finish_right ns answer ≡ true → (s : AuditState) → s ≡ state_in ns → (a : Finish) → Finishes audit_seed audit_offset c lent (record { state = s; counters = k }) a
      → (r : ℕ) (answer' : List ℕ) → Put finish_numbers (finish_outcome a) r answer answer' → FinishesNumbers c lent k ns answer r answer'
  unfolding FinishesNumbers
  finish_told t s es a g r answer' w =
      let b : Finishes audit_seed audit_offset c lent (held_in ns k) a = rw es at g in
      let e = finish_outcome_lem audit_seed audit_offset c lent (held_in ns k) a b in
      rw t (record { number = w.number ∙ told_number _ _ _ e; told = w.written ∙ ap (λ o. placed 0 (finish_numbers o) answer) e })

-- ---- apply

module _ (audited c : Catalogue) (k : Counters) (ns rows : List ℕ) where
  pub apply_wrong : is_sheet ns ≡ false → AppliesNumbers audited c k ns rows 26 rows
  unfolding AppliesNumbers
  apply_wrong t = rw t (record { number = refl; left = refl })

  pub apply_told : is_sheet ns ≡ true → (s : Sheet) → s ≡ sheet_in ns → (a : Result (Unit {0}) Refusal) (rows' : List ℕ) → Applies audited c s k rows a rows' → (r : ℕ) → r ≡ test_number a → AppliesNumbers audited c k ns rows r rows'
  unfolding AppliesNumbers
  apply_told t s es a rows' g r n =
      let b : Applies audited c (sheet_in ns) k rows a rows' = rw es at g in
      rw t (record { number = n ∙ call_number a ∙ told_number _ _ _ b.answer; left = b.left })
