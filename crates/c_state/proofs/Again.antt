-- The numbers of a state stand for it and for no other: a state is read back as it was written, and numbers are written as they were read.
use Rattle.std.specs.Prelude.{Option, Some, None}
use mathlib.Core.Path.{◌≡◌, refl, sym, ap, ◌∙◌}
use mathlib.Core.Bool.{Bool, true, false}
use mathlib.Core.Logic.{◌⊎◌, inl, inr}
use mathlib.Core.List.{List, [], ◌∷◌, ◌++◌, append_assoc}
use Prim.Native.Nat.{ℕ, zero, suc, ◌+◌, ◌≤◌}
use native.Mathlib.Omega.{arith}
use lib.ListN.{length, get_or, take, drop, length-append, take-append-drop, drop_of_length-le}
use lib.Seq.{drop-cons, drop-drop, take_at, drop_at, get_or-append-add}
use borrow.Author.Tests.{le-leb}
use Rattle.lists.specs.Cut.{window}
use Rattle.audit_ledger.specs.declared.Ledger.{Ledger}
use Rattle.audit_model.specs.declared.settings.AuditInputMode.{AuditInputMode}
use Rattle.audit_model.specs.declared.settings.AuditInputMode.TheVariants as modes
use Rattle.audit_model.specs.declared.settings.AuditState.{AuditState}
use Rattle.audit_codes.specs.Codes.{mode_of, is_set, flag_number, mode_number}
use Rattle.c_state.specs.Layout.{last_numbers, ledger_numbers, state_numbers, last_of, state_in, is_state}
use Rattle.c_state.proofs.Testing.{StateParts, state_parts, with_last, without_last}
use Rattle.c_state.proofs.Writing.{length_state}

-- ---- numbers, written as they were read

pub mode_back : (n : ℕ) → n ≤ 1 → mode_number (mode_of n) ≡ n
mode_back zero h = refl
mode_back (suc zero) h = refl
mode_back (suc (suc n)) h = absurd (omega arith)

pub mark_back : (n : ℕ) → n ≤ 1 → flag_number (is_set n) ≡ n
mark_back zero h = refl
mark_back (suc zero) h = refl
mark_back (suc (suc n)) h = absurd (omega arith)

last_back : (f n : ℕ) → f ≤ 1 → (f ≡ 1) ⊎ (n ≡ 0) → last_numbers (last_of f n) ≡ f ∷ n ∷ []
last_back zero n h (inl e) = absurd (omega arith)
last_back zero n h (inr e) = rw e
last_back (suc zero) n h o = refl
last_back (suc (suc f)) n h o = absurd (omega arith)

-- a part of a list, and what stands behind it
pub cut_off : (xs : List ℕ) (at n : ℕ) → drop at xs ≡ window xs at n ++ drop (at + n) xs
cut_off xs at n = sym (take-append-drop n (drop at xs)) ∙ ap (λ l. window xs at n ++ l) (drop-drop n at xs)

-- the last four numbers of a list
pub last_four : (xs : List ℕ) (at : ℕ) → length xs ≡ at + 4 → drop at xs ≡ get_or xs at 0 ∷ get_or xs (suc at) 0 ∷ get_or xs (suc (suc at)) 0 ∷ get_or xs (suc (suc (suc at))) 0 ∷ []
last_four xs at h =
    let n : length xs ≤ suc (suc (suc (suc at))) = omega arith in
    rw (drop-cons xs at 0 (omega arith), drop-cons xs (suc at) 0 (omega arith), drop-cons xs (suc (suc at)) 0 (omega arith), drop-cons xs (suc (suc (suc at))) 0 (omega arith), drop_of_length-le xs n)

module _ (ns : List ℕ) (h : length ns ≡ 32) where
  behind : drop 7 ns ≡ window ns 7 18 ++ window ns 25 3 ++ (get_or ns 28 0 ∷ get_or ns 29 0 ∷ get_or ns 30 0 ∷ get_or ns 31 0 ∷ [])
  behind =
      cut_off ns 7 18
      ∙ ap (λ l. window ns 7 18 ++ l) (cut_off ns 25 3 ∙ ap (λ l. window ns 25 3 ++ l) (last_four ns 28 h))
      ∙ sym (append_assoc (window ns 7 18) (window ns 25 3) (get_or ns 28 0 ∷ get_or ns 29 0 ∷ get_or ns 30 0 ∷ get_or ns 31 0 ∷ []))

  all_parts : ns ≡ get_or ns 0 0 ∷ get_or ns 1 0 ∷ get_or ns 2 0 ∷ get_or ns 3 0 ∷ get_or ns 4 0 ∷ get_or ns 5 0 ∷ get_or ns 6 0
      ∷ (window ns 7 18 ++ window ns 25 3 ++ (get_or ns 28 0 ∷ get_or ns 29 0 ∷ get_or ns 30 0 ∷ get_or ns 31 0 ∷ []))
  all_parts =
      drop-cons ns 0 0 (omega arith)
      ∙ ap (λ l. get_or ns 0 0 ∷ l) (drop-cons ns 1 0 (omega arith)
      ∙ ap (λ l. get_or ns 1 0 ∷ l) (drop-cons ns 2 0 (omega arith)
      ∙ ap (λ l. get_or ns 2 0 ∷ l) (drop-cons ns 3 0 (omega arith)
      ∙ ap (λ l. get_or ns 3 0 ∷ l) (drop-cons ns 4 0 (omega arith)
      ∙ ap (λ l. get_or ns 4 0 ∷ l) (drop-cons ns 5 0 (omega arith)
      ∙ ap (λ l. get_or ns 5 0 ∷ l) (drop-cons ns 6 0 (omega arith)
      ∙ ap (λ l. get_or ns 6 0 ∷ l) behind))))))

-- numbers that are those of a state are written as they were read
pub state_back : (ns : List ℕ) → is_state ns ≡ true → state_numbers (state_in ns) ≡ ns
state_back ns t =
    let p = state_parts ns t in
    let e : last_numbers (last_of (get_or ns 5 0) (get_or ns 6 0)) ≡ get_or ns 5 0 ∷ get_or ns 6 0 ∷ [] = last_back (get_or ns 5 0) (get_or ns 6 0) p.flag p.ordinal in
    sym (all_parts ns p.sized ∙ rw (p.layout, mode_back (get_or ns 1 0) p.mode, mark_back (get_or ns 2 0) p.remap, e, mark_back (get_or ns 31 0) p.indeterminate))

-- ---- a state, read back as it was written

pub mode_again : (m : AuditInputMode) → mode_of (mode_number m) ≡ m
mode_again modes.SingleEnd = refl
mode_again modes.PairedEnd = refl

pub mark_again : (b : Bool) → is_set (flag_number b) ≡ b
mark_again true = refl
mark_again false = refl

pub mode_small : (m : AuditInputMode) → mode_number m ≤ 1
mode_small modes.SingleEnd = omega arith
mode_small modes.PairedEnd = omega arith

pub mark-small : (b : Bool) → flag_number b ≤ 1
mark-small true = omega arith
mark-small false = omega arith

-- the numbers of the last ordinal, with a list behind them
module _ (xs : List ℕ) where
  last_again : (o : Option ℕ) → last_of (get_or (last_numbers o ++ xs) 0 0) (get_or (last_numbers o ++ xs) 1 0) ≡ o
  last_again None = refl
  last_again (Some n) = refl

  last_small : (o : Option ℕ) → get_or (last_numbers o ++ xs) 0 0 ≤ 1
  last_small None = omega arith
  last_small (Some n) = omega arith

  last_kept : (o : Option ℕ) → (get_or (last_numbers o ++ xs) 0 0 ≡ 1) ⊎ (get_or (last_numbers o ++ xs) 1 0 ≡ 0)
  last_kept None = inr refl
  last_kept (Some n) = inl refl

  past_last : (o : Option ℕ) (k : ℕ) → drop (suc (suc k)) (last_numbers o ++ xs) ≡ drop k xs
  past_last None k = refl
  past_last (Some n) k = refl

  at_past : (o : Option ℕ) (k : ℕ) → get_or (last_numbers o ++ xs) (suc (suc k)) 0 ≡ get_or xs k 0
  at_past None k = refl
  at_past (Some n) k = refl

module _ (l : Ledger) (lt : length l.table ≡ 18) (lr : length l.reads ≡ 3) where
  joined : ledger_numbers l ≡ l.table ++ (l.reads ++ (l.placements ∷ l.singles ∷ l.multi ∷ flag_number l.indeterminate ∷ []))
  joined = append_assoc l.table l.reads (l.placements ∷ l.singles ∷ l.multi ∷ flag_number l.indeterminate ∷ [])

  table_again : take 18 (ledger_numbers l) ≡ l.table
  table_again = ap (take 18) joined ∙ take_at l.table (l.reads ++ (l.placements ∷ l.singles ∷ l.multi ∷ flag_number l.indeterminate ∷ [])) 18 lt

  past_table : drop 18 (ledger_numbers l) ≡ l.reads ++ (l.placements ∷ l.singles ∷ l.multi ∷ flag_number l.indeterminate ∷ [])
  past_table = ap (drop 18) joined ∙ drop_at l.table (l.reads ++ (l.placements ∷ l.singles ∷ l.multi ∷ flag_number l.indeterminate ∷ [])) 18 lt

  reads_again : take 3 (drop 18 (ledger_numbers l)) ≡ l.reads
  reads_again = ap (take 3) past_table ∙ take_at l.reads (l.placements ∷ l.singles ∷ l.multi ∷ flag_number l.indeterminate ∷ []) 3 lr

  number_again : (k n : ℕ) → n ≡ 21 + k → get_or (ledger_numbers l) n 0 ≡ get_or (l.placements ∷ l.singles ∷ l.multi ∷ flag_number l.indeterminate ∷ []) k 0
  number_again k n e =
      let m : n ≡ length (l.table ++ l.reads) + k = omega (arith, length-append l.table l.reads) in
      ap (λ i. get_or (ledger_numbers l) i 0) m ∙ get_or-append-add (l.table ++ l.reads) (l.placements ∷ l.singles ∷ l.multi ∷ flag_number l.indeterminate ∷ []) k 0

-- a state of given parts
same_state : (s : AuditState) (mode : AuditInputMode) (remap : Bool) (floor limit : ℕ) (last : Option ℕ) (table reads : List ℕ) (p g m : ℕ) (i : Bool)
    → mode ≡ s.settings.mode → remap ≡ s.settings.remap → floor ≡ s.settings.floor → limit ≡ s.settings.limit → last ≡ s.last
    → table ≡ s.ledger.table → reads ≡ s.ledger.reads → p ≡ s.ledger.placements → g ≡ s.ledger.singles → m ≡ s.ledger.multi → i ≡ s.ledger.indeterminate
    → ◌≡◌ {A = AuditState} (record {
      settings = record { mode = mode; remap = remap; floor = floor; limit = limit };
      last = last;
      ledger = record { table = table; reads = reads; placements = p; singles = g; multi = m; indeterminate = i };
    }) s
same_state s mode remap floor limit last table reads p g m i e₁ e₂ e₃ e₄ e₅ e₆ e₇ e₈ e₉ e₁₀ e₁₁ = rw (e₁, e₂, e₃, e₄, e₅, e₆, e₇, e₈, e₉, e₁₀, e₁₁)

state_is : (ns : List ℕ) → StateParts ns → is_state ns ≡ true
state_is ns p = go (get_or ns 5 0) refl p.flag p.ordinal
  where
    go : (f : ℕ) → get_or ns 5 0 ≡ f → f ≤ 1 → (get_or ns 5 0 ≡ 1) ⊎ (get_or ns 6 0 ≡ 0) → is_state ns ≡ true
    go zero e h (inl k) = absurd (omega arith)
    go zero e h (inr k) = sym (without_last ns p.sized p.layout p.mode p.remap p.floor e k) ∙ le-leb (get_or ns 31 0) 1 p.indeterminate
    go (suc zero) e h k = sym (with_last ns p.sized p.layout p.mode p.remap p.floor e) ∙ le-leb (get_or ns 31 0) 1 p.indeterminate
    go (suc (suc f)) e h k = absurd (omega arith)

module _ (s : AuditState) (lt : length s.ledger.table ≡ 18) (lr : length s.ledger.reads ≡ 3) where
  flag_at : get_or (state_numbers s) 31 0 ≡ flag_number s.ledger.indeterminate
  flag_at = at_past (ledger_numbers s.ledger) s.last 24 ∙ number_again s.ledger lt lr 3 24 refl

  parts_again : s.settings.floor ≤ 255 → StateParts (state_numbers s)
  parts_again h =
      record {
        sized = length_state s lt lr;
        layout = refl;
        mode = mode_small s.settings.mode;
        remap = mark-small s.settings.remap;
        floor = h;
        flag = last_small (ledger_numbers s.ledger) s.last;
        ordinal = last_kept (ledger_numbers s.ledger) s.last;
        indeterminate = omega (arith, flag_at, mark-small s.ledger.indeterminate);
      }

  again : state_in (state_numbers s) ≡ s
  again =
      let l = ledger_numbers s.ledger in
      same_state s _ _ _ _ _ _ _ _ _ _ _
      (mode_again s.settings.mode)
      (mark_again s.settings.remap)
      refl
      refl
      (last_again l s.last)
      (ap (take 18) (past_last l s.last 0) ∙ table_again s.ledger lt lr)
      (ap (take 3) (past_last l s.last 18) ∙ reads_again s.ledger lt lr)
      (at_past l s.last 21 ∙ number_again s.ledger lt lr 0 21 refl)
      (at_past l s.last 22 ∙ number_again s.ledger lt lr 1 22 refl)
      (at_past l s.last 23 ∙ number_again s.ledger lt lr 2 23 refl)
      (ap is_set flag_at ∙ mark_again s.ledger.indeterminate)

-- the numbers of a state are those of a state, and stand for it
pub state_again : (s : AuditState) → length s.ledger.table ≡ 18 → length s.ledger.reads ≡ 3 → s.settings.floor ≤ 255 → (is_state (state_numbers s) ≡ true) × (state_in (state_numbers s) ≡ s)
state_again s lt lr h = (state_is (state_numbers s) (parts_again s lt lr h), again s lt lr)
