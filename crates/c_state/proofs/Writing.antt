-- The numbers of a state written part by part, and the parts of a state read.
use Rattle.std.specs.Prelude.{Option, Some, None}
use mathlib.Core.Path.{◌≡◌, refl, sym, ap, ap₂, ◌∙◌}
use mathlib.Core.Bool.{Bool}
use mathlib.Core.List.{List, [], ◌∷◌, ◌++◌, append_assoc, append-nil}
use Prim.Native.Nat.{ℕ, zero, suc, ◌+◌, ◌≤◌}
use native.Mathlib.Omega.{arith}
use lib.ListN.{length, get_or, set, length-append, drop_of_length-le}
use lib.Seq.{drop-cons}
use Rattle.lists.specs.Cut.{window}
use Rattle.lists.proofs.Cut.{length-window}
use Rattle.buffers.specs.Placed.{placed}
use Rattle.buffers.proofs.Storing.{placed_next, placed_one, placed-placed}
use Rattle.audit_ledger.specs.declared.Ledger.{Ledger}
use Rattle.audit_model.specs.declared.settings.AuditState.{AuditState}
use Rattle.audit_codes.specs.Codes.{is_set, flag_number, mode_number}
use Rattle.c_state.specs.Layout.{last_numbers, ledger_numbers, state_numbers, last_of, state_in}

-- as many numbers as a buffer has take its place
pub placed-whole : (xs b : List ℕ) → length xs ≡ length b → placed 0 xs b ≡ xs
placed-whole xs b h = let n : length b ≤ 0 + length xs = omega arith in ap (λ l. xs ++ l) (drop_of_length-le b n) ∙ append-nil xs

-- so do eighteen numbers from a place on
pub put_eighteen : (ns b found : List ℕ) (at n : ℕ) → n ≡ 18 → at + 18 ≤ length ns → length b ≡ 18 → found ≡ placed 0 (window ns at n) b → found ≡ window ns at 18
put_eighteen ns b found at n e h l w = w ∙ ap (λ k. placed 0 (window ns at k) b) e ∙ placed-whole (window ns at 18) b (length-window ns at 18 h ∙ sym l)

-- ---- the last ordinal

-- two numbers from a place on
pub put_two : (at : ℕ) (b : List ℕ) (u v : ℕ) → at + 2 ≤ length b → set (set b at u) (at + 1) v ≡ placed at (u ∷ v ∷ []) b
put_two at b u v h = placed_next at (u ∷ []) b _ v (at + 1) (omega arith) (placed_one at u b (omega arith)) (omega arith)

module _ (at : ℕ) (b : List ℕ) (h : at + 2 ≤ length b) (o : Option ℕ) where
  pub put_absent : (u v : ℕ) → o ≡ None → u ≡ 0 → v ≡ 0 → set (set b at u) (at + 1) v ≡ placed at (last_numbers o) b
  put_absent u v g e f = put_two at b u v h ∙ ap (λ l. placed at l b) (rw (g, e, f))

  pub put_accepted : (n u v : ℕ) → o ≡ Some n → u ≡ 1 → v ≡ n → set (set b at u) (at + 1) v ≡ placed at (last_numbers o) b
  put_accepted n u v g e f = put_two at b u v h ∙ ap (λ l. placed at l b) (rw (g, e, f))

pub accepted_last : (f n : ℕ) → (f ≡ 0 → ⊥) → Some n ≡ last_of f n
accepted_last zero n h = absurd (h refl)
accepted_last (suc f) n h = refl

pub length_last : (o : Option ℕ) → length (last_numbers o) ≡ 2
length_last None = refl
length_last (Some n) = refl

-- ---- the ledger

module _ (l : Ledger) (lt : length l.table ≡ 18) (lr : length l.reads ≡ 3) where
  both : length (l.table ++ l.reads) ≡ 21
  both = omega (arith, length-append l.table l.reads)

  pub length_ledger : length (ledger_numbers l) ≡ 25
  length_ledger = omega (arith, both, length-append (l.table ++ l.reads) (l.placements ∷ l.singles ∷ l.multi ∷ flag_number l.indeterminate ∷ []))

  module _ (at : ℕ) (b : List ℕ) (h : at + 25 ≤ length b) (b₁ b₂ : List ℕ) (e₁ : b₁ ≡ placed at l.table b) (e₂ : b₂ ≡ placed (at + 18) l.reads b₁) where
    lists_put : b₂ ≡ placed at (l.table ++ l.reads) b
    lists_put = e₂ ∙ ap₂ (λ n x. placed (at + n) l.reads x) (sym lt) e₁ ∙ placed-placed at l.table b l.reads (omega arith)

    pub put_ledger : (p s m f : ℕ) → p ≡ l.placements → s ≡ l.singles → m ≡ l.multi → f ≡ flag_number l.indeterminate
        → set (set (set (set b₂ (at + 21) p) (at + 22) s) (at + 23) m) (at + 24) f ≡ placed at (ledger_numbers l) b
    put_ledger p s m f ep es em ef =
        let xs : List ℕ = l.table ++ l.reads in
        let q₀ = placed_next at xs b b₂ p (at + 21) (omega (arith, both)) lists_put (omega arith) in
        let q₁ = placed_next at (xs ++ (p ∷ [])) b _ s (at + 22) (omega (arith, both, length-append xs (p ∷ []))) q₀ (omega arith) in
        let q₂ = placed_next at (xs ++ (p ∷ []) ++ (s ∷ [])) b _ m (at + 23) (omega (arith, both, length-append xs (p ∷ []), length-append (xs ++ (p ∷ [])) (s ∷ []))) q₁ (omega arith) in
        let q₃ = placed_next at (xs ++ (p ∷ []) ++ (s ∷ []) ++ (m ∷ [])) b _ f (at + 24)
        (omega (arith, both, length-append xs (p ∷ []), length-append (xs ++ (p ∷ [])) (s ∷ []), length-append (xs ++ (p ∷ []) ++ (s ∷ [])) (m ∷ []))) q₂ (omega arith) in
        q₃ ∙ ap (λ l. placed at l b) (rw (ep, es, em, ef) (simp append_assoc))

-- ---- the state

module _ (s : AuditState) (lt : length s.ledger.table ≡ 18) (lr : length s.ledger.reads ≡ 3) where
  pub length_state : length (state_numbers s) ≡ 32
  length_state = omega (arith, length-append (last_numbers s.last) (ledger_numbers s.ledger), length_last s.last, length_ledger s.ledger lt lr)

  module _ (b : List ℕ) (h : length b ≡ 32) (a₀ a₁ a₂ a₃ a₄ : ℕ) (b₁ b₂ : List ℕ)
      (e₁ : b₁ ≡ placed 5 (last_numbers s.last) (set (set (set (set (set b 0 a₀) 1 a₁) 2 a₂) 3 a₃) 4 a₄)) (e₂ : b₂ ≡ placed 7 (ledger_numbers s.ledger) b₁) where
    five_put : set (set (set (set (set b 0 a₀) 1 a₁) 2 a₂) 3 a₃) 4 a₄ ≡ placed 0 (a₀ ∷ a₁ ∷ a₂ ∷ a₃ ∷ a₄ ∷ []) b
    five_put =
        let q₀ = placed_one 0 a₀ b (omega arith) in
        let q₁ = placed_next 0 (a₀ ∷ []) b _ a₁ 1 (omega arith) q₀ (omega arith) in
        let q₂ = placed_next 0 (a₀ ∷ a₁ ∷ []) b _ a₂ 2 (omega arith) q₁ (omega arith) in
        let q₃ = placed_next 0 (a₀ ∷ a₁ ∷ a₂ ∷ []) b _ a₃ 3 (omega arith) q₂ (omega arith) in
        placed_next 0 (a₀ ∷ a₁ ∷ a₂ ∷ a₃ ∷ []) b _ a₄ 4 (omega arith) q₃ (omega arith)

    seven_put : b₁ ≡ placed 0 (a₀ ∷ a₁ ∷ a₂ ∷ a₃ ∷ a₄ ∷ last_numbers s.last) b
    seven_put = e₁ ∙ ap (placed 5 (last_numbers s.last)) five_put ∙ placed-placed 0 (a₀ ∷ a₁ ∷ a₂ ∷ a₃ ∷ a₄ ∷ []) b (last_numbers s.last) (omega (arith, length_last s.last))

    all_put : b₂ ≡ placed 0 (a₀ ∷ a₁ ∷ a₂ ∷ a₃ ∷ a₄ ∷ (last_numbers s.last ++ ledger_numbers s.ledger)) b
    all_put =
        let n : 7 ≡ 0 + length (a₀ ∷ a₁ ∷ a₂ ∷ a₃ ∷ a₄ ∷ last_numbers s.last) = omega (arith, length_last s.last) in
        e₂ ∙ ap₂ (λ n x. placed n (ledger_numbers s.ledger) x) n seven_put
        ∙ placed-placed 0 (a₀ ∷ a₁ ∷ a₂ ∷ a₃ ∷ a₄ ∷ last_numbers s.last) b (ledger_numbers s.ledger) (omega (arith, length_last s.last, length_ledger s.ledger lt lr))

    pub put_state : a₀ ≡ 1 → a₁ ≡ mode_number s.settings.mode → a₂ ≡ flag_number s.settings.remap → a₃ ≡ s.settings.floor → a₄ ≡ s.settings.limit → b₂ ≡ state_numbers s
    put_state f₀ f₁ f₂ f₃ f₄ =
        let e : a₀ ∷ a₁ ∷ a₂ ∷ a₃ ∷ a₄ ∷ (last_numbers s.last ++ ledger_numbers s.ledger) ≡ state_numbers s = rw (f₀, f₁, f₂, f₃, f₄) in
        all_put ∙ ap (λ l. placed 0 l b) e ∙ placed-whole (state_numbers s) b (length_state ∙ sym h)

-- ---- read back

-- three numbers from a place on
pub three : (xs : List ℕ) (at : ℕ) → at + 3 ≤ length xs → get_or xs at 0 ∷ get_or xs (suc at) 0 ∷ get_or xs (suc (suc at)) 0 ∷ [] ≡ window xs at 3
three xs at h = sym (rw (drop-cons xs at 0 (omega arith), drop-cons xs (suc at) 0 (omega arith), drop-cons xs (suc (suc at)) 0 (omega arith)))

module _ (ns : List ℕ) (h : length ns ≡ 32) where
  pub ledger_in : (t : List ℕ) (r₀ r₁ r₂ p s m : ℕ) (i : Bool) → t ≡ window ns 7 18 → r₀ ≡ get_or ns 25 0 → r₁ ≡ get_or ns 26 0 → r₂ ≡ get_or ns 27 0 → p ≡ get_or ns 28 0 → s ≡ get_or ns 29 0 → m ≡ get_or ns 30 0 → i ≡ is_set (get_or ns 31 0)
      → ◌≡◌ {A = Ledger} (record { table = t; reads = r₀ ∷ r₁ ∷ r₂ ∷ []; placements = p; singles = s; multi = m; indeterminate = i }) (state_in ns).ledger
  ledger_in t r₀ r₁ r₂ p s m i et e₀ e₁ e₂ ep es em ei =
      rw (et, e₀, e₁, e₂, ep, es, em, ei) (ap (λ rs. record { table = window ns 7 18; reads = rs; placements = get_or ns 28 0; singles = get_or ns 29 0; multi = get_or ns 30 0; indeterminate = is_set (get_or ns 31 0) }) (three ns 25 (omega arith)))
