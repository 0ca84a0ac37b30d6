-- What each command writes, whatever follows the bytes that are there; and what is written where the stream ends.
use mathlib.Core.Path.{◌≡◌, refl, ap, ◌∙◌}
use mathlib.Core.Bool.{true, false, cond, ◌||◌}
use mathlib.Core.List.{List, [], ◌∷◌, ◌++◌}
use Prim.Native.Nat.{ℕ, zero, suc}
use lib.ListN.{drop}
use lib.Dec.{eqb}
use borrow.Author.Tests.{ne_eqb}
use Rattle.catalogue.specs.Catalogue.{Catalogue}
use Rattle.audit_model.specs.declared.settings.Settings.{Settings}
use Rattle.audit_model.specs.Settings.{Held, audit_seed, audit_offset}
use Rattle.audit_model.specs.Opening.{opening_refusal, started, way_of}
use Rattle.audit_model.specs.Fragment.{Fragment, fragment_refusal, fragment_accepted}
use Rattle.audit_model.specs.Sheet.{finish_refusal}
use Rattle.catch_lines.specs.Lines.{refusal_line}
use Rattle.catch_commands.specs.Operands.{Parsed, short}
use Rattle.catch_commands.specs.Commands.{settings_in, target_in, fragment_in}
use Rattle.catch_commands.specs.Telling.{Read, Refused}
use Rattle.catch_sheet_lines.specs.Sheets.{fragment_lines, sheet_lines}
use Rattle.catch_model.specs.Job.{no_targets, lent_of, stream_entries, Stage, beginning, supplying, running, Step, goes, refuses, when_read, audited, finished, opened, command, still}
use Rattle.catch_model.specs.Feeding.{Goes, Ends}
use Rattle.catch_model.proofs.Shrinking.{still_ends, still_goes, still-same}

-- ---- what is read

module _ {A : Type 0} (parser : List ℕ → Parsed A) (next : A → List ℕ → Step) (bytes : List ℕ) where
  when_read_lem : (a : A) (end : ℕ) → Read parser bytes a end → (more : List ℕ) → when_read (parser (bytes ++ more)) next ≡ next a (drop end bytes ++ more)
  when_read_lem a end r more = ap (λ p. when_read p next) (r.told more)

  when_refused : Refused parser bytes → (more : List ℕ) → when_read (parser (bytes ++ more)) next ≡ refuses 20
  when_refused r more = ap (λ p. when_read p next) (r more)

  when_short : parser bytes ≡ short → when_read (parser bytes) next ≡ refuses 20
  when_short e = ap (λ p. when_read p next) e

-- a test of a code that is another
not_code : (code other : ℕ) (x y : Step) → (code ≡ other → ⊥) → cond (eqb code other) x y ≡ y
not_code code other x y ne = ap (λ b. cond b x y) (ne_eqb code other ne)

-- ---- 01

module _ (bytes : List ℕ) where
  pub begin_read : (s : Settings) → Read settings_in bytes s 11 → Goes beginning (1 ∷ bytes) [] (supplying s no_targets) (drop 11 bytes)
  begin_read s r more = still_goes beginning (1 ∷ bytes ++ more) [] (supplying s no_targets) (drop 11 bytes ++ more) (when_read_lem settings_in (λ t. goes [] (supplying t no_targets)) bytes s 11 r more)

  pub begin_wrong : Refused settings_in bytes → Ends beginning (1 ∷ bytes) (refusal_line 20)
  begin_wrong r more = still_ends beginning (1 ∷ bytes ++ more) (refusal_line 20) (when_refused settings_in (λ t. goes [] (supplying t no_targets)) bytes r more)

  pub begin_short : settings_in bytes ≡ short → command beginning (1 ∷ bytes) ≡ refuses 20
  begin_short e = when_short settings_in (λ t. goes [] (supplying t no_targets)) bytes e

  pub begin_other : (code : ℕ) → (code ≡ 1 → ⊥) → Ends beginning (code ∷ bytes) (refusal_line 20)
  begin_other code ne more = still_ends beginning (code ∷ bytes ++ more) (refusal_line 20) (not_code code 1 _ (refuses 20) ne)

-- no byte at all, at any stage
pub none_left : (stage : Stage) → command stage [] ≡ refuses 20
none_left beginning = refl
none_left (supplying s c) = refl
none_left (running c h) = refl

-- ---- 02, and the opening

module _ (s : Settings) (c : Catalogue) (bytes : List ℕ) where
  pub supply_read : (c' : Catalogue) (end : ℕ) → Read (target_in c) bytes c' end → Goes (supplying s c) (2 ∷ bytes) [] (supplying s c') (drop end bytes)
  supply_read c' end r more = still_goes (supplying s c) (2 ∷ bytes ++ more) [] (supplying s c') (drop end bytes ++ more) (when_read_lem (target_in c) (λ d. goes [] (supplying s d)) bytes c' end r more)

  pub supply_wrong : Refused (target_in c) bytes → Ends (supplying s c) (2 ∷ bytes) (refusal_line 20)
  supply_wrong r more = still_ends (supplying s c) (2 ∷ bytes ++ more) (refusal_line 20) (when_refused (target_in c) (λ d. goes [] (supplying s d)) bytes r more)

  pub supply_short : target_in c bytes ≡ short → command (supplying s c) (2 ∷ bytes) ≡ refuses 20
  supply_short e = when_short (target_in c) (λ d. goes [] (supplying s d)) bytes e

  abbrev refusal : ℕ
  refusal = opening_refusal audit_seed audit_offset c (lent_of c) s (started c s).counters

  pub supply_other : (code : ℕ) → (code ≡ 2 → ⊥) → (code ≡ 3 → ⊥) → (code ≡ 5 → ⊥) → Ends (supplying s c) (code ∷ bytes) (refusal_line 20)
  supply_other code two three five more =
      let neither : (eqb code 3 || eqb code 5) ≡ false = rw (ne_eqb code 3 three, ne_eqb code 5 five) refl in
      still_ends (supplying s c) (code ∷ bytes ++ more) (refusal_line 20) (not_code code 2 _ _ two ∙ ap (λ b. cond b (opened refusal s c (code ∷ bytes ++ more)) (refuses 20)) neither)

  -- the opening is run at 03 and at 05
  at_opening : (code : ℕ) → (eqb code 3 || eqb code 5) ≡ true → (code ≡ 2 → ⊥) → (more : List ℕ) → command (supplying s c) (code ∷ bytes ++ more) ≡ opened refusal s c (code ∷ bytes ++ more)
  at_opening code t two more = not_code code 2 _ _ two ∙ ap (λ b. cond b (opened refusal s c (code ∷ bytes ++ more)) (refuses 20)) t

  module _ (code : ℕ) (due : (eqb code 3 || eqb code 5) ≡ true) (two : code ≡ 2 → ⊥) where
    pub opening_refuses : (n : ℕ) → refusal ≡ n → (n ≡ 0 → ⊥) → Ends (supplying s c) (code ∷ bytes) (refusal_line n)
    opening_refuses n e ne more = still_ends (supplying s c) (code ∷ bytes ++ more) (refusal_line n) (at_opening code due two more ∙ ap (λ m. opened m s c (code ∷ bytes ++ more)) e ∙ go n ne)
      where
        go : (m : ℕ) → (m ≡ 0 → ⊥) → opened m s c (code ∷ bytes ++ more) ≡ refuses m
        go zero z = absurd (z refl)
        go (suc m) z = refl

    pub opening_accepts : refusal ≡ 0 → Goes (supplying s c) (code ∷ bytes) [] (running c (started c s)) (code ∷ bytes)
    opening_accepts e more =
        still-same (supplying s c) (code ∷ bytes ++ more) (running c (started c s)) (at_opening code due two more ∙ ap (λ m. opened m s c (code ∷ bytes ++ more)) e)

-- ---- 03 and 05

module _ (c : Catalogue) (h : Held) where
  -- what is audited of a fragment
  abbrev audit : Fragment → List ℕ → Step
  audit f = audited (fragment_refusal audit_seed audit_offset c (lent_of c) h f stream_entries) c h f

  -- its lines
  abbrev pub lines_of : Fragment → List ℕ
  lines_of f = fragment_lines audit_offset c h.state.settings (way_of audit_seed (lent_of c)) f.ordinal f.reads

  module _ (bytes : List ℕ) where
    pub fragment_accepted_lem : (f : Fragment) (end : ℕ) → Read fragment_in bytes f end → fragment_refusal audit_seed audit_offset c (lent_of c) h f stream_entries ≡ 0
        → Goes (running c h) (3 ∷ bytes) (lines_of f) (running c (fragment_accepted audit_offset c h f)) (drop end bytes)
    fragment_accepted_lem f end r e more =
        still_goes (running c h) (3 ∷ bytes ++ more) (lines_of f) (running c (fragment_accepted audit_offset c h f)) (drop end bytes ++ more)
        (when_read_lem fragment_in audit bytes f end r more ∙ ap (λ n. audited n c h f (drop end bytes ++ more)) e)

    pub fragment_refused : (f : Fragment) (end : ℕ) → Read fragment_in bytes f end → (n : ℕ) → fragment_refusal audit_seed audit_offset c (lent_of c) h f stream_entries ≡ n → (n ≡ 0 → ⊥)
        → Ends (running c h) (3 ∷ bytes) (refusal_line n)
    fragment_refused f end r n e ne more =
        still_ends (running c h) (3 ∷ bytes ++ more) (refusal_line n)
        (when_read_lem fragment_in audit bytes f end r more ∙ ap (λ m. audited m c h f (drop end bytes ++ more)) e ∙ go n ne)
      where
        go : (m : ℕ) → (m ≡ 0 → ⊥) → audited m c h f (drop end bytes ++ more) ≡ refuses m
        go zero z = absurd (z refl)
        go (suc m) z = refl

    pub fragment_wrong : Refused fragment_in bytes → Ends (running c h) (3 ∷ bytes) (refusal_line 20)
    fragment_wrong r more = still_ends (running c h) (3 ∷ bytes ++ more) (refusal_line 20) (when_refused fragment_in audit bytes r more)

    pub fragment_short : fragment_in bytes ≡ short → command (running c h) (3 ∷ bytes) ≡ refuses 20
    fragment_short e = when_short fragment_in audit bytes e

    pub run_other : (code : ℕ) → (code ≡ 3 → ⊥) → (code ≡ 5 → ⊥) → Ends (running c h) (code ∷ bytes) (refusal_line 20)
    run_other code three five more = still_ends (running c h) (code ∷ bytes ++ more) (refusal_line 20) (not_code code 3 _ _ three ∙ not_code code 5 _ (refuses 20) five)

    -- a byte behind 05
    pub bytes_behind : (b : ℕ) → Ends (running c h) (5 ∷ b ∷ bytes) (refusal_line 20)
    bytes_behind b more = still_ends (running c h) (5 ∷ b ∷ bytes ++ more) (refusal_line 20) (go (finish_refusal audit_seed audit_offset c (lent_of c) h))
      where
        go : (n : ℕ) → finished n c h (b ∷ bytes ++ more) ≡ refuses 20
        go zero = refl
        go (suc n) = refl

  -- 05 and the end of the stream
  pub finish_accepts : finish_refusal audit_seed audit_offset c (lent_of c) h ≡ 0 → still (running c h) (5 ∷ []) ≡ sheet_lines c h
  finish_accepts e = still_ends (running c h) (5 ∷ []) (sheet_lines c h) (ap (λ n. finished n c h []) e)

  pub finish_refuses : (n : ℕ) → finish_refusal audit_seed audit_offset c (lent_of c) h ≡ n → (n ≡ 0 → ⊥) → still (running c h) (5 ∷ []) ≡ refusal_line n
  finish_refuses n e ne = still_ends (running c h) (5 ∷ []) (refusal_line n) (ap (λ m. finished m c h []) e ∙ go n ne)
    where
      go : (m : ℕ) → (m ≡ 0 → ⊥) → finished m c h [] ≡ refuses m
      go zero z = absurd (z refl)
      go (suc m) z = refl
