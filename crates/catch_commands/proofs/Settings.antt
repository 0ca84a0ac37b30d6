-- Settings in the first eleven bytes.
use mathlib.Core.Path.{◌≡◌, sym, ap, ◌∙◌}
use mathlib.Core.Bool.{◌&&◌}
use mathlib.Core.List.{List, ◌++◌}
use Prim.Native.Nat.{ℕ, ◌<◌, ◌≤◌}
use native.Mathlib.Omega.{arith}
use lib.ListN.{length, get_or, take, drop}
use lib.Seq.{get_or-take}
use borrow.Author.Tests.{le-leb, lt-leb}
use Rattle.lists.specs.Cut.{window}
use Rattle.audit_model.specs.declared.settings.AuditInputMode.{AuditInputMode}
use Rattle.audit_model.specs.declared.settings.Settings.{Settings}
use Rattle.audit_codes.specs.Codes.{is_mark, is_set, mode_of}
use Rattle.catch_commands.specs.Operands.{Parsed, parsed, bytes_in, little_endian}
use Rattle.catch_commands.specs.Commands.{provided, settings_of, settings_in}
use Rattle.catch_commands.specs.Telling.{Read, Refused, Short}
use Rattle.catch_commands.proofs.Pieces.{drop-take, granted, denied, bytes_in_lem, bytes_lacking, behind_parsed, behind_short}

-- settings by their parts
abbrev settings : AuditInputMode → ℕ → ℕ → ℕ → Settings
settings mode remap floor limit = record { mode = mode; remap = is_set remap; floor = floor; limit = limit }

-- what follows the eleven bytes
abbrev next : List ℕ → List ℕ → Parsed Settings
next h = provided (is_mark (get_or h 0 0) && is_mark (get_or h 1 0)) (settings_of h)

module _ (b : List ℕ) where
  pub settings_short : length b < 11 → Short settings_in b 11
  settings_short h = record { ended = behind_short (bytes_in 11 b) next (bytes_lacking 11 b h); few = h }

  module _ (h : 11 ≤ length b) where
    marks : (is_mark (get_or (take 11 b) 0 0) && is_mark (get_or (take 11 b) 1 0)) ≡ (is_mark (get_or b 0 0) && is_mark (get_or b 1 0))
    marks = ap (λ n. is_mark n && is_mark (get_or (take 11 b) 1 0)) (get_or-take 11 b 0 0 (omega arith)) ∙ ap (λ n. is_mark (get_or b 0 0) && is_mark n) (get_or-take 11 b 1 0 (omega arith))

    taken : (more : List ℕ) → settings_in (b ++ more) ≡ next (take 11 b) (drop 11 b ++ more)
    taken more = behind_parsed (bytes_in 11 (b ++ more)) next (take 11 b) (drop 11 b ++ more) (bytes_in_lem 11 b more h)

    pub no_mode : 1 < get_or b 0 0 → Refused settings_in b
    no_mode k more =
        taken more ∙ denied (settings_of (take 11 b)) (drop 11 b ++ more) _ (marks ∙ rw (lt-leb (get_or b 0 0) 1 k))

    module _ (known : get_or b 0 0 ≤ 1) where
      pub no_remap : 1 < get_or b 1 0 → Refused settings_in b
      no_remap k more =
          taken more ∙ denied (settings_of (take 11 b)) (drop 11 b ++ more) _ (marks ∙ rw (le-leb (get_or b 0 0) 1 known, lt-leb (get_or b 1 0) 1 k))

      module _ (mode : AuditInputMode) (remap floor limit : ℕ) (m : mode ≡ mode_of (get_or b 0 0)) (r : remap ≡ get_or b 1 0) (f : floor ≡ get_or b 2 0) (l : limit ≡ little_endian (window b 3 8)) where
        parts : settings_of (take 11 b) ≡ settings mode remap floor limit
        parts =
            ap (λ n. settings (mode_of n) (get_or (take 11 b) 1 0) (get_or (take 11 b) 2 0) (little_endian (drop 3 (take 11 b)))) (get_or-take 11 b 0 0 (omega arith))
            ∙ ap (λ n. settings n (get_or (take 11 b) 1 0) (get_or (take 11 b) 2 0) (little_endian (drop 3 (take 11 b)))) (sym m)
            ∙ ap (λ n. settings mode n (get_or (take 11 b) 2 0) (little_endian (drop 3 (take 11 b)))) (get_or-take 11 b 1 0 (omega arith) ∙ sym r)
            ∙ ap (λ n. settings mode remap n (little_endian (drop 3 (take 11 b)))) (get_or-take 11 b 2 0 (omega arith) ∙ sym f)
            ∙ ap (λ n. settings mode remap floor n) (ap little_endian (drop-take 3 8 b (omega arith)) ∙ sym l)

        pub settings_read : remap ≤ 1 → Read settings_in b (settings mode remap floor limit) 11
        settings_read k =
            record {
              within = h;
              told =
                  λ more.
                  taken more
                  ∙ granted (settings_of (take 11 b)) (drop 11 b ++ more) _ (marks ∙ rw (le-leb (get_or b 0 0) 1 known, le-leb (get_or b 1 0) 1 (omega arith)))
                  ∙ ap (λ s. parsed s (drop 11 b ++ more)) parts;
            }
