-- A target: six bytes, an identifier and bases.
use mathlib.Core.Path.{◌≡◌, sym, ap, ◌∙◌}
use mathlib.Core.Bool.{Bool, true, false, cond, ◌&&◌}
use mathlib.Core.List.{List, ◌++◌}
use Prim.Native.Nat.{ℕ, ◌+◌, ◌<◌, ◌≤◌}
use native.Mathlib.Omega.{arith}
use lib.ListN.{length, get_or, take, drop, length-drop}
use lib.Seq.{get_or-take}
use lib.Dec.{leb, ltb}
use borrow.Author.Tests.{leb-true, ltb-true}
use Rattle.lists.specs.Cut.{window}
use Rattle.lists.proofs.Cases.{and-true}
use Rattle.lists.specs.Filter.{every}
use Rattle.catalogue.specs.Catalogue.{Catalogue}
use Rattle.catch_commands.specs.Operands.{Parsed, wrong, bytes_in, little_endian}
use Rattle.audit_codes.specs.Codes.{is_mark}
use Rattle.catch_commands.specs.Commands.{max_stream_targets, max_stream_bases, provided, is_name_byte, with_target, target_fits, target_in}
use Rattle.catch_commands.specs.Telling.{Read, Refused, Short, longest_target, TargetWithin}
use Rattle.catch_commands.proofs.Pieces.{here, drop-take, granted, denied, bytes_in_lem, bytes_lacking, behind_parsed, behind_short, two_in, two_lacking, two_in_lem}

module _ (t n k targets held : ℕ) (e : target_fits t n k targets held ≡ true) where
  tests_passed : ((is_mark t && leb 1 n && ltb targets max_stream_targets) ≡ true) × (leb (held + k) max_stream_bases ≡ true)
  tests_passed = and-true (is_mark t && leb 1 n && ltb targets max_stream_targets) (leb (held + k) max_stream_bases) e

  -- a target that fits has no more bases than are left
  pub target_count : held + k ≤ 1024
  target_count = leb-true (held + k) 1024 tests_passed.1

  -- there are fewer than 16 others
  pub target_few : targets < 16
  target_few = ltb-true targets 16 (and-true (is_mark t && leb 1 n) (ltb targets max_stream_targets) tests_passed.0).1

module _ (c : Catalogue) where
  -- what follows the identifier and the bases
  abbrev next : ℕ → List ℕ → List ℕ → List ℕ → Parsed Catalogue
  next t identifier bases = provided (every is_name_byte identifier) (with_target c t identifier bases)

  -- what follows the six bytes
  abbrev behind : ℕ → ℕ → ℕ → List ℕ → Parsed Catalogue
  behind t n k rest = cond (target_fits t n k (length c.marks) (length c.bases)) (two_in n k rest (next t)) wrong

  pub target_none : (b : List ℕ) → length b < 6 → Short (target_in c) b longest_target
  target_none b h =
      record {
        ended = behind_short (bytes_in 6 b) (λ p. behind (get_or p 0 0) (get_or p 1 0) (little_endian (drop 2 p))) (bytes_lacking 6 b h);
        few = omega arith;
      }

  module _ (b : List ℕ) (t n k targets held : ℕ) (em : length c.marks ≡ targets) (eb : length c.bases ≡ held) (h : 6 ≤ length b) (et : t ≡ get_or b 0 0) (en : n ≡ get_or b 1 0) (ek : k ≡ little_endian (window b 2 4)) where
    taken : (more : List ℕ) → target_in c (b ++ more) ≡ behind t n k (drop 6 b ++ more)
    taken more =
        behind_parsed (bytes_in 6 (b ++ more)) (λ p. behind (get_or p 0 0) (get_or p 1 0) (little_endian (drop 2 p))) (take 6 b) (drop 6 b ++ more) (bytes_in_lem 6 b more h)
        ∙ ap (λ x. behind x (get_or (take 6 b) 1 0) (little_endian (drop 2 (take 6 b))) (drop 6 b ++ more)) (get_or-take 6 b 0 0 (omega arith) ∙ sym et)
        ∙ ap (λ x. behind t x (little_endian (drop 2 (take 6 b))) (drop 6 b ++ more)) (get_or-take 6 b 1 0 (omega arith) ∙ sym en)
        ∙ ap (λ x. behind t n x (drop 6 b ++ more)) (ap little_endian (drop-take 2 4 b (omega arith)) ∙ sym ek)

    -- by the test of the head
    judged : (r : Bool) → target_fits t n k targets held ≡ r → (more : List ℕ) → target_in c (b ++ more) ≡ cond r (two_in n k (drop 6 b ++ more) (next t)) wrong
    judged r e more =
        taken more
        ∙ ap (λ x. cond x (two_in n k (drop 6 b ++ more) (next t)) wrong) (ap (λ x. target_fits t n k x (length c.bases)) em ∙ ap (λ x. target_fits t n k targets x) eb ∙ e)

    pub target_refused : target_fits t n k targets held ≡ false → Refused (target_in c) b
    target_refused e more = judged false e more

    module _ (f : target_fits t n k targets held ≡ true) where
      pub target_short : length b < 6 + n + k → 6 + n + k ≤ longest_target → Short (target_in c) b longest_target
      target_short s m =
          record {
            ended = here (target_in c) (λ rest. two_in n k rest (next t)) b (drop 6 b) (judged true f) ∙ two_lacking (next t) n k (drop 6 b) (simp length-drop (omega arith));
            few = omega arith;
          }

      module _ (s : 6 + n + k ≤ length b) (m : ℕ) (same : m ≡ n) where
        whole : (more : List ℕ) → target_in c (b ++ more) ≡ next t (window b 6 n) (window b (6 + n) k) (drop (6 + n + k) b ++ more)
        whole more = judged true f more ∙ two_in_lem (next t) b more 6 n k s

        name_test : (r : Bool) → every is_name_byte (window b 6 m) ≡ r → every is_name_byte (window b 6 n) ≡ r
        name_test r e = ap (λ l. every is_name_byte (window b 6 l)) (sym same) ∙ e

        pub target_misnamed : every is_name_byte (window b 6 m) ≡ false → Refused (target_in c) b
        target_misnamed e more = whole more ∙ denied (with_target c t (window b 6 n) (window b (6 + n) k)) (drop (6 + n + k) b ++ more) _ (name_test false e)

        pub target_read : every is_name_byte (window b 6 m) ≡ true → Read (target_in c) b (with_target c t (window b 6 n) (window b (6 + n) k)) (6 + n + k)
        target_read e =
            record {
              within = s;
              told = λ more. whole more ∙ granted (with_target c t (window b 6 n) (window b (6 + n) k)) (drop (6 + n + k) b ++ more) _ (name_test true e);
            }

      -- its length is a byte
      pub target_within : n < 256 → TargetWithin (length c.marks) (length c.bases) (record { topology = t; name = n; count = k })
      target_within small =
          record {
            one = omega (arith, target_few t n k targets held f, em);
            identifier = omega (arith, small);
            bases = omega (arith, target_count t n k targets held f, eb);
          }
