-- How many bytes a fragment takes.
use mathlib.Core.Path.{◌≡◌, refl, sym, ap, ◌∙◌}
use mathlib.Core.Bool.{cond}
use mathlib.Core.List.{List, [], ◌∷◌, ◌++◌}
use Prim.Native.Nat.{ℕ, zero, suc, ◌+◌, ◌*◌, ◌≤◌}
use native.Mathlib.Omega.{arith}
use lib.ListN.{length, get_or, take, drop, length-append, length-drop}
use lib.Dec.{leb}
use borrow.Author.Tests.{leb-true}
use Rattle.lists.proofs.Cases.{by_test}
use Rattle.audit_model.specs.Observing.{MateRead}
use Rattle.audit_model.specs.Fragment.{Fragment}
use Rattle.catch_commands.specs.Operands.{Parsed, parsed, wrong, short, ◌followed_by◌, little_endian}
use Rattle.catch_commands.specs.Commands.{read_in, reads_in, fragment_in, max_stream_reads}
use Rattle.catch_commands.specs.Telling.{Read}
use Rattle.catch_commands.proofs.Pieces.{bytes_were, not_wrong, not_short}
use Rattle.catch_fragments.specs.Telling.{longest_read, longest_fragment}
use Rattle.catch_fragments.proofs.Mates.{same_rest, read_longest}

-- what was read first, where something was read behind it
first_was : {A B : Type 0} (p : Parsed A) (next : A → List ℕ → Parsed B) (b : B) (rest : List ℕ) (P : Type 0) → (p followed_by next) ≡ parsed b rest
    → ((a : A) (l : List ℕ) → p ≡ parsed a l → next a l ≡ parsed b rest → P) → P
first_was (parsed a l) next b rest P e k = k a l refl e
first_was wrong next b rest P e k = not_wrong e
first_was short next b rest P e k = not_short e

reads_longest : (n : ℕ) (b : List ℕ) (rs : List MateRead) (rest : List ℕ) → reads_in n b ≡ parsed rs rest → length b ≤ length rest + n * longest_read
reads_longest zero b rs rest e = let z = ap length (same_rest e) in omega (arith, z)
reads_longest (suc n) b rs rest e =
    first_was (read_in b) (λ r l. reads_in n l followed_by λ more. parsed (r ∷ more)) rs rest (length b ≤ length rest + suc n * longest_read) e
    (λ r l f g. first_was (reads_in n l) (λ more. parsed (r ∷ more)) rs rest (length b ≤ length rest + suc n * longest_read) g
    (λ more m i j. let z = ap length (same_rest j) in omega (arith, read_longest b r l f, reads_longest n l more m i, z)))

fragment_most : (b : List ℕ) (f : Fragment) (rest : List ℕ) → fragment_in b ≡ parsed f rest → length b ≤ length rest + longest_fragment
fragment_most b f rest e =
    let count = get_or (take 9 b) 8 0 in
    let whole : List MateRead → List ℕ → Parsed Fragment = λ reads. parsed (record { ordinal = little_endian (take 8 (take 9 b)); reads = reads }) in
    let head = bytes_were 9 b (λ h l. cond (leb (get_or h 8 0) max_stream_reads) (reads_in (get_or h 8 0) l followed_by λ reads. parsed (record { ordinal = little_endian (take 8 h); reads = reads })) wrong) f rest e in
    by_test (leb count max_stream_reads)
    (λ t. first_was (reads_in count (drop 9 b)) whole f rest (length b ≤ length rest + longest_fragment) (sym (ap (λ v. cond v (reads_in count (drop 9 b) followed_by whole) wrong) t) ∙ head.1)
    (λ rs l i j. let z = ap length (same_rest j) in omega (arith, head.0, reads_longest count (drop 9 b) rs l i, z, length-drop 9 b, leb-true count max_stream_reads t)))
    (λ t. not_wrong (sym (ap (λ v. cond v (reads_in count (drop 9 b) followed_by whole) wrong) t) ∙ head.1))

-- a fragment that is there ends no later
pub fragment_longest : (bytes : List ℕ) (f : Fragment) (end : ℕ) → Read fragment_in bytes f end → end ≤ longest_fragment
fragment_longest bytes f end r =
    let none : List ℕ = [] in
    let m = fragment_most (bytes ++ none) f (drop end bytes ++ none) (r.told none) in
    omega (arith, m, r.within, length-append bytes none, length-append (drop end bytes) none, length-drop end bytes)
