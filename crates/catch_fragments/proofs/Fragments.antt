-- A fragment: nine bytes, and no read, one or two.
use Rattle.std.specs.Prelude.{Result, Ok, Err}
use mathlib.Core.Path.{◌≡◌, refl, sym, ap, ◌∙◌}
use Rattle.catch_commands.specs.declared.Unread.{Unread}
use Rattle.catch_commands.specs.declared.Unread.TheVariants as unread
use mathlib.Core.Bool.{cond}
use mathlib.Core.List.{List, [], ◌∷◌, ◌++◌}
use Prim.Native.Nat.{ℕ, zero, suc, ◌<◌, ◌≤◌}
use native.Mathlib.Omega.{arith}
use lib.ListN.{length, get_or, take, drop, length-drop}
use lib.Dec.{leb}
use lib.Seq.{get_or-take, take-take}
use borrow.Author.Tests.{le-leb, lt-leb}
use Rattle.audit_model.specs.Observing.{MateRead}
use Rattle.audit_model.specs.Fragment.{Fragment}
use Rattle.audit_model.specs.Calls.{fragment_reads, fragment_of}
use Rattle.catch_fragments.specs.declared.ReadPlace.{ReadPlace}
use Rattle.catch_fragments.specs.declared.FragmentHead.{FragmentHead}
use Rattle.catch_commands.specs.Operands.{Parsed, parsed, wrong, short, ◌followed_by◌, bytes_in, little_endian}
use Rattle.catch_commands.specs.Commands.{max_stream_reads, read_in, reads_in, fragment_in}
use Rattle.catch_commands.specs.Telling.{Read, Refused, Short}
use Rattle.catch_fragments.specs.Telling.{mate_at, longest_read, ReadTold, PairTold, ReadsFound, longest_reads, ReadsTold, longest_fragment, FragmentTold}
use Rattle.catch_commands.proofs.Pieces.{here, bytes_in_lem, bytes_lacking, behind_parsed, behind_wrong, behind_short}
use Rattle.catch_fragments.proofs.Mates.{read_longest}

-- ---- reads

-- what follows a read, where n more are to follow
abbrev next_read : ℕ → MateRead → List ℕ → Parsed (List MateRead)
next_read n r rest = reads_in n rest followed_by λ rs. parsed (r ∷ rs)

-- where the first is wrong or short, all are
first_wrong : (count : ℕ) (bytes : List ℕ) → 1 ≤ count → read_in bytes ≡ wrong → reads_in count bytes ≡ wrong
first_wrong zero bytes h e = absurd (omega arith)
first_wrong (suc n) bytes h e = behind_wrong (read_in bytes) (next_read n) e

first_short : (count : ℕ) (bytes : List ℕ) → 1 ≤ count → read_in bytes ≡ short → reads_in count bytes ≡ short
first_short zero bytes h e = absurd (omega arith)
first_short (suc n) bytes h e = behind_short (read_in bytes) (next_read n) e

module _ (b : List ℕ) (count : ℕ) (least : 1 ≤ count) where
  reads_refused : Refused read_in (drop 9 b) → Refused (reads_in count) (drop 9 b)
  reads_refused h more = first_wrong count (drop 9 b ++ more) least (h more)

  reads_short : Short read_in (drop 9 b) longest_read → Short (reads_in count) (drop 9 b) longest_reads
  reads_short h = record { ended = first_short count (drop 9 b) least h.ended; few = omega (arith, h.few) }

  pub reads_unread : (ordinal : ℕ) (e : Unread) → ReadTold b 9 (Err e) → ReadsTold b ordinal count (Err e)
  reads_unread ordinal unread.Wrong h = reads_refused h
  reads_unread ordinal unread.More h = reads_short h

-- a second read that is not there
pub pair_unread : (b : List ℕ) (ordinal : ℕ) (p : ReadPlace) (e : Unread) → ReadTold b p.end (Err e) → PairTold b ordinal p (Err e)
pair_unread b ordinal p unread.Wrong h = h
pair_unread b ordinal p unread.More h = h

module _ (b : List ℕ) (ordinal : ℕ) (p : ReadPlace) (t : ReadTold b 9 (Ok p)) where
  pub first_within : p.end ≤ length b
  first_within = t.0.within

  -- one
  one_told : (more : List ℕ) → reads_in 1 (drop 9 b ++ more) ≡ parsed (mate_at b p ∷ []) (drop p.end b ++ more)
  one_told more = behind_parsed (read_in (drop 9 b ++ more)) (next_read 0) (mate_at b p) (drop p.end b ++ more) (t.1 more)

  pub one_found : (count : ℕ) → count ≡ 1 → ReadsFound b ordinal count (record { ordinal = ordinal; count = count; first = p; second = p; end = p.end })
  one_found count e =
      record {
        ordinal = refl;
        count = refl;
        first = t.0;
        second = t.0;
        within = first_within;
        told =
            λ more.
            ap (λ n. reads_in n (drop 9 b ++ more)) e
            ∙ one_told more
            ∙ ap (λ n. parsed (fragment_reads n (mate_at b p) (mate_at b p)) (drop p.end b ++ more)) (sym e);
      }

  -- two
  behind_first : (more : List ℕ) → reads_in 2 (drop 9 b ++ more) ≡ next_read 1 (mate_at b p) (drop p.end b ++ more)
  behind_first more = behind_parsed (read_in (drop 9 b ++ more)) (next_read 1) (mate_at b p) (drop p.end b ++ more) (t.1 more)

  second_wrong : (rest : List ℕ) → read_in rest ≡ wrong → next_read 1 (mate_at b p) rest ≡ wrong
  second_wrong rest e = behind_wrong (reads_in 1 rest) (λ rs. parsed (mate_at b p ∷ rs)) (behind_wrong (read_in rest) (next_read 0) e)

  second_short : (rest : List ℕ) → read_in rest ≡ short → next_read 1 (mate_at b p) rest ≡ short
  second_short rest e = behind_short (reads_in 1 rest) (λ rs. parsed (mate_at b p ∷ rs)) (behind_short (read_in rest) (next_read 0) e)

  two_refused : Refused read_in (drop p.end b) → Refused (reads_in 2) (drop 9 b)
  two_refused h more = behind_first more ∙ second_wrong (drop p.end b ++ more) (h more)

  two_short : Short read_in (drop p.end b) longest_read → Short (reads_in 2) (drop 9 b) longest_reads
  two_short h =
      let e : read_in (drop 9 b) ≡ parsed (mate_at b p) (drop p.end b) = here read_in (λ l. parsed (mate_at b p) l) (drop 9 b) (drop p.end b) t.1 in
      record {
        ended = here (reads_in 2) (next_read 1 (mate_at b p)) (drop 9 b) (drop p.end b) behind_first ∙ second_short (drop p.end b) h.ended;
        few = omega (arith, h.few, read_longest (drop 9 b) (mate_at b p) (drop p.end b) e);
      }

  two_told : (d : ReadPlace) → ((more : List ℕ) → read_in (drop p.end b ++ more) ≡ parsed (mate_at b d) (drop d.end b ++ more))
      → (more : List ℕ) → reads_in 2 (drop 9 b ++ more) ≡ parsed (mate_at b p ∷ mate_at b d ∷ []) (drop d.end b ++ more)
  two_told d h more =
      behind_first more
      ∙ behind_parsed (reads_in 1 (drop p.end b ++ more)) (λ rs. parsed (mate_at b p ∷ rs)) (mate_at b d ∷ []) (drop d.end b ++ more)
      (behind_parsed (read_in (drop p.end b ++ more)) (next_read 0) (mate_at b d) (drop d.end b ++ more) (h more))

  two_told_all : (r : Result FragmentHead Unread) → PairTold b ordinal p r → ReadsTold b ordinal 2 r
  two_told_all (Ok h) k =
      record {
        ordinal = k.ordinal;
        count = k.count;
        first = rw k.first t.0;
        second = k.placed;
        within = rw k.end k.placed.within;
        told =
            λ more.
            two_told h.second k.told more
            ∙ ap (λ q. parsed (mate_at b q ∷ mate_at b h.second ∷ []) (drop h.second.end b ++ more)) (sym k.first)
            ∙ ap (λ n. parsed (mate_at b h.first ∷ mate_at b h.second ∷ []) (drop n b ++ more)) (sym k.end);
      }
  two_told_all (Err unread.Wrong) k = two_refused k
  two_told_all (Err unread.More) k = two_short k

  pub pair_told : (count : ℕ) → count ≡ 2 → (r : Result FragmentHead Unread) → PairTold b ordinal p r → ReadsTold b ordinal count r
  pair_told count e r k = rw e (two_told_all r k)

-- ---- the head

-- what follows the nine bytes
abbrev behind : ℕ → ℕ → List ℕ → Parsed Fragment
behind count ordinal rest = cond (leb count max_stream_reads) (reads_in count rest followed_by λ rs. parsed (record { ordinal = ordinal; reads = rs })) wrong

pub fragment_headless : (b : List ℕ) → length b < 9 → Short fragment_in b longest_fragment
fragment_headless b h =
    record {
      ended = behind_short (bytes_in 9 b) (λ p. behind (get_or p 8 0) (little_endian (take 8 p))) (bytes_lacking 9 b h);
      few = omega arith;
    }

module _ (b : List ℕ) (count ordinal : ℕ) (h : 9 ≤ length b) (ec : count ≡ get_or b 8 0) (eo : ordinal ≡ little_endian (take 8 b)) where
  taken : (more : List ℕ) → fragment_in (b ++ more) ≡ behind count ordinal (drop 9 b ++ more)
  taken more =
      behind_parsed (bytes_in 9 (b ++ more)) (λ p. behind (get_or p 8 0) (little_endian (take 8 p))) (take 9 b) (drop 9 b ++ more) (bytes_in_lem 9 b more h)
      ∙ ap (λ n. behind n (little_endian (take 8 (take 9 b))) (drop 9 b ++ more)) (get_or-take 9 b 8 0 (omega arith) ∙ sym ec)
      ∙ ap (λ n. behind count n (drop 9 b ++ more)) (ap little_endian (take-take 8 9 b (omega arith)) ∙ sym eo)

  pub fragment_refused : 2 < count → Refused fragment_in b
  fragment_refused k more = taken more ∙ rw (lt-leb count 2 k)

  module _ (most : count ≤ 2) where
    allowed : (rest : List ℕ) → behind count ordinal rest ≡ (reads_in count rest followed_by λ rs. parsed (record { ordinal = ordinal; reads = rs }))
    allowed rest = rw (le-leb count 2 most)

    reads_wrong : (rest : List ℕ) → reads_in count rest ≡ wrong → behind count ordinal rest ≡ wrong
    reads_wrong rest e = allowed rest ∙ behind_wrong (reads_in count rest) (λ rs. parsed (record { ordinal = ordinal; reads = rs })) e

    reads_lacking : (rest : List ℕ) → reads_in count rest ≡ short → behind count ordinal rest ≡ short
    reads_lacking rest e = allowed rest ∙ behind_short (reads_in count rest) (λ rs. parsed (record { ordinal = ordinal; reads = rs })) e

    held : (rs : List MateRead) (rest left : List ℕ) → reads_in count rest ≡ parsed rs left → behind count ordinal rest ≡ parsed (record { ordinal = ordinal; reads = rs }) left
    held rs rest left e = allowed rest ∙ behind_parsed (reads_in count rest) (λ l. parsed (record { ordinal = ordinal; reads = l })) rs left e

    pub fragment_none : count ≡ 0 → (first second : MateRead) → Read fragment_in b (fragment_of ordinal count first second) 9
    fragment_none z first second =
        record {
          within = h;
          told =
              λ more.
              taken more
              ∙ held [] (drop 9 b ++ more) (drop 9 b ++ more) (ap (λ n. reads_in n (drop 9 b ++ more)) z)
              ∙ ap (λ n. parsed (fragment_of ordinal n first second) (drop 9 b ++ more)) (sym z);
        }

    pub fragment_told : (r : Result FragmentHead Unread) → ReadsTold b ordinal count r → FragmentTold b r
    fragment_told (Ok f) k = (
      record {
        within = k.within;
        told =
            λ more.
            taken more
            ∙ held (fragment_reads count (mate_at b f.first) (mate_at b f.second)) (drop 9 b ++ more) (drop f.end b ++ more) (k.told more)
            ∙ ap (λ n. parsed (fragment_of n count (mate_at b f.first) (mate_at b f.second)) (drop f.end b ++ more)) (sym k.ordinal)
            ∙ ap (λ n. parsed (fragment_of f.ordinal n (mate_at b f.first) (mate_at b f.second)) (drop f.end b ++ more)) (sym k.count);
      },
      k.first,
      k.second,
    )
    fragment_told (Err unread.Wrong) k = λ more. taken more ∙ reads_wrong (drop 9 b ++ more) (k more)
    fragment_told (Err unread.More) k =
        record {
          ended = here fragment_in (behind count ordinal) b (drop 9 b) taken ∙ reads_lacking (drop 9 b) k.ended;
          few = omega (arith, k.few, length-drop 9 b);
        }
