-- A read from a place on: its code, six bytes, bases and qualities.
use mathlib.Core.Path.{◌≡◌, refl, sym, ap, ◌∙◌}
use mathlib.Core.Bool.{Bool, true, false, cond, ◌&&◌}
use mathlib.Core.List.{List, [], ◌∷◌, ◌++◌}
use Prim.Native.Nat.{ℕ, suc, ◌+◌, ◌-◌, ◌<◌, ◌≤◌}
use native.Mathlib.Omega.{arith}
use lib.ListN.{length, get_or, take, drop, length-drop, drop_of_length-le}
use lib.Dec.{eqb, leb}
use lib.Seq.{get_or-take, get_or-drop, drop-cons, drop-drop}
use borrow.Author.Tests.{leb-true, eq-eqb, ne_eqb}
use Rattle.lists.specs.Cut.{window}
use Rattle.lists.proofs.Cases.{by_test, and-true}
use Rattle.audit_model.specs.Observing.{MateRead}
use Rattle.audit_model.specs.Calls.{mate_of}
use Rattle.catch_fragments.specs.declared.ReadPlace.{ReadPlace}
use Rattle.audit_codes.specs.Codes.{is_mark, is_set, role_of}
use Rattle.catch_commands.specs.Operands.{Parsed, parsed, wrong, ◌followed_by◌, bytes_in, little_endian}
use Rattle.catch_commands.specs.Commands.{max_stream_read, read_fits, qualities_of, read_operands, read_in}
use Rattle.catch_commands.specs.Telling.{Refused, Short}
use Rattle.catch_fragments.specs.Telling.{Placed, mate_at, longest_read}
use Rattle.catch_commands.proofs.Pieces.{here, not_wrong, not_short, drop-take, bytes_in_lem, bytes_lacking, bytes_were, behind_parsed, behind_short, two_in, two_lacking, two_in_lem}

-- what follows the bases and the qualities
abbrev next : ℕ → ℕ → List ℕ → List ℕ → List ℕ → Parsed MateRead
next role mark bases qualities = parsed (mate_of (role_of role) bases (is_set mark) qualities)

-- what follows the six bytes
abbrev behind : ℕ → ℕ → ℕ → List ℕ → Parsed MateRead
behind role mark k rest = cond (read_fits role mark k) (two_in k (qualities_of mark k) rest (next role mark)) wrong

-- a read that fits is of a mark and no longer than 4,096
pub read_most : (role mark k : ℕ) → read_fits role mark k ≡ true → k ≤ 4096
read_most role mark k e = leb-true k 4096 (and-true (leb role 2 && is_mark mark) (leb k max_stream_read) e).1

-- there are no more qualities than bases
pub qualities_most : (mark k : ℕ) → qualities_of mark k ≤ k
qualities_most mark k = go (is_set mark)
  where
    go : (t : Bool) → cond t k 0 ≤ k
    go true = omega arith
    go false = omega arith

-- ---- the code

module _ (b : List ℕ) (at : ℕ) where
  pub read_none : length b ≤ at → Short read_in (drop at b) longest_read
  read_none h = rw (drop_of_length-le b h) (record { ended = refl; few = omega arith })

  module _ (h : at < length b) where
    code_first : (more : List ℕ) → read_in (drop at b ++ more) ≡ cond (eqb (get_or b at 0) 4) (read_operands (drop (suc at) b ++ more)) wrong
    code_first more = ap (λ l. read_in (l ++ more)) (drop-cons b at 0 h)

    pub no_read : (get_or b at 0 ≡ 4 → ⊥) → Refused read_in (drop at b)
    no_read ne more = code_first more ∙ ap (λ t. cond t (read_operands (drop (suc at) b ++ more)) wrong) (ne_eqb (get_or b at 0) 4 ne)

    module _ (four : get_or b at 0 ≡ 4) where
      coded : (more : List ℕ) → read_in (drop at b ++ more) ≡ read_operands (drop (suc at) b ++ more)
      coded more = code_first more ∙ ap (λ t. cond t (read_operands (drop (suc at) b ++ more)) wrong) (eq-eqb (get_or b at 0) 4 four)

      pub read_headless : length b < at + 7 → Short read_in (drop at b) longest_read
      read_headless s =
          record {
            ended =
                here read_in read_operands (drop at b) (drop (suc at) b) coded
                ∙ behind_short (bytes_in 6 (drop (suc at) b)) (λ p. behind (get_or p 0 0) (get_or p 1 0) (little_endian (drop 2 p))) (bytes_lacking 6 (drop (suc at) b) (simp length-drop (omega arith)));
            few = simp length-drop (omega arith);
          }

-- ---- the head

-- of what stands behind the code
headed : (b more : List ℕ) → 6 ≤ length b → read_operands (b ++ more) ≡ behind (get_or b 0 0) (get_or b 1 0) (little_endian (window b 2 4)) (drop 6 b ++ more)
headed b more h =
    behind_parsed (bytes_in 6 (b ++ more)) (λ p. behind (get_or p 0 0) (get_or p 1 0) (little_endian (drop 2 p))) (take 6 b) (drop 6 b ++ more) (bytes_in_lem 6 b more h)
    ∙ ap (λ x. behind x (get_or (take 6 b) 1 0) (little_endian (drop 2 (take 6 b))) (drop 6 b ++ more)) (get_or-take 6 b 0 0 (omega arith))
    ∙ ap (λ x. behind (get_or b 0 0) x (little_endian (drop 2 (take 6 b))) (drop 6 b ++ more)) (get_or-take 6 b 1 0 (omega arith))
    ∙ ap (λ x. behind (get_or b 0 0) (get_or b 1 0) (little_endian x) (drop 6 b ++ more)) (drop-take 2 4 b (omega arith))

-- a place behind the code, and the bytes from it on
get_or-behind : (b : List ℕ) (at i : ℕ) → get_or (drop (suc at) b) i 0 ≡ get_or b (at + suc i) 0
get_or-behind b at i = let e : suc at + i ≡ at + suc i = omega arith in get_or-drop (suc at) b i 0 ∙ ap (λ n. get_or b n 0) e

drop-behind : (b : List ℕ) (at i : ℕ) → drop i (drop (suc at) b) ≡ drop (at + suc i) b
drop-behind b at i = let e : suc at + i ≡ at + suc i = omega arith in drop-drop i (suc at) b ∙ ap (λ n. drop n b) e

module _ (b : List ℕ) (at role mark k m : ℕ) (h : at + 7 ≤ length b) (four : get_or b at 0 ≡ 4) (er : role ≡ get_or b (at + 1) 0) (em : mark ≡ get_or b (at + 2) 0) (ek : k ≡ little_endian (window b (at + 3) m)) (same : m ≡ 4) where
  taken : (more : List ℕ) → read_in (drop at b ++ more) ≡ behind role mark k (drop (at + 7) b ++ more)
  taken more =
      let d = drop (suc at) b in
      let number : little_endian (window d 2 4) ≡ k = ap (λ l. little_endian (take 4 l)) (drop-behind b at 2) ∙ ap (λ n. little_endian (window b (at + 3) n)) (sym same) ∙ sym ek in
      coded b at (omega arith) four more
      ∙ headed d more (simp length-drop (omega arith))
      ∙ ap (λ x. behind x (get_or d 1 0) (little_endian (window d 2 4)) (drop 6 d ++ more)) (get_or-behind b at 0 ∙ sym er)
      ∙ ap (λ x. behind role x (little_endian (window d 2 4)) (drop 6 d ++ more)) (get_or-behind b at 1 ∙ sym em)
      ∙ ap (λ x. behind role mark x (drop 6 d ++ more)) number
      ∙ ap (λ l. behind role mark k (l ++ more)) (drop-behind b at 6)

  -- by the test of the head
  judged : (t : Bool) → read_fits role mark k ≡ t → (more : List ℕ) → read_in (drop at b ++ more) ≡ cond t (two_in k (qualities_of mark k) (drop (at + 7) b ++ more) (next role mark)) wrong
  judged t e more = taken more ∙ ap (λ v. cond v (two_in k (qualities_of mark k) (drop (at + 7) b ++ more) (next role mark)) wrong) e

  pub read_refused : read_fits role mark k ≡ false → Refused read_in (drop at b)
  read_refused e more = judged false e more

  module _ (fits : read_fits role mark k ≡ true) (q : ℕ) (eq : q ≡ qualities_of mark k) where
    pub read_short : length b < at + 7 + k + q → Short read_in (drop at b) longest_read
    read_short s =
        let i = read_most role mark k fits in
        let j = qualities_most mark k in
        record {
          ended = here read_in (λ rest. two_in k (qualities_of mark k) rest (next role mark)) (drop at b) (drop (at + 7) b) (judged true fits) ∙ two_lacking (next role mark) k (qualities_of mark k) (drop (at + 7) b) (simp length-drop (omega arith));
          few = simp length-drop (omega arith);
        }

    module _ (p : ReadPlace) (s : at + 7 + k + q ≤ length b) (from : p.from ≡ at + 7) (middle : p.middle ≡ at + 7 + k) (end : p.end ≡ at + 7 + k + q) (named : p.role ≡ role_of role) (present : p.present ≡ is_set mark) where
      placed : Placed b p
      placed = record { bases = omega arith; qualities = omega arith; within = omega arith }

      mate : mate_of (role_of role) (window b (at + 7) k) (is_set mark) (window b (at + 7 + k) q) ≡ mate_at b p
      mate =
          let n : k ≡ p.middle - p.from = omega arith in
          let l : q ≡ p.end - p.middle = omega arith in
          ap (λ x. mate_of x (window b (at + 7) k) (is_set mark) (window b (at + 7 + k) q)) (sym named)
          ∙ ap (λ x. mate_of p.role (window b (at + 7) k) x (window b (at + 7 + k) q)) (sym present)
          ∙ ap (λ x. mate_of p.role (window b x k) p.present (window b (at + 7 + k) q)) (sym from)
          ∙ ap (λ x. mate_of p.role (window b p.from x) p.present (window b (at + 7 + k) q)) n
          ∙ ap (λ x. mate_of p.role (window b p.from (p.middle - p.from)) p.present (window b x q)) (sym middle)
          ∙ ap (λ x. mate_of p.role (window b p.from (p.middle - p.from)) p.present (window b p.middle x)) l

      told : (more : List ℕ) → read_in (drop at b ++ more) ≡ parsed (mate_at b p) (drop p.end b ++ more)
      told more =
          judged true fits more
          ∙ ap (λ n. two_in k n (drop (at + 7) b ++ more) (next role mark)) (sym eq)
          ∙ two_in_lem (next role mark) b more (at + 7) k q s
          ∙ ap (λ x. parsed x (drop (at + 7 + k + q) b ++ more)) mate
          ∙ ap (λ n. parsed (mate_at b p) (drop n b ++ more)) (sym end)

      pub read_found : Placed b p × ((more : List ℕ) → read_in (drop at b ++ more) ≡ parsed (mate_at b p) (drop p.end b ++ more))
      read_found = (placed, told)

-- ---- how much a read takes

pub same_rest : {A : Type 0} {a d : A} {l m : List ℕ} → parsed a l ≡ parsed d m → l ≡ m
same_rest z = cc

-- what stood before the rest is no longer than the longest read
operands_most : (b : List ℕ) (r : MateRead) (rest : List ℕ) → read_operands b ≡ parsed r rest → length b ≤ length rest + 8198
operands_most b r rest e =
    let role = get_or (take 6 b) 0 0 in
    let mark = get_or (take 6 b) 1 0 in
    let k = little_endian (drop 2 (take 6 b)) in
    let q = qualities_of mark k in
    let l = drop k (drop 6 b) in
    let head = bytes_were 6 b (λ p. behind (get_or p 0 0) (get_or p 1 0) (little_endian (drop 2 p))) r rest e in
    by_test (read_fits role mark k)
    (λ t.
    let bases = bytes_were k (drop 6 b) (λ x d. bytes_in q d followed_by λ y. next role mark x y) r rest (sym (ap (λ v. cond v (two_in k q (drop 6 b) (next role mark)) wrong) t) ∙ head.1) in
    let qualities = bytes_were q l (λ y. next role mark (take k (drop 6 b)) y) r rest bases.1 in
    let left : length (drop q l) ≡ length rest = ap length (same_rest qualities.1) in
    omega (arith, head.0, bases.0, qualities.0, left, length-drop q l, length-drop k (drop 6 b), length-drop 6 b, read_most role mark k t, qualities_most mark k))
    (λ t. not_wrong (sym (ap (λ v. cond v (two_in k q (drop 6 b) (next role mark)) wrong) t) ∙ head.1))

pub read_longest : (b : List ℕ) (r : MateRead) (rest : List ℕ) → read_in b ≡ parsed r rest → length b ≤ length rest + longest_read
read_longest [] r rest e = not_short e
read_longest (code ∷ b) r rest e =
    by_test (eqb code 4)
    (λ t. omega (arith, operands_most b r rest (sym (ap (λ v. cond v (read_operands b) wrong) t) ∙ e)))
    (λ t. not_wrong (sym (ap (λ v. cond v (read_operands b) wrong) t) ∙ e))
