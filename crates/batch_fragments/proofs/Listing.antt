-- The fragments of a list, one after the other: what is done, and what is left to do.
use mathlib.Core.Path.{◌≡◌, sym, ap, ap₂, subst, ◌∙◌}
use mathlib.Core.List.{List, [], ◌∷◌, ◌++◌, append_assoc, append-nil}
use Prim.Native.Nat.{ℕ, suc, ◌+◌, ◌*◌, ◌≤◌, ◌<◌}
use native.Mathlib.Omega.{arith}
use native.Mathlib.Numerals.{add-one}
use native.Mathlib.Nat.{mul-zero, mul-suc, mul-le-mul_left}
use lib.ListN.{length, get_or, take, drop, take-append-drop, drop_of_length-le}
use lib.Seq.{drop-cons, drop-drop, take-length}
use Rattle.lists.specs.Cut.{window}
use Rattle.lists.specs.Sum.{sum}
use Rattle.lists.proofs.Cut.{length-window}
use Rattle.buffers.proofs.Storing.{length-placed}
use Rattle.map_by_index.specs.Work.{Way}
use Rattle.audit_ledger.specs.Booking.{Counters}
use Rattle.audit_model.specs.declared.settings.AuditState.{AuditState}
use Rattle.audit_model.specs.Settings.{Held}
use Rattle.audit_model.specs.Opening.{IndexLent}
use Rattle.audit_model.specs.Run.{Call}
use Rattle.batch_lists.specs.Lists.{ReadLists, fragments_from}
use Rattle.batch_lists.specs.Listed.{calls_of, outcome_rows, all_rows, all_shares}
use Rattle.batch_fragments.specs.Listed.{call_at, tested_answer, tested_answers, tested_after, FragmentListed, ListAudited}
use Rattle.batch_fragments.proofs.Mates.{length_reads}
use Rattle.batch_fragments.proofs.Shares.{Alike, length_told, length_share, next_alike, take-placed, drop-placed}

onwards : {h h' h'' : Held} → Alike h h' → Alike h' h'' → Alike h h''
onwards a b = record { settings = b.settings ∙ a.settings; placements = b.placements ∙ a.placements; singles = b.singles ∙ a.singles; multi = b.multi ∙ a.multi }

module _ (offset : ℕ) (ss : List (List ℕ)) (way : Way) (ranked : List ℕ) (lent : IndexLent) (l : ReadLists) (width : ℕ) (os ns : List ℕ) where
  -- the calls from the i-th fragment on, whose first read is at a place
  abbrev rest : ℕ → ℕ → List ℕ → List Call
  rest i at es = calls_of lent width (drop (width * i) es) (fragments_from l at (drop i os) (drop i ns))

  -- i fragments are done, with the reads before a place: rows and shares of them stand, and the others give what is missing
  pub record Going (h₀ : Held) (es₀ : List ℕ) (i at : ℕ) (h : Held) (rows es : List ℕ) : Type 0 where
    pub within : i ≤ length os
    pub counted : at + sum (drop i ns) ≡ sum ns
    pub held : tested_after offset ss way ranked h₀ (rest 0 0 es₀) ≡ tested_after offset ss way ranked h (rest i at es)
    pub told : all_rows (rest 0 0 es₀) (tested_answers offset ss way ranked h₀ (rest 0 0 es₀)) ≡ take (8 * at) rows ++ all_rows (rest i at es) (tested_answers offset ss way ranked h (rest i at es))
    pub left : all_shares (tested_answers offset ss way ranked h₀ (rest 0 0 es₀)) ≡ take (width * i) es ++ all_shares (tested_answers offset ss way ranked h (rest i at es))
    pub behind : drop (width * i) es ≡ drop (width * i) es₀
    pub rows_long : length rows ≡ 8 * sum ns
    pub entries_long : length es ≡ length es₀
    pub alike : Alike h₀ h

  module _ (same : length ns ≡ length os) (h₀ : Held) (es₀ : List ℕ) (room : width * length os ≤ length es₀) where
    module _ (i at : ℕ) (h : Held) (rows es : List ℕ) (g : Going h₀ es₀ i at h rows es) where
      module _ (more : i < length os) where
        abbrev ordinal : ℕ
        ordinal = get_or os i 0

        abbrev count : ℕ
        count = get_or ns i 0

        abbrev call : Call
        call = call_at lent l ordinal at count (window es (width * i) width)

        some_left : drop i ns ≡ count ∷ drop (suc i) ns
        some_left = drop-cons ns i 0 (omega arith)

        -- the rows of this fragment have room
        pub rows-room : at + count ≤ sum ns
        rows-room = omega (arith, g.counted, ap sum some_left)

        next_begins : width * (i + 1) ≡ width * i + width
        next_begins = ap (λ n. width * n) (add-one i) ∙ mul-suc width i

        -- and so has its share
        pub share_room : width * (i + 1) ≤ length es
        share_room = let m : width * suc i ≤ width * length os = mul-le-mul_left width more in omega (arith, g.entries_long, room, ap (λ n. width * n) (add-one i))

        module _ (state : AuditState) (k : Counters) (rows' es' : List ℕ) (f : FragmentListed offset ss way ranked h call (width * i) at state k rows es rows' es') where
          abbrev h' : Held
          h' = record { state = state; counters = k }

          abbrev fragment_rows : List ℕ
          fragment_rows = outcome_rows (length call.fragment.reads) (tested_answer offset ss way ranked h call).rows

          abbrev share : List ℕ
          share = (tested_answer offset ss way ranked h call).entries

          -- where the next rows and the next share begin
          rows_end : 8 * (at + count) ≡ 8 * at + length fragment_rows
          rows_end = omega (arith, length_told offset ss way ranked h call, length_reads l at count)

          share_long : length share ≡ width
          share_long =
              let fits : width * i + width ≤ length es = omega (arith, share_room, next_begins) in
              length_share offset ss way ranked h call ∙ length-window es (width * i) width fits

          share_end : width * (i + 1) ≡ width * i + length share
          share_end = omega (arith, next_begins, share_long)

          rows_fit : 8 * at + length fragment_rows ≤ length rows
          rows_fit = omega (arith, rows_end, rows-room, g.rows_long)

          share_fits : width * i + length share ≤ length es
          share_fits = omega (arith, share_room, next_begins, share_long)

          next_share : (b : List ℕ) → drop width (drop (width * i) b) ≡ drop (width * (i + 1)) b
          next_share b = drop-drop width (width * i) b ∙ ap (λ n. drop n b) (sym next_begins)

          behind_share : drop (width * (i + 1)) es' ≡ drop (width * (i + 1)) es
          behind_share = ap (drop (width * (i + 1))) f.left ∙ drop-placed (width * i) share es (width * (i + 1)) share_fits share_end

          -- this call, then the rest
          one_done : rest i at es ≡ call ∷ rest (i + 1) (at + count) es'
          one_done =
              ap₂ (λ x y. calls_of lent width (drop (width * i) es) (fragments_from l at x y)) (drop-cons os i 0 more) some_left
              ∙ ap₂ (λ b n. call ∷ calls_of lent width b (fragments_from l (at + count) (drop n os) (drop n ns))) (next_share es ∙ sym behind_share) (sym (add-one i))

          gone : Going h₀ es₀ (i + 1) (at + count) h' rows' es'
          gone =
              record {
                within = omega arith;
                counted = omega (arith, g.counted, ap sum some_left, ap (λ n. sum (drop n ns)) (add-one i));
                held = g.held ∙ ap (tested_after offset ss way ranked h) one_done ∙ ap (λ z. tested_after offset ss way ranked z (rest (i + 1) (at + count) es')) (sym f.held);
                told =
                    g.told ∙ ap (λ z. take (8 * at) rows ++ all_rows z (tested_answers offset ss way ranked h z)) one_done
                    ∙ sym (append_assoc (take (8 * at) rows) fragment_rows _)
                    ∙ ap₂ (λ x z. x ++ all_rows (rest (i + 1) (at + count) es') (tested_answers offset ss way ranked z (rest (i + 1) (at + count) es')))
                    (sym (ap (take (8 * (at + count))) f.told ∙ take-placed (8 * at) fragment_rows rows (8 * (at + count)) rows_fit rows_end)) (sym f.held);
                left =
                    g.left ∙ ap (λ z. take (width * i) es ++ all_shares (tested_answers offset ss way ranked h z)) one_done
                    ∙ sym (append_assoc (take (width * i) es) share _)
                    ∙ ap₂ (λ x z. x ++ all_shares (tested_answers offset ss way ranked z (rest (i + 1) (at + count) es')))
                    (sym (ap (take (width * (i + 1))) f.left ∙ take-placed (width * i) share es (width * (i + 1)) share_fits share_end)) (sym f.held);
                behind = behind_share ∙ sym (next_share es) ∙ ap (drop width) g.behind ∙ next_share es₀;
                rows_long = ap length f.told ∙ length-placed (8 * at) fragment_rows rows rows_fit ∙ g.rows_long;
                entries_long = ap length f.left ∙ length-placed (width * i) share es share_fits ∙ g.entries_long;
                alike = onwards g.alike (subst (Alike h) (sym f.held) (next_alike offset ss way ranked h call));
              }

          pub step : (j to : ℕ) → j ≡ i + 1 → to ≡ at + count → Going h₀ es₀ j to h' rows' es'
          step j to e n = subst (λ y. Going h₀ es₀ j y h' rows' es') (sym n) (subst (λ x. Going h₀ es₀ x (at + count) h' rows' es') (sym e) gone)

      -- all are done
      pub done : length os ≤ i → ListAudited offset ss way ranked h₀ (calls_of lent width es₀ (fragments_from l 0 os ns)) (width * length os) h.state h.counters rows es₀ es
      done past =
          record {
            held = sym (ap (tested_after offset ss way ranked h₀) whole ∙ g.held ∙ ap (tested_after offset ss way ranked h) none);
            told = sym (ap (λ z. all_rows z (tested_answers offset ss way ranked h₀ z)) whole ∙ g.told ∙ ap (λ z. take (8 * at) rows ++ all_rows z (tested_answers offset ss way ranked h z)) none ∙ append-nil (take (8 * at) rows) ∙ all_rows_lem);
            left = sym (ap₂ ◌++◌ (ap (λ z. all_shares (tested_answers offset ss way ranked h₀ z)) whole ∙ g.left ∙ ap (λ z. take (width * i) es ++ all_shares (tested_answers offset ss way ranked h z)) none ∙ append-nil (take (width * i) es)) (ap (λ n. drop (width * n) es₀) last ∙ sym g.behind) ∙ take-append-drop (width * i) es);
          }
        where
          last : length os ≡ i
          last = omega (arith, past, g.within)

          whole : calls_of lent width es₀ (fragments_from l 0 os ns) ≡ rest 0 0 es₀
          whole = rw mul-zero

          none : rest i at es ≡ []
          none = ap (λ z. calls_of lent width (drop (width * i) es) (fragments_from l at z (drop i ns))) (drop_of_length-le os past)

          all_rows_lem : take (8 * at) rows ≡ rows
          all_rows_lem =
              let short : length ns ≤ i = omega (arith, same, past) in
              let e : 8 * at ≡ length rows = omega (arith, g.counted, g.rows_long, ap sum (drop_of_length-le ns short)) in
              ap (λ n. take n rows) e ∙ take-length rows
