-- One fragment call of both audits, accepted by both: every read agrees, and what is booked is the same.
use mathlib.Core.Path.{◌≡◌, refl, sym, ap, ap₂, ◌∙◌}
use mathlib.Core.Bool.{Bool, true, false, cond}
use mathlib.Core.List.{List, [], ◌∷◌, map}
use Prim.Native.Nat.{ℕ, suc, ◌+◌, ◌*◌, ◌≤◌, ◌<◌}
use native.Mathlib.Nat.{mul-suc}
use native.Mathlib.Omega.{arith}
use lib.ListN.{length, drop, length-map}
use Rattle.lists.specs.Cut.{window}
use Rattle.lists.specs.Member.{◌∈◌}
use Rattle.lists.proofs.Sort.{length_sort}
use Rattle.promises.proofs.Refusing.{none_first, none_second}
use Rattle.bases.proofs.Turning.{length-reverse_complement}
use Rattle.catalogue.specs.Catalogue.{Catalogue, Valid, mapped, supplied_places}
use Rattle.buffers.specs.Placed.{placed}
use Rattle.index_model.specs.Index.{mapped_sequences}
use Rattle.map_places.specs.Place.{Place}
use Rattle.map_places.proofs.Placing.{groups-∈}
use Rattle.map_every_start.specs.Entries.{cleared}
use Rattle.map_by_index.specs.Work.{Way, by_index, plain}
use Rattle.indexed_mapper.specs.Laws.{turned_groups}
use Rattle.indexed_mapper.proofs.Matching.{as_many}
use Rattle.audit_ledger.specs.Booking.{Booked, Books, targets_of, ledger_with, counters_with, booked_one, booked_all}
use Rattle.audit_model.specs.declared.settings.Settings.{Settings}
use Rattle.audit_model.specs.Observing.{MateRead, mate_refusal, mate_booked, observe, observed_listed, observed_entries, observed_row}
use Rattle.audit_model.specs.Fragment.{first_refusal}
use Rattle.audit_model.proofs.Parts.{InParts}
use Rattle.audit_theorems.specs.Placements.{placements_in, placements_if, turned_placements}
use Rattle.lists.specs.Each.{Each, no_more, both}
use Rattle.audit_theorems.specs.Twins.{TwinRead, turned_mate, plain_mate, ReadAgrees, TwinRow}
use Rattle.audit_theorems.proofs.Placing.{placement_of, placements_listed, placements_turned}
use Rattle.audit_theorems.proofs.Turned.{listed-∈, read_fewer, state_turned, read_turned, targets-turned}

-- ---- reads booked alike

length-turned : (gs : List Place) → length (turned_groups gs) ≡ length gs
length-turned gs = rw (length_sort, length-map)

-- what a booking reads of a read: its role, its state and its targets
booked_same : (ranked : List ℕ) (b b' : Booked) → b.role ≡ b'.role → b.state ≡ b'.state → targets_of ranked b.groups ≡ targets_of ranked b'.groups → (books : Books) → booked_one ranked b books ≡ booked_one ranked b' books
booked_same ranked b b' e f g books =
    λ i. record { ledger = ledger_with (record { role = e i; state = f i; groups = [] }) (g i) books.ledger; counters = counters_with (g i) books.counters }

module _ (q offset : ℕ) (some : 1 ≤ q) (c : Catalogue) (valid : Valid c) (s : Settings) where
  abbrev ss : List (List ℕ)
  ss = mapped_sequences c

  abbrev ranked : List ℕ
  ranked = supplied_places c

  -- ---- one read

  -- both audits book it alike
  one_booked : (t : TwinRead) → mate_refusal offset s t.mate ≡ 0 → mate_refusal offset s (plain_mate t) ≡ 0
      → (books : Books) → booked_one ranked (mate_booked offset s ss t.mate) books ≡ booked_one ranked (mate_booked offset s ss (plain_mate t)) books
  one_booked t z z' = go t.turns z'
    where
      go : (b : Bool) → mate_refusal offset s (cond b (turned_mate t.mate) t.mate) ≡ 0
          → (books : Books) → booked_one ranked (mate_booked offset s ss t.mate) books ≡ booked_one ranked (mate_booked offset s ss (cond b (turned_mate t.mate) t.mate)) books
      go true y =
          booked_same ranked (mate_booked offset s ss t.mate) (mate_booked offset s ss (turned_mate t.mate)) refl
          (state_turned offset s ss t.mate z y) (targets-turned offset s ss t.mate z y ranked)
      go false y = λ books. refl

  -- the placements of a read stand in its part
  part_shows : (way : Way) (m : MateRead) (part before : List ℕ) → part ≡ placed 0 (observed_entries s ss ranked (observe offset s m)) (cleared before)
      → placements_in (observed_row s ss way (observe offset s m)).groups part ≡ map (placement_of ranked (length m.read.bases)) (observed_listed s ss (observe offset s m))
  part_shows way m part before e =
      ap (placements_in (length (observed_listed s ss (observe offset s m)))) e
      ∙ placements_listed ranked (length m.read.bases) (observed_listed s ss (observe offset s m)) (drop (0 + length (observed_entries s ss ranked (observe offset s m))) (cleared before))

  listed_ranked : (m : MateRead) (p : Place) → p ∈ observed_listed s ss (observe offset s m) → p.rank < length (mapped c)
  listed_ranked m p k = omega (arith, (groups-∈ ss m.read.bases p (listed-∈ offset s ss m p k)).0.ranked, as_many c valid)

  -- it agrees
  one_agrees : (t : TwinRead) → mate_refusal offset s t.mate ≡ 0 → mate_refusal offset s (plain_mate t) ≡ 0
      → (part before part' before' : List ℕ) → part ≡ placed 0 (observed_entries s ss ranked (observe offset s t.mate)) (cleared before) → part' ≡ placed 0 (observed_entries s ss ranked (observe offset s (plain_mate t))) (cleared before')
      → ReadAgrees c t (observed_row s ss (by_index q) (observe offset s t.mate)) (observed_row s ss plain (observe offset s (plain_mate t))) part part'
  one_agrees t z z' part before part' before' e e' =
      let r = go t.turns z' e' in
      record { state = r.0; groups = r.1; placements = r.2; fewer = λ f. rw f (read_fewer offset s ss q some t.mate) }
    where
      go : (b : Bool) → mate_refusal offset s (cond b (turned_mate t.mate) t.mate) ≡ 0 → part' ≡ placed 0 (observed_entries s ss ranked (observe offset s (cond b (turned_mate t.mate) t.mate))) (cleared before')
          → ((observed_row s ss (by_index q) (observe offset s t.mate)).state ≡ (observed_row s ss plain (observe offset s (cond b (turned_mate t.mate) t.mate))).state)
          × ((observed_row s ss (by_index q) (observe offset s t.mate)).groups ≡ (observed_row s ss plain (observe offset s (cond b (turned_mate t.mate) t.mate))).groups)
          × (placements_in (observed_row s ss plain (observe offset s (cond b (turned_mate t.mate) t.mate))).groups part' ≡ placements_if b c (placements_in (observed_row s ss (by_index q) (observe offset s t.mate)).groups part))
      go true y x = (
        state_turned offset s ss t.mate z y,
        sym (length-turned (observed_listed s ss (observe offset s t.mate))) ∙ ap length (sym (read_turned offset s ss t.mate z y)),
        part_shows plain (turned_mate t.mate) part' before' x
            ∙ ap₂ (λ n l. map (placement_of ranked n) l) (length-reverse_complement t.mate.read.bases) (read_turned offset s ss t.mate z y)
            ∙ placements_turned c valid (length t.mate.read.bases) (observed_listed s ss (observe offset s t.mate)) (listed_ranked t.mate)
            ∙ ap (turned_placements c) (sym (part_shows (by_index q) t.mate part before e)),
      )
      go false y x = (
        refl,
        refl,
        part_shows plain t.mate part' before' x ∙ sym (part_shows (by_index q) t.mate part before e),
      )

  -- ---- all reads

  abbrev mates : List TwinRead → List MateRead
  mates ts = map (λ (t : TwinRead). t.mate) ts

  -- none of the reads is refused, and none is as the second audit gets it
  abbrev Unrefused : List MateRead → Type 0
  Unrefused rs = first_refusal (mate_refusal offset s) rs ≡ 0

  first_unrefused : (r : MateRead) (rs : List MateRead) → Unrefused (r ∷ rs) → mate_refusal offset s r ≡ 0
  first_unrefused r rs z = none_first (mate_refusal offset s r) (first_refusal (mate_refusal offset s) rs) z

  rest_unrefused : (r : MateRead) (rs : List MateRead) → Unrefused (r ∷ rs) → Unrefused rs
  rest_unrefused r rs z = none_second (mate_refusal offset s r) (first_refusal (mate_refusal offset s) rs) z

  pub all_booked : (ts : List TwinRead) → Unrefused (mates ts) → Unrefused (map plain_mate ts) → (books : Books)
      → booked_all ranked (map (mate_booked offset s ss) (mates ts)) books ≡ booked_all ranked (map (mate_booked offset s ss) (map plain_mate ts)) books
  all_booked [] z z' books = refl
  all_booked (t ∷ ts) z z' books =
      all_booked ts (rest_unrefused t.mate (mates ts) z) (rest_unrefused (plain_mate t) (map plain_mate ts) z') (booked_one ranked (mate_booked offset s ss t.mate) books)
      ∙ ap (booked_all ranked (map (mate_booked offset s ss) (map plain_mate ts)))
      (one_booked t (first_unrefused t.mate (mates ts) z) (first_unrefused (plain_mate t) (map plain_mate ts) z') books)

  -- the rows of a read
  abbrev pub twin_row : TwinRead → TwinRow
  twin_row t = record { first = observed_row s ss (by_index q) (observe offset s t.mate); second = observed_row s ss plain (observe offset s (plain_mate t)) }

  -- each read from the place i on
  pub all_agree : (ts : List TwinRead) → Unrefused (mates ts) → Unrefused (map plain_mate ts) → (width width' i : ℕ) (before after before' after' : List ℕ)
      → InParts cleared width (width * i) (map (λ (r : MateRead). observed_entries s ss ranked (observe offset s r)) (mates ts)) before after → InParts cleared width' (width' * i) (map (λ (r : MateRead). observed_entries s ss ranked (observe offset s r)) (map plain_mate ts)) before' after'
      → Each (λ i (t : TwinRead) (x : TwinRow). ReadAgrees c t x.first x.second (window after (width * i) width) (window after' (width' * i) width')) i ts (map twin_row ts)
  all_agree [] z z' width width' i before after before' after' p p' = no_more i
  all_agree (t ∷ ts) z z' width width' i before after before' after' p p' =
      both i t (twin_row t) ts (map twin_row ts)
      (one_agrees t (first_unrefused t.mate (mates ts) z) (first_unrefused (plain_mate t) (map plain_mate ts) z')
      (window after (width * i) width) (window before (width * i) width) (window after' (width' * i) width') (window before' (width' * i) width') p.0 p'.0)
      (all_agree ts (rest_unrefused t.mate (mates ts) z) (rest_unrefused (plain_mate t) (map plain_mate ts) z') width width' (suc i) before after before' after' (rw (mul-suc width i) p.1) (rw (mul-suc width' i) p'.1))
