-- The reads that were observed: what their rows and entries tell of their groups.
use mathlib.Core.Path.{◌≡◌, refl, ap, ◌∙◌}
use mathlib.Core.Bool.{Bool, true, false, cond}
use mathlib.Core.List.{List, []}
use Prim.Native.Nat.{ℕ, ◌+◌, ◌*◌, ◌≤◌, ◌<◌}
use native.Mathlib.Omega.{arith}
use lib.ListN.{length, get_or, drop, length-map, length-drop}
use lib.Dec.{ltb, leb}
use borrow.Author.Tests.{ltb-false, leb-true}
use Rattle.lists.specs.Member.{◌∈◌}
use Rattle.lists.specs.Order.{Ascending}
use Rattle.lists.specs.Cut.{window}
use Rattle.lists.proofs.Cases.{by_test, and-true}
use Rattle.lists.proofs.Member.{get_or-∈}
use Rattle.buffers.specs.Placed.{placed}
use Rattle.map_places.specs.Place.{Place, before, groups}
use Rattle.map_places.proofs.Placing.{groups-∈, groups_ascending}
use Rattle.map_every_start.proofs.Going.{length-entries}
use Rattle.map_by_index.specs.Work.{Way}
use Rattle.map_answers.specs.Answer.{Row, listed, state_number}
use Rattle.map_answers.specs.Bounds.{limit_right, max_limit}
use Rattle.map_answers.specs.declared.answer.Mapping.{Mapping}
use Rattle.audit_ledger.specs.Booking.{targets_of}
use Rattle.audit_ledger.specs.Counting.{Ranked}
use Rattle.audit_ledger.proofs.Targets.{targets-∈}
use Rattle.audit_counters.specs.Targets.{targets_in, max_groups}
use Rattle.audit_counters.proofs.Choosing.{targets-at}
use Rattle.audit_book_fragment.specs.Books.{Postable}
use Rattle.map_search.proofs.Listed.{none_listed, listed_part}
use Rattle.map_search.proofs.Parts.{listed-room}
use Rattle.audit_model.specs.declared.settings.Settings.{Settings}
use Rattle.audit_model.specs.Observing.{Observed, observed_groups, observed_room, observed_listed, observed_entries, observed_row, observed_booked}
use Rattle.audit_model.specs.Calls.{mapping_row}
use Rattle.audit_book_answer.specs.Answers.{tally_of}
use Rattle.audit_book_answer.proofs.Runs.{groups_grouped}
use Rattle.audit_book_answer.proofs.Posted.{Posts, part_targets}

module _ (s : Settings) (ss : List (List ℕ)) (x : Observed) where
  -- no more than the limit
  few_listed : length (observed_listed s ss x) ≤ s.limit
  few_listed = go (observed_groups s ss x)
    where
      go : (gs : List Place) → length (listed s.limit gs) ≤ s.limit
      go gs = by_test (ltb s.limit (length gs)) (λ t. rw t (omega arith)) (λ t. rw t (omega (arith, ltb-false s.limit (length gs) t)))

  -- they ascend
  listed_ascend : Ascending before (observed_listed s ss x)
  listed_ascend = go x.searched (groups ss x.bases) (groups_ascending ss x.bases)
    where
      go : (b : Bool) (gs : List Place) → Ascending before gs → Ascending before (listed s.limit (cond b gs []))
      go true gs a = by_test (ltb s.limit (length gs)) (λ l. rw l tt) (λ l. rw l a)
      go false gs a = rw (none_listed s.limit) tt

  -- its entries fit its share
  pub observed_short : (ranked : List ℕ) (share : ℕ) → observed_room s ss share x ≡ 0 → length (observed_entries s ss ranked x) ≤ 4 * share
  observed_short ranked share room =
      omega (arith, length-entries ranked (length x.bases) (observed_listed s ss x), listed-room share s.limit (observed_groups s ss x) room)

-- ---- a read observed into its part of the entries

limit_most : (limit : ℕ) → limit_right limit ≡ true → limit ≤ max_groups
limit_most limit t = leb-true limit max_limit (and-true (leb 1 limit) (leb limit max_limit) t).1

module _ (s : Settings) (ss : List (List ℕ)) (way : Way) (ranked : List ℕ) (x : Observed) (m : Mapping) (told : mapping_row m ≡ observed_row s ss way x)
    (share from : ℕ) (room : observed_room s ss share x ≡ 0) (entries zeros : List ℕ) (part : window entries from (4 * share) ≡ placed 0 (observed_entries s ss ranked x) zeros)
    (n : ℕ) (lent : Ranked n ranked) (many : length ranked ≡ length ss) (limit : limit_right s.limit ≡ true) (role : ℕ) where
  abbrev gs : List Place
  gs = observed_listed s ss x

  groups_are : m.groups ≡ length gs
  groups_are = ap (λ (r : Row). r.groups) told

  fits : 4 * length gs ≤ 4 * share
  fits = omega (arith, listed-room share s.limit (observed_groups s ss x) room)

  targets_are : targets_in m.groups (drop from entries) ≡ targets_of ranked gs
  targets_are = ap (λ k. targets_in k (drop from entries)) groups_are ∙ part_targets ranked (length x.bases) (4 * share) from gs entries zeros part fits

  ranked_inside : (p : Place) → p ∈ gs → p.rank < length ranked
  ranked_inside p i = omega (arith, many, (groups-∈ ss x.bases p (listed_part s.limit p x.searched (groups ss x.bases) i)).0.ranked)

  -- what is posted of it is what is booked of it
  pub observed_posts : Posts ranked (record { tally = tally_of role m; entries = drop from entries }) (observed_booked s ss role x)
  observed_posts =
      record {
        role = refl;
        state = ap (λ (r : Row). r.state) told;
        targets = targets_are;
        grouped = groups_grouped ranked lent.distinct gs (listed_ascend s ss x) ranked_inside;
      }

  -- its targets have counters
  pub observed_postable : role < 3 → state_number m.state < 6 → from + 4 * share ≤ length entries → Postable n (record { tally = tally_of role m; entries = drop from entries })
  observed_postable r t within =
      record {
        tallied = record { role = r; state = t; groups = omega (arith, groups_are, few_listed s ss x, limit_most s.limit limit) };
        targeted = record { room = omega (arith, groups_are, fits, length-drop from entries); inside = inside };
      }
    where
      inside : (i : ℕ) → i < m.groups → get_or (drop from entries) (4 * i) 0 < n
      inside i h =
          let e = targets-at m.groups (drop from entries) i h in
          let k : i < length (targets_of ranked gs) = omega (arith, h, groups_are, length-map gs (λ (p : Place). get_or ranked p.rank 0)) in
          let z = lent.inside _ (targets-∈ ranked gs ranked_inside _ (get_or-∈ 0 (targets_of ranked gs) i k)) in
          omega (arith, e, ap (λ l. get_or l i 0) targets_are, z)
