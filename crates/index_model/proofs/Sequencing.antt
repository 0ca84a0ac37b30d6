-- The seeds of sequences, rank after rank: counted and stored.
use mathlib.Core.Path.{◌≡◌, sym, ap, ◌∙◌}
use mathlib.Core.List.{List, [], ◌++◌, append_assoc}
use Prim.Native.Nat.{ℕ, ◌+◌, ◌-◌, ◌*◌, ◌<◌, ◌≤◌}
use native.Mathlib.Omega.{arith}
use native.Mathlib.Numerals.{add-one}
use lib.ListN.{length, get_or, drop, length-append, length-map}
use lib.Seq.{drop-cons}
use lib.Dec.{ltb}
use borrow.Author.Tests.{ltb-true}
use Rattle.lists.specs.Cut.{cut}
use Rattle.lists.proofs.Every.{every_at}
use Rattle.lists.proofs.Places.{get_or-map}
use Rattle.lists.proofs.Cut.{cut_at, ends_at, length-window, start_of}
use Rattle.catalogue.specs.Catalogue.{max_bases}
use Rattle.index_columns.specs.Posting.{Posting}
use Rattle.index_seeds.specs.Seeds.{seeds}
use Rattle.index_seeds.specs.Window.{starts}
use Rattle.index_seeds.proofs.Storing.{length-seeds}
use Rattle.index_seeds.specs.Key.{SeedLength}
use Rattle.index_model.specs.Index.{all_seeds, ranked_sequences, Lent}

-- ---- ranked sequences

pub ranked_many : (bases ends ranked : List ℕ) → length (ranked_sequences bases ends ranked) ≡ length ranked
ranked_many bases ends ranked = length-map ranked (λ p. get_or (cut ends bases) p [])

module _ (bases ends ranked : List ℕ) (l : Lent bases ends ranked) (i : ℕ) (h : i < length ranked) where
  pub place_below : get_or ranked i 0 < length ends
  place_below = ltb-true (get_or ranked i 0) (length ends) (every_at (λ p. ltb p (length ends)) 0 ranked l.places i h)

  pub ranked_at : get_or (cut ends bases) (get_or ranked i 0) [] ≡ get_or (ranked_sequences bases ends ranked) i []
  ranked_at = sym (get_or-map (λ p. get_or (cut ends bases) p []) 0 [] ranked i h)

  -- a sequence is within the bound
  pub ranked_length : length (get_or (ranked_sequences bases ends ranked) i []) ≤ max_bases
  ranked_length =
      let p = get_or ranked i 0 in
      let e = ends_at 0 max_bases ends l.total p place_below in
      let f = ends_at 0 (length bases) ends l.right p place_below in
      let n = length-window bases (start_of 0 ends p) (get_or ends p 0 - start_of 0 ends p) (omega arith) in
      omega (arith, ap length (sym ranked_at ∙ cut_at 0 ends bases p place_below))

-- ---- rank after rank

-- of all seeds, those of the first ranks are done
pub record Reached (q : ℕ) (ss : List (List ℕ)) (rank : ℕ) (done : List Posting) : Type 0 where
  pub inside : rank ≤ length ss
  pub joined : done ++ all_seeds q rank (drop rank ss) ≡ all_seeds q 0 ss
  pub bounded : length done ≤ rank * 16777217

module _ (q : ℕ) (ss : List (List ℕ)) (rank : ℕ) (done : List Posting) (s : Reached q ss rank done) where
  pub reached_more : 1 ≤ q → rank < length ss → length (get_or ss rank []) ≤ max_bases → Reached q ss (rank + 1) (done ++ seeds q rank (get_or ss rank []))
  reached_more some h most =
      record {
        inside = omega arith;
        joined = append_assoc done (seeds q rank (get_or ss rank [])) (all_seeds q (rank + 1) (drop (rank + 1) ss)) ∙ ap (λ l. done ++ l) next ∙ s.joined;
        bounded = omega (arith, s.bounded, length-append done (seeds q rank (get_or ss rank [])), length-seeds q rank (get_or ss rank []) 0 (starts q (get_or ss rank [])));
      }
    where
      next : seeds q rank (get_or ss rank []) ++ all_seeds q (rank + 1) (drop (rank + 1) ss) ≡ all_seeds q rank (drop rank ss)
      next = rw (add-one, drop-cons ss rank [])

-- a count under way
pub record Counting (q : ℕ) (ss : List (List ℕ)) (rank count : ℕ) : Type 0 where
  pub done : List Posting
  pub reached : Reached q ss rank done
  pub counted : count ≡ length done

pub counting_more : (q : ℕ) (ss : List (List ℕ)) (rank count : ℕ) → Counting q ss rank count → 1 ≤ q → rank < length ss → length (get_or ss rank []) ≤ max_bases → Counting q ss (rank + 1) (count + starts q (get_or ss rank []))
counting_more q ss rank count c some h most =
    record {
      done = c.done ++ seeds q rank (get_or ss rank []);
      reached = reached_more q ss rank c.done c.reached some h most;
      counted = omega (arith, c.counted, length-append c.done (seeds q rank (get_or ss rank [])), length-seeds q rank (get_or ss rank []) 0 (starts q (get_or ss rank [])));
    }

-- ---- one rank more, for what is lent

module _ (bases ends ranked : List ℕ) (q : ℕ) (p : Lent bases ends ranked × SeedLength q) (rank : ℕ) (h : rank < length ranked) where
  ranked_inside : rank < length (ranked_sequences bases ends ranked)
  ranked_inside = omega (arith, ranked_many bases ends ranked)

  pub counting_next : (count : ℕ) → Counting q (ranked_sequences bases ends ranked) rank count → Counting q (ranked_sequences bases ends ranked) (rank + 1) (count + starts q (get_or (ranked_sequences bases ends ranked) rank []))
  counting_next count c = counting_more q (ranked_sequences bases ends ranked) rank count c p.1.some ranked_inside (ranked_length bases ends ranked p.0 rank h)
