-- A place that fits, and the sequence that is lent for it.
use mathlib.Core.Path.{◌≡◌, sym, ap, ◌∙◌}
use mathlib.Core.Bool.{Bool}
use mathlib.Core.List.{List, []}
use Prim.Native.Nat.{ℕ, ◌+◌, ◌≤◌, ◌<◌}
use native.Mathlib.Omega.{arith}
use lib.ListN.{length, get_or}
use Rattle.lists.specs.Same.{same}
use Rattle.lists.specs.Cut.{window}
use Rattle.bases.specs.Read.{folded, oriented}
use Rattle.catalogue.specs.Catalogue.{max_bases}
use Rattle.index_model.specs.Index.{ranked_sequences}
use Rattle.index_model.proofs.Sequencing.{ranked_many, ranked_length}
use Rattle.map_places.specs.Place.{Place, place, Fits, matches}
use Rattle.map_every_start.specs.Searched.{Searchable}

module _ (bases ends ranked read : List ℕ) (s : Searchable bases ends ranked read) (p : Place) (f : Fits (length read) (ranked_sequences bases ends ranked) p) where
  pub fit_ranked : p.rank < length ranked
  fit_ranked = omega (arith, ranked_many bases ends ranked, f.ranked)

  -- where the place ends, within the bound
  pub fit_end : p.start + length read ≤ max_bases
  fit_end = omega (arith, f.inside, ranked_length bases ends ranked s.lent p.rank fit_ranked)

  module _ (sequence : List ℕ) (e : sequence ≡ get_or (ranked_sequences bases ends ranked) p.rank []) where
    -- what a comparison with the sequence tells
    pub fit_matches : (b : Bool) → b ≡ same (window sequence p.start (length read)) (oriented p.strand (folded read)) → matches (ranked_sequences bases ends ranked) read p ≡ b
    unfolding matches
    fit_matches b t = sym (t ∙ ap (λ l. same (window l p.start (length read)) (oriented p.strand (folded read))) e)

module _ (bases ends ranked : List ℕ) (n rank start : ℕ) where
  -- a start that fits in the sequence of a rank
  pub fit_start : rank < length ranked → (sequence : List ℕ) → sequence ≡ get_or (ranked_sequences bases ends ranked) rank [] → start + n ≤ length sequence → Fits n (ranked_sequences bases ends ranked) (place rank start 0)
  fit_start h sequence e i = record { ranked = omega (arith, ranked_many bases ends ranked); inside = omega (arith, ap length e); stranded = omega arith }
