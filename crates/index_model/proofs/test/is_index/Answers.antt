-- `index_model::test::is_index` meets its contract: another number of rows, or the rows decide.
use native.Mathlib.Omega.{arith}
use Rattle.index_model.specs.Index.{ranked_sequences}
use Rattle.index_model.proofs.Indexing.{length-index, other_number, by_rows}
use Rattle.index_model.proofs.test.is_index.Goals as goal
use Rattle.index_model.proofs.test.is_index.Goals.{then-index-n-via-then-index-n, then-index-n-via-else-index-n+then-index-n-2, then-index-n-via-else-index-n+else-index-n-2+then-index-n-3}

pub returns-then-index-n : goal.returns-then-index-n
returns-then-index-n c =
    let a = c.args in
    let ss = ranked_sequences a.targets.bases.now a.targets.ends.now a.targets.ranked.now in
    other_number a.q ss a.index.keys.now a.index.ranks.now a.index.positions.now
    (λ e. elim c.then-index-n.branch [
      | then-index-n-via-then-index-n w ↦ omega (arith, e.0, length-index a.q ss, c.count_postings-n.ensures)
      | then-index-n-via-else-index-n+then-index-n-2 w ↦ omega (arith, e.1, length-index a.q ss, c.count_postings-n.ensures)
      | then-index-n-via-else-index-n+else-index-n-2+then-index-n-3 w ↦ omega (arith, e.2, length-index a.q ss, c.count_postings-n.ensures)
    ])

pub returns : goal.returns
returns c = by_rows _ _ _ _ _ (record { ranks = omega arith; positions = omega arith }) (omega arith) _ c.rows_right.ensures
