-- `map_rarest_seed::showing::behind_all` meets its contract: posting by posting, what is left to agree.
use Rattle.index_model.specs.Index.{ranked_sequences}
use Rattle.bases.specs.Read.{oriented}
use Rattle.map_rarest_seed.specs.Shown.{Shown}
use Rattle.map_rarest_seed.proofs.showing.behind_all.Given as goal

abbrev pub invariant-loop-i : goal.invariant-loop-i
invariant-loop-i l = Shown l.q (ranked_sequences l.targets.bases.now l.targets.ends.now l.targets.ranked.now) l.ranks l.positions (oriented l.strand l.read) l.o l.start l.i l.most l.left
