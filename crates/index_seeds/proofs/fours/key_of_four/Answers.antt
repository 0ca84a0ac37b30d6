-- `index_seeds::fours::key_of_four` meets its contract: the four capitals are the window.
use mathlib.Core.Path.{sym, ap, ◌∙◌}
use Rattle.index_seeds.specs.Key.{key_of}
use Rattle.index_seeds.proofs.Capitals.{window_four}
use Rattle.index_seeds.proofs.fours.key_of_four.Goals as goal

pub returns : goal.returns
returns c =
    c.key_of_capitals.ensures ∙ ap key_of (sym (window_four c.args.sequence.now c.args.at c.requires.inside))
