-- The worked examples hold: each is computed.
use mathlib.Core.Path.{refl}
use Rattle.bases.specs.Base.{code_of, complement_of, upper_of, is_capital}
use Rattle.bases.specs.Read.{reverse_complement}
use Rattle.bases.specs.Eligibility.{eligibility}
use Rattle.catalogue.specs.Catalogue.{in_bounds, catalogue_refusal, mapped}
use Rattle.index_seeds.specs.Key.{key_of}
use Rattle.index_model.specs.Index.{index_of, plan_refusal, index_refusal}
use Rattle.map_places.specs.Place.{places, matches, groups}
use Rattle.map_candidates.specs.Search.{comparable}
use Rattle.map_by_index.specs.Work.{work}
use Rattle.indexed_mapper.specs.Map.{read_refusal, map_refusal}
use Rattle.indexed_mapper.specs.Board.{examples, AllHold}

pub board_holds : AllHold examples
unfolding code_of complement_of upper_of is_capital reverse_complement eligibility in_bounds catalogue_refusal mapped key_of index_of plan_refusal index_refusal places matches groups comparable work read_refusal map_refusal
board_holds = (refl, ((refl, refl), ((refl, refl), ((refl, refl), ((refl, refl), ((refl, refl), ((refl, refl), ((refl, refl), ((refl, refl), ((refl, refl), (refl, (refl, (refl, tt)))))))))))))
