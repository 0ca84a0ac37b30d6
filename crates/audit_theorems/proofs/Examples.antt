-- The worked examples hold: each is computed.
use mathlib.Core.Path.{refl}
use mathlib.Core.List.{List, [], ◌∷◌, map}
use Rattle.bases.specs.Base.{code_of, complement_of, upper_of, is_capital}
use Rattle.bases.specs.Read.{reverse_complement}
use Rattle.bases.specs.Eligibility.{eligibility}
use Rattle.catalogue.specs.Catalogue.{in_bounds, catalogue_refusal, mapped}
use Rattle.index_seeds.specs.Key.{key_of}
use Rattle.index_model.specs.Index.{index_of}
use Rattle.map_places.specs.Place.{places, matches, groups}
use Rattle.map_candidates.specs.Search.{comparable}
use Rattle.map_by_index.specs.Work.{work}
use Rattle.indexed_mapper.specs.Board as board
use Rattle.indexed_mapper.proofs.Board.{board_holds}
use Rattle.audit_ledger.specs.Booking.{countable}
use Rattle.audit_ledger.specs.Balance.{balanced}
use Rattle.audit_model.specs.Opening.{opening_refusal}
use Rattle.audit_model.specs.Fragment.{tested_refusal, fragment_refusal}
use Rattle.audit_model.specs.Sheet.{finish_refusal}
use Rattle.catch_model.proofs.Example.{example_written}
use Rattle.audit_theorems.specs.Examples.{catch_run, RunHolds, examples, AllHold, mapper}

catch_holds : RunHolds catch_run
unfolding code_of complement_of upper_of is_capital reverse_complement eligibility in_bounds catalogue_refusal mapped key_of index_of places matches groups comparable work countable balanced opening_refusal fragment_refusal tested_refusal finish_refusal
catch_holds = record { opened = refl; answered = refl; listed = refl; finished = refl; counted = refl; by_target = refl; in_all = refl; worded = refl }

mapper_holds : (xs : List board.Example) → board.AllHold xs → AllHold (map mapper xs)
mapper_holds [] h = tt
mapper_holds (x ∷ xs) h = (h.0, mapper_holds xs h.1)

-- every example of the table
pub examples_hold : AllHold examples
examples_hold = (example_written, (catch_holds, mapper_holds board.examples board_holds))
