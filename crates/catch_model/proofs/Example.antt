-- What is written for the example of the rules.
use mathlib.Core.Path.{◌≡◌, refl}
use Rattle.bases.specs.Base.{code_of, complement_of, upper_of, is_capital}
use Rattle.bases.specs.Read.{reverse_complement}
use Rattle.bases.specs.Eligibility.{eligibility}
use Rattle.catalogue.specs.Catalogue.{in_bounds, catalogue_refusal, mapped}
use Rattle.index_seeds.specs.Key.{key_of}
use Rattle.index_model.specs.Index.{index_of}
use Rattle.map_places.specs.Place.{places, matches, groups}
use Rattle.map_candidates.specs.Search.{comparable}
use Rattle.map_by_index.specs.Work.{work}
use Rattle.audit_ledger.specs.Booking.{countable}
use Rattle.audit_ledger.specs.Balance.{balanced}
use Rattle.audit_model.specs.Opening.{opening_refusal}
use Rattle.audit_model.specs.Fragment.{tested_refusal, fragment_refusal}
use Rattle.audit_model.specs.Sheet.{finish_refusal}
use Rattle.catch_text.specs.Text.{digits}
use Rattle.catch_model.specs.Job.{catch, written}
use Rattle.catch_model.specs.Example.{example_stream, example_lines}

pub example_written : catch example_stream ≡ example_lines
unfolding code_of complement_of upper_of is_capital reverse_complement eligibility in_bounds catalogue_refusal mapped key_of index_of places matches groups comparable work countable balanced opening_refusal fragment_refusal tested_refusal finish_refusal digits written
example_written = refl
