-- The second read of a pair observed.
use Rattle.std.specs.Prelude.{Result, Ok, Err}
use Rattle.promises.specs.declared.refusal.Refusal.{Refusal}
use mathlib.Core.Path.{◌≡◌, sym, ap, ◌∙◌}
use mathlib.Core.Bool.{Bool}
use mathlib.Core.List.{List, [], ◌∷◌}
use Prim.Native.Nat.{ℕ}
use Rattle.lists.specs.Cut.{window}
use Rattle.promises.specs.Refusal.{refusal_number, refused}
use Rattle.promises.proofs.Refusing.{outcome_refused, outcome_accepted, outcome_number}
use Rattle.map_every_start.specs.Entries.{entry_count}
use Rattle.map_by_index.specs.Work.{Way}
use Rattle.map_answers.specs.Answer.{Row, answer_of}
use Rattle.map_answers.specs.declared.answer.Mapping.{Mapping}
use Rattle.audit_model.specs.declared.calls.FragmentRows.TheVariants as fragments
use Rattle.audit_model.specs.declared.settings.Settings.{Settings}
use Rattle.audit_model.specs.Observing.{observed_room, observed_row}
use Rattle.audit_model.specs.Calls.{mapping_row}
use Rattle.audit_observe_read.specs.Observed.{as_observed, ReadObserved}
use Rattle.audit_observe_reads.specs.Reads.{SecondObserved}

module _ (s : Settings) (ss : List (List ℕ)) (way : Way) (ranked read : List ℕ) (searched : Bool) (from width : ℕ) (at : from ≡ width) (r : Result Mapping Refusal) (b b' : List ℕ) (o : ReadObserved s ss way ranked read searched from width r b b') (first : Mapping) where
  here : ReadObserved s ss way ranked read searched width width r b b'
  here = rw at at o

  abbrev room : ℕ
  room = observed_room s ss (entry_count (window b width width)) (as_observed searched read)

  abbrev its_row : Row
  its_row = observed_row s ss way (as_observed searched read)

  pub second_refused : (e : Refusal) → r ≡ Err e → SecondObserved s ss way ranked read searched width first (Err e) b b'
  second_refused e told =
      let k = outcome_number room (refusal_number e) its_row (sym here.answer ∙ ap answer_of told) in
      record { answer = ap refused (sym k.0) ∙ outcome_refused room (mapping_row first ∷ its_row ∷ []) (λ z. k.1 (sym k.0 ∙ z)); entries = here.entries }

  pub second_mapped : (m : Mapping) → r ≡ Ok m → SecondObserved s ss way ranked read searched width first (Ok (fragments.Paired (record { first = first; second = m }))) b b'
  second_mapped m e =
      let k = outcome_accepted room its_row (mapping_row m) (sym here.answer ∙ ap answer_of e) in
      record { answer = rw (k.0, k.1); entries = here.entries }
