-- Two runs as the calls of the code make them, one by the index and one plain, of one list of calls.
use Rattle.std.specs.Prelude.{◌≡◌, List, map, ℕ}
use Rattle.promises.specs.Refusal.{accepted}
use Rattle.audit_model.specs.Opening.{columns, none}
use Rattle.audit_model.specs.Calls.{call_outcome}
use Rattle.audit_theorems.specs.Twins.{TwinCall, indexed_call, plain_call}
use Rattle.audit_theorems.specs.Made.{MadeRun, made_calls}

-- its opening was accepted
abbrev pub Opened : MadeRun → Type 0
Opened r = call_outcome r.opening.answer ≡ accepted tt

-- the same settings; the first is lent an index, the second none; and the calls are those of the list
pub record TwinRuns (r r' : MadeRun) (xs : List TwinCall) : Type 0 where
  pub keys : List ℕ
  pub ranks : List ℕ
  pub positions : List ℕ
  pub settings : r'.settings ≡ r.settings
  pub lent : r.lent ≡ columns keys ranks positions
  pub plain : r'.lent ≡ none
  pub calls : made_calls r ≡ map indexed_call xs
  pub plain_calls : made_calls r' ≡ map plain_call xs
  pub plain_end : r'.lent_at_end ≡ none
