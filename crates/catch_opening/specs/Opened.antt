-- The opening of a job: refused, or its targets ranked and indexed (REFERENCE.md, "Stream").
use Rattle.std.specs.Prelude.{◌≡◌, List, ℕ, ◌≤◌, length, take, Result, Ok, Err}
use Rattle.promises.specs.declared.refusal.Refusal.{Refusal}
use Rattle.promises.specs.Refusal.{refusal_number}
use Rattle.catalogue.specs.Catalogue.{Catalogue, supplied_places, max_targets}
use Rattle.index_seeds.specs.Seeds.{keys_of, ranks_of, positions_of}
use Rattle.index_model.specs.Index.{index}
use Rattle.audit_ledger.specs.Booking.{Counters}
use Rattle.audit_model.specs.declared.settings.Settings.{Settings}
use Rattle.audit_model.specs.Settings.{audit_seed, audit_offset}
use Rattle.audit_model.specs.Opening.{opening_refusal}
use Rattle.catch_model.specs.Job.{lent_of}
use Rattle.catch_opening.specs.declared.Indexed.{Indexed}

-- room for the ranks of targets, and for a posting at each base
pub record JobRoom (ranked ks rs os bases : List ℕ) : Type 0 where
  pub places : length ranked ≡ max_targets
  pub keys : length bases ≤ length ks
  pub ranks : length bases ≤ length rs
  pub positions : length bases ≤ length os

-- the supplied place of each rank, and the index, stand at the front
pub record JobIndexed (c : Catalogue) (i : Indexed) (ranked ks rs os : List ℕ) : Type 0 where
  pub several : i.ranked ≡ length (supplied_places c)
  pub many : i.postings ≡ length (index audit_seed c)
  pub places : take i.ranked ranked ≡ supplied_places c
  pub keys : take i.postings ks ≡ keys_of (index audit_seed c)
  pub ranks : take i.postings rs ≡ ranks_of (index audit_seed c)
  pub positions : take i.postings os ≡ positions_of (index audit_seed c)

-- the opening by the index of the targets refuses, or it does not and they are ranked and indexed
abbrev pub JobOpens : Catalogue → Settings → Counters → Result Indexed Refusal → List ℕ → List ℕ → List ℕ → List ℕ → Type 0
JobOpens c s k (Err e) ranked ks rs os = (opening_refusal audit_seed audit_offset c (lent_of c) s k ≡ refusal_number e) × (refusal_number e ≡ 0 → ⊥)
JobOpens c s k (Ok i) ranked ks rs os = (opening_refusal audit_seed audit_offset c (lent_of c) s k ≡ 0) × JobIndexed c i ranked ks rs os
