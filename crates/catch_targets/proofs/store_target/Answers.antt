-- `catch_targets::store_target` meets its contract: bytes behind those of the others, and their ends.
use Rattle.catch_targets.proofs.Storing.{stored, counted}
use Rattle.catch_targets.proofs.store_target.Goals as goal

pub returns : goal.returns
returns c =
    let a = c.args in record { marks_value = stored a.supply a.topology a.name.now a.sequence.now a.identifiers.now a.identifier_ends.now a.bases.now a.base_ends.now a.marks.now _ _ c.requires _ _ c.put_bytes-names.ensures c.put_bytes-total.ensures; value = counted a.supply a.topology a.name.now a.sequence.now a.identifiers.now a.identifier_ends.now a.bases.now a.base_ends.now a.marks.now _ _ c.requires _ _ c.put_bytes-names.ensures c.put_bytes-total.ensures }
