-- `record_mapper::map_records` meets its contract: the refusal of the check, or what `map` answers with the copied rows.
use Rattle.std.proofs.lemmas.Result.{err_from_is_err_and}
use Rattle.record_mapper.proofs.Entering.{copy-fits, records_refused, records_mapped}
use Rattle.record_mapper.proofs.map_records.Goals as goal

pub copy_records-requires : goal.copy_records-requires
copy_records-requires c = copy-fits _ _ _ _ _ _ _ c.check_room.ensures _ c.in_ok-n.was

pub returns-in_err-n : goal.returns-in_err-n
returns-in_err-n c = let p = err_from_is_err_and c.from_residual.result c.from_residual.ensures.1 in rw (p.1, p.2) (records_refused _ _ _ _ _ _ _ _ _ _ c.check_room.ensures _ c.in_err-n.was)

pub returns : goal.returns
returns c = records_mapped _ _ _ _ _ _ _ _ _ _ c.check_room.ensures _ c.in_ok-n.was _ _ _ _ _ c.copy_records.ensures c.map.ensures
