-- `map_cursor::counted` meets its contract: the moved cursor, the raised count and the candidate.
use Rattle.map_cursor.proofs.counted.Goals as goal

pub returns : goal.returns
returns c =
    let r = c.args.next in
    let e = c.examined_to-counts.ensures in
    λ i. record { cursor = r.cursor; work = e i; candidate = r }
